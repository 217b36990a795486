-- A literal is a fact with a value, true or false. Numbers and states say which literals are meant.
use Rattle.std.specs.Prelude.{zero, suc, Bool, true, false, not, ℤ, pos, negsuc}

-- What a number says of a fact: a positive one says true, a negative one says false, 0 says nothing.
abbrev pub says : ℤ → Bool → Bool
says (pos zero) v = false
says (pos (suc n)) v = v
says (negsuc n) v = not v

-- The value v is the one that a fact has.
abbrev pub is : Bool → Bool → Bool
is true b = b
is false b = not b
