-- The kinds of words: what each says where it stands.
use Rattle.std.specs.Prelude.{◌≡◌, ℕ, Bool, false, cond, not, ◌&&◌, List, Some, None, Option}
use Rattle.std.specs.Str.{bytes_eq}
use Rattle.sheet.specs.declared.word.Head.{Head}
use Rattle.sheet.specs.declared.word.Literal.{Literal}
use Rattle.sheet.specs.declared.word.Word.{Word}
use Rattle.sheet.specs.declared.word.Word.TheVariants as word
use Rattle.sheet.specs.Forms.{text}
use Rattle.sheet.specs.Literals.{minus, bare, said}
use Rattle.sheet.specs.Name.{name}
use Rattle.sheet.specs.Number.{number}
use Rattle.sheet.specs.Dues.{among}

-- The head that is due, where the bytes spell it.
abbrev pub head_word : Head → List ℕ → Option Word
head_word h w = cond (bytes_eq w (text h)) (Some (word.Head h)) None

-- The bytes as a literal: its sign, and its digits.
abbrev pub Signed : List ℕ → Word → Type 0
Signed bs (word.Head h) = ⊥
Signed bs (word.Name n) = ⊥
Signed bs (word.Number n) = ⊥
Signed bs (word.Literal holds digits) = (holds ≡ not (minus bs)) × (digits.now ≡ bare bs)

-- The number up to high that a word says.
abbrev pub number_of : ℕ → Word → Option ℕ
number_of high (word.Head h) = None
number_of high (word.Name n) = None
number_of high (word.Number n) = number high n.now
number_of high (word.Literal holds digits) = None

-- Whether a word says a name that is not used already.
abbrev pub fresh_name : List (List ℕ) → Word → Bool
fresh_name used (word.Head h) = false
fresh_name used (word.Name n) = name n.now && not (among n.now used)
fresh_name used (word.Number n) = false
fresh_name used (word.Literal holds digits) = false

-- The literal that a word says.
abbrev pub literal_of : Bool → ℕ → Word → Option Literal
literal_of signs facts (word.Head h) = None
literal_of signs facts (word.Name n) = None
literal_of signs facts (word.Number n) = None
literal_of signs facts (word.Literal holds digits) = said signs facts holds digits.now
