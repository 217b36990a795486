use Rattle.std.proofs.Common.{◌≡◌, ℕ, ◌<◌, ◌≤◌, length, get_or, take}
use Rattle.sets.specs.Sets.{among}
use Rattle.tasks.specs.Bans.{listed}
use Rattle.tasks.proofs.ban.Ban.new.Given as goal

abbrev pub invariant-loop-a : goal.invariant-loop-a
invariant-loop-a g l = record {
  within : l.a-index ≤ length l.out;
  small : (k : ℕ) → k < l.a-index → get_or l.out k 0 < l.actions;
  are : (a : ℕ) → among l.banned a ≡ listed (take l.a-index l.out) a;
}
