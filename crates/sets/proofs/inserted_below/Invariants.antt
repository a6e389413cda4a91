use Rattle.std.proofs.Common.{◌≡◌, ℕ, ltb}
use Rattle.sets.specs.Sets.{member}
use Rattle.sets.proofs.inserted_below.Given as goal

abbrev pub invariant-loop-e : goal.invariant-loop-e
invariant-loop-e l = (k : ℕ) → member l.set k ≡ ltb k l.e
