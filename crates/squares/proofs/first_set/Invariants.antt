use Rattle.std.proofs.Common.{◌≡◌, ℕ, ◌-◌, ◌<◌, ◌≤◌, false}
use Rattle.squares.specs.Square.{bits_in}
use Rattle.squares.proofs.first_set.Given as goal

abbrev pub invariant-loop-d : goal.invariant-loop-d
invariant-loop-d l = (l.from ≤ l.d) × ((k : ℕ) → l.from ≤ k → k < l.d → bits_in l.row k ≡ false)

abbrev pub decreases-loop-d : goal.decreases-loop-d
decreases-loop-d l = l.size - l.d
