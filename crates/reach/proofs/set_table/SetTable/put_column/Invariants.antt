use Rattle.std.proofs.Common.{◌≡◌, ℕ, cond, ◌&&◌, eqb, ltb}
use Rattle.walks.specs.Walks.{has}
use Rattle.walks.specs.Walkers.{taken_by}
use Rattle.reach.specs.Held.{held}
use Rattle.reach.proofs.set_table.SetTable.put_column.Given as goal

abbrev pub invariant-loop-y : goal.invariant-loop-y
invariant-loop-y l =
    (y k : ℕ) → held l.set-items y k ≡ cond (eqb k l.e && ltb y l.y) (has (taken_by l.walker) y) (held l.initial.set-items y k)
