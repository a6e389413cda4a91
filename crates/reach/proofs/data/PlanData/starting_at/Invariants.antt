use Rattle.std.proofs.Common.{◌≡◌, ℕ, ◌<◌, true}
use Rattle.sets.specs.Sets.{member}
use Rattle.tables.specs.Graph.{start}
use Rattle.reach.specs.Data.{panel_in}
use Rattle.reach.proofs.data.PlanData.starting_at.Given as goal

abbrev pub invariant-loop-e : goal.invariant-loop-e
invariant-loop-e l = (e : ℕ) → e < l.e → start (panel_in l.self) e ≡ l.m.0 → member l.found e ≡ true
