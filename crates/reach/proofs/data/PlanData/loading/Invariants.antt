use Rattle.std.proofs.Common.{◌≡◌, ℕ, ◌<◌, true}
use Rattle.sets.specs.Sets.{member}
use Rattle.reach.specs.Data.{sets_in}
use Rattle.reach.proofs.data.PlanData.loading.Given as goal

abbrev pub invariant-loop-m : goal.invariant-loop-m
invariant-loop-m g l = (m e : ℕ) → m < l.m → g.S.DependencyStore.loads l.store m l.d.0 ≡ true → sets_in l.self m e ≡ true → member l.found e ≡ true
