use Rattle.std.proofs.Common.{◌≡◌, vec_len}
use Rattle.sets.specs.Sets.{member}
use Rattle.walks.specs.Walkers.{size_of}
use Rattle.reach.specs.Data.{panel_in, graph_in, sets_in}
use Rattle.reach.specs.Exact.{Anew}
use Rattle.reach.specs.Held.{held}
use Rattle.reach.proofs.data.PlanData.walk_again.Given as goal

abbrev pub invariant-loop-e : goal.invariant-loop-e
invariant-loop-e g l = record {
  size : size_of l.walker ≡ size_of l.initial.walker;
  wide : l.sets.entries ≡ l.initial.sets.entries;
  long : vec_len l.sets.sets ≡ vec_len l.initial.sets.sets;
  anew : Anew l.e (panel_in l.fn.self) (graph_in (g.S.DependencyStore.loads l.store) l.fn.self) (member l.concern) (sets_in l.fn.self) (held l.sets.sets.items);
}
