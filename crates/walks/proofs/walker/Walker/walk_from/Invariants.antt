use Rattle.std.proofs.Common.{◌≡◌}
use Rattle.walks.specs.Walkers.{size_of, taken_by}
use Rattle.walks.proofs.Steps.{Going, pending, left}
use Rattle.walks.proofs.walker.Walker.walk_from.Given as goal

abbrev pub invariant-loop-top : goal.invariant-loop-top
invariant-loop-top g l = record {
  size : size_of l.self ≡ size_of l.initial.self;
  going : Going (g.G.Arcs.rest l.arcs) l.root (taken_by l.fn.self) (taken_by l.self) (pending (g.G.Arcs.rest l.arcs) l.self.stack.items);
}

abbrev pub decreases-loop-top : goal.decreases-loop-top
decreases-loop-top g l = left (g.G.Arcs.rest l.arcs) l.self.marks.items l.self.stack.items
