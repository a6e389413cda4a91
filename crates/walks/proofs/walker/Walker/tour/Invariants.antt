use Rattle.std.proofs.Common.{◌≡◌, [], take, vec_len}
use Rattle.walks.specs.Walks.{Walk}
use Rattle.walks.specs.Walkers.{size_of, taken_by}
use Rattle.walks.proofs.walker.Walker.tour.Given as goal

abbrev pub invariant-loop-root : goal.invariant-loop-root
invariant-loop-root g l = record {
  size : size_of l.self ≡ size_of l.initial.self;
  idle : vec_len l.self.stack ≡ 0;
  walk : Walk (λ x. g.G.Arcs.rest l.arcs x 0) (take l.root-index l.roots) [] (taken_by l.self);
}
