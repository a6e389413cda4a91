use Rattle.std.proofs.Common.{[], sym, refl, subst, ◌∙◌}
use Rattle.walks.specs.Walks.{Walk}
use Rattle.walks.specs.Walks.Walk.{done}
use Rattle.walks.proofs.Reach.{onward}
use Rattle.walks.proofs.walker.Walker.tour.Goals as goal

pub loop-root-init : goal.loop-root-init
loop-root-init g c = record {
  size = refl;
  idle = c.clear.ensures.idle;
  walk = subst (Walk _ [] []) (sym c.clear.ensures.none) done;
}

pub loop-root-preserved : goal.loop-root-preserved
loop-root-preserved g c = record {
  size = c.walk_from.ensures.size ∙ c.loop-root.invariant.size;
  idle = c.walk_from.ensures.idle;
  walk = onward c.args.roots.now c.loop-root.root-index c.loop-root-test.true c.loop-root.invariant.walk c.walk_from.ensures.walk;
}
