use Rattle.std.proofs.Common.{slice_set, ap}
use Rattle.walks.proofs.Steps.{mark_is}
use Rattle.walks.proofs.walker.Walker.enter.Goals as goal

pub invariant_of-self-clause-marked : goal.invariant_of-self-clause-marked
invariant_of-self-clause-marked c =
    mark_is c.args.self.now.marked c.requires c.index.ensures c.if-not-index.true c.push_reserved.ensures.items (ap (slice_set c.args.self.now.marks.items c.args.node) c.set.ensures)
