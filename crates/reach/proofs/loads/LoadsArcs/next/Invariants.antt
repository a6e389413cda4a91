use Rattle.std.proofs.Common.{◌≡◌, ◌-◌, vec_items}
use Rattle.tables.specs.View.{panel_of}
use Rattle.reach.specs.Arcs.{graph_of, arcs_from}
use Rattle.reach.proofs.loads.LoadsArcs.next.Given as goal

abbrev pub invariant-loop-d : goal.invariant-loop-d
invariant-loop-d g l =
    let p = panel_of l.self.export.now.table in
    let q = graph_of (g.S.DependencyStore.loads l.self.store.now) (vec_items l.self.export.now.included.marks) in
    arcs_from p q l.node l.at ≡ arcs_from p q l.node l.from

abbrev pub decreases-loop-d : goal.decreases-loop-d
decreases-loop-d g l = l.count - l.from
