use Rattle.std.proofs.Common.{◌≡◌, ◌+◌, ◌∷◌, vec_items, sym, ◌∙◌, subst, ⊎_elim, arith}
use Rattle.tables.specs.View.{panel_of}
use Rattle.reach.specs.Arcs.{graph_of, arcs_from}
use Rattle.reach.proofs.Arcing.{found, shut, beyond, none, ended, outside}
use Rattle.reach.proofs.loads.LoadsArcs.next.Goals as goal

pub returns-then-node-count : goal.returns-then-node-count
returns-then-node-count g c =
    let s = c.args.self.now in
    let p = panel_of s.export.now.table in
    let q = graph_of (g.S.DependencyStore.loads s.store.now) (vec_items s.export.now.included.marks) in
    ⊎_elim
    (λ h. outside p q c.args.node c.args.at (omega (arith, h, c.size-count.ensures)))
    (λ h. ended p q c.args.node c.args.at (omega (arith, h.1, c.size-count.ensures)))
    c.then-node-count.either

pub returns-then-target-count : goal.returns-then-target-count
returns-then-target-count g c =
    let s = c.args.self.now in
    let p = panel_of s.export.now.table in
    let q = graph_of (g.S.DependencyStore.loads s.store.now) (vec_items s.export.now.included.marks) in
    c.loop-d.invariant ∙ beyond p q c.args.node c.loop-d.from c.in-Some.d.0 (omega (arith, c.if-target-count.true, c.from-target.ensures, c.size-count.ensures)) c.in-Some.ensures

pub returns-then-is_open : goal.returns-then-is_open
returns-then-is_open g c =
    let s = c.args.self.now in
    let p = panel_of s.export.now.table in
    let q = graph_of (g.S.DependencyStore.loads s.store.now) (vec_items s.export.now.included.marks) in (
      c.loop-d.invariant
          ∙ subst (λ t. arcs_from p q c.args.node c.loop-d.from ≡ t ∷ arcs_from p q c.args.node (t + 1)) (sym c.from-target.ensures)
          (found p q c.args.node c.loop-d.from c.in-Some.d.0 (omega (arith, c.size-count.ensures)) (omega (arith, c.if-target-count.false, c.from-target.ensures, c.size-count.ensures)) c.in-Some.ensures (sym c.if-is_open.ensures)),
      omega (arith, c.if-target-count.false, c.size-count.ensures),
    )

pub loop-d-preserved : goal.loop-d-preserved
loop-d-preserved g c =
    let s = c.args.self.now in
    let p = panel_of s.export.now.table in
    let q = graph_of (g.S.DependencyStore.loads s.store.now) (vec_items s.export.now.included.marks) in
    c.loop-d.invariant ∙ shut p q c.args.node c.loop-d.from c.in-Some.d.0 (omega (arith, c.if-target-count.false, c.from-target.ensures, c.size-count.ensures)) c.in-Some.ensures (sym c.if-is_open.ensures)

pub returns : goal.returns
returns g c =
    let s = c.args.self.now in
    let p = panel_of s.export.now.table in
    let q = graph_of (g.S.DependencyStore.loads s.store.now) (vec_items s.export.now.included.marks) in
    c.loop-d.invariant ∙ none p q c.args.node c.loop-d.from c.in_default.ensures
