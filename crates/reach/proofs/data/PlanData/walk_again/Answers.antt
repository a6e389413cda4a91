use Rattle.std.proofs.Common.{◌+◌, ◌<◌, length, vec_len, sym, ◌∙◌, subst, arith}
use Rattle.std.proofs.lemmas.Grind.{common_steps}
use Rattle.sets.specs.Sets.{member}
use Rattle.walks.specs.Walks.{has}
use Rattle.walks.specs.Walkers.{taken_by}
use Rattle.reach.specs.Data.{panel_in, graph_in, sets_in}
use Rattle.reach.specs.Exact.{Anew}
use Rattle.reach.specs.Held.{held}
use Rattle.reach.specs.declared.set_table.SetTable.{SetTable}
use Rattle.reach.proofs.Anewing.{anew_passed, anew_more, start_at}
use Rattle.reach.proofs.Datas.{count_is}
use Rattle.reach.proofs.Helds.{held_past}
use Rattle.reach.proofs.Ways.{ends_open, open_below}
use Rattle.reach.proofs.data.PlanData.walk_again.Goals as goal
use Rattle.reach.proofs.data.PlanData.walk_again.Goals.{then-contains, else-contains}

pub loop-e-preserved : goal.loop-e-preserved
loop-e-preserved g c =
    let s = c.args.self.now in
    let p = panel_in s in
    let q = graph_in (g.S.DependencyStore.loads c.args.store.now) s in
    let concern = member c.args.concern in
    let k = c.loop-e.e in
    let now = c.loop-e.sets.sets in
    let before = c.loop-e.invariant.anew in
    record {
      size = grind (arith, common_steps);
      wide = grind (arith, common_steps);
      long = grind (arith, common_steps);
      anew = elim c.if-contains.branch [
        | then-contains w ↦
            let entries = s.export.table.entries in
            let long = c.loop-e.invariant.long ∙ s.sets_long ∙ sym (count_is s.export.table) in
            let inside : k < length entries.items = omega (arith, c.loop-e-test.true, c.deref-entry-items.ensures.len, entries.ok.0) in
            subst (λ (t : SetTable). Anew (k + 1) p q concern (sets_in s) (held t.sets.items)) (sym w.sets-is)
            (anew_more p q concern k (sets_in s) (held now.items) before _ (vec_len now) (has (taken_by w.determine_reachable_modules_for_entry.new.walker)) (held w.put_column.new.self.sets.items)
            (sym c.contains.ensures ∙ w.if-contains.true)
            (start_at entries.items k _ inside c.deref-entry-items.ensures.value)
            w.determine_reachable_modules_for_entry.ensures.told
            w.put_column.ensures.held
            (λ y v. omega (arith, open_below p q y (ends_open p q v), long))
            (λ y h. held_past now.items y k (omega (arith, h, now.ok.0))))
        | else-contains w ↦
            subst (λ (t : SetTable). Anew (k + 1) p q concern (sets_in s) (held t.sets.items)) (sym w.sets-is)
            (anew_passed p q concern k (sets_in s) (held now.items) before (sym c.contains.ensures ∙ w.if-contains.false))
      ];
    }
