use Rattle.std.proofs.Common.{◌≡◌, ◌<◌, eqb, length, sym, ap, ◌∙◌, arith}
use Rattle.std.proofs.lemmas.Grind.{common_steps}
use Rattle.tables.specs.Graph.{start}
use Rattle.reach.specs.Data.{panel_in}
use Rattle.reach.proofs.Anewing.{start_at}
use Rattle.reach.proofs.data.PlanData.starting_at.Goals as goal

pub loop-e-preserved : goal.loop-e-preserved
loop-e-preserved c = λ e l s.
    let t = c.args.self.now.export.table in
    let k = c.loop-e.e in
    let inside : k < length t.entries.items = omega (arith, c.loop-e-test.true, c.deref-entry-items.ensures.len, t.entries.ok.0) in
    let few : k < 64 = omega (arith, t.entries_few) in
    let here = c.loop-e.invariant e in
    let test : c.eq.result ≡ eqb (start (panel_in c.args.self.now) k) c.args.m.0 =
    c.eq.ensures ∙ ap (λ x. eqb x c.args.m.0) (sym (start_at t.entries.items k _ inside c.deref-entry-items.ensures.value)) in
    grind (arith, common_steps, here, test)
