use Rattle.std.proofs.Common.{◌<◌, false, refl, ap, arith, rules}
use Rattle.sets.specs.Sets.{member}
use Rattle.tables.specs.Panel.{Panel, count}
use Rattle.reach.specs.Data.{panel_in}
use Rattle.plans.specs.Book.{excluding}
use Rattle.plans.proofs.Accounting.{accepts, exclude_spared, mark_graph}
use Rattle.plans.proofs.Making.{allowed_below, mark_made, mark_allowed, panels_same, sets_same}
use Rattle.plans.proofs.plan.Plan.clear_mark.Goals as goal

pub returns : goal.returns
returns g c =
    let s = g.S.DependencyStore in
    let before = c.args.self.now in
    let mid = c.put_mark.new.self in
    let m = c.args.m.0 in
    let concern = member c.exclude_concern-concern.result in
    let marked = c.put_mark.ensures in
    let renew = c.renew.ensures in
    let inside : m < count (panel_in before.«data») = allowed_below (count (panel_in before.«data»)) m (search rules) in
    record {
      edited = mark_made s.modules s.loads s.outside before c.renew.new.self concern c.renew.result renew.counted mid m false inside marked renew.renewed;
      lawful = λ p opening h st.
          accepts st (excluding m) concern (s.modules before.store) (s.loads before.store) mid c.renew.new.self c.renew.result
          (mark_allowed (s.modules before.store) m (omega (arith, inside, st.sized, ap (λ (q : Panel). count q) st.panel)))
          refl (panels_same m false before.«data» mid marked) (sets_same m false before.«data» mid marked)
          (mark_graph (s.loads before.store) before.«data» mid m false inside marked)
          (exclude_spared st m concern c.exclude_concern-concern.ensures) renew.renewed renew.counted;
    }
