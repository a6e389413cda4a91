use Rattle.std.proofs.Common.{true, sym, refl}
use Rattle.sets.specs.Sets.{member}
use Rattle.plans.specs.Book.{linking}
use Rattle.plans.proofs.Accounting.{accepts, link_spared, pair_graph}
use Rattle.plans.proofs.Making.{pair_made}
use Rattle.plans.proofs.plan.Plan.add_pair.Goals as goal

pub returns : goal.returns
returns g c =
    let s = g.S.DependencyStore in
    let before = c.args.self.now in
    let after = c.link.new.self in
    let m = c.args.m.0 in
    let d = c.args.d.0 in
    let concern = member c.link_concern-concern.result in
    let edit = c.in_ok-link.ensures in
    let renew = c.renew.ensures in
    record {
      edited = pair_made s.modules s.loads s.outside before c.renew.new.self concern c.renew.result renew.counted after _ true m d edit.links.answer edit.links.size edit.kept edit.links.pairs renew.renewed;
      lawful = λ p opening h st.
          accepts st (linking m d) concern (s.modules after) (s.loads after) before.«data» c.renew.new.self c.renew.result
          (sym edit.links.answer) edit.links.size refl refl
          (pair_graph (s.loads before.store) (s.loads after) before.«data» true m d edit.links.pairs)
          (link_spared st m d concern c.link_concern-concern.ensures) renew.renewed renew.counted;
    }
