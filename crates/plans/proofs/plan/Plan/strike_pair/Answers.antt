use Rattle.std.proofs.Common.{false, sym, refl}
use Rattle.sets.specs.Sets.{member}
use Rattle.plans.specs.Book.{unlinking}
use Rattle.plans.proofs.Accounting.{accepts, unlink_spared, pair_graph}
use Rattle.plans.proofs.Making.{pair_made}
use Rattle.plans.proofs.plan.Plan.strike_pair.Goals as goal

pub returns : goal.returns
returns g c =
    let s = g.S.DependencyStore in
    let before = c.args.self.now in
    let after = c.unlink.new.self in
    let m = c.args.m.0 in
    let d = c.args.d.0 in
    let concern = member c.unlink_concern-concern.result in
    let edit = c.in_ok-unlink.ensures in
    let renew = c.renew.ensures in
    record {
      edited = pair_made s.modules s.loads s.outside before c.renew.new.self concern c.renew.result renew.counted after _ false m d edit.unlinks.answer edit.unlinks.size edit.kept edit.unlinks.pairs renew.renewed;
      lawful = λ p opening h st.
          accepts st (unlinking m d) concern (s.modules after) (s.loads after) before.«data» c.renew.new.self c.renew.result
          (sym edit.unlinks.answer) edit.unlinks.size refl refl
          (pair_graph (s.loads before.store) (s.loads after) before.«data» false m d edit.unlinks.pairs)
          (unlink_spared st m d concern c.unlink_concern-concern.ensures) renew.renewed renew.counted;
    }
