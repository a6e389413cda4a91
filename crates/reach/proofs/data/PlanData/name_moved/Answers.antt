use Rattle.std.proofs.Common.{◌≡◌, not, ap, arith}
use Rattle.std.proofs.lemmas.Grind.{common_steps}
use Rattle.reach.specs.Data.{sets_in, earlier_in}
use Rattle.reach.specs.Held.{held}
use Rattle.reach.specs.Moved.{differs}
use Rattle.reach.proofs.Passes.{named_more}
use Rattle.reach.proofs.Helds.{differs_by}
use Rattle.reach.proofs.data.PlanData.name_moved.Goals as goal

pub loop-y-preserved : goal.loop-y-preserved
loop-y-preserved c =
    let s = c.args.self.now in
    let test : differs s.sets.entries (earlier_in s) (sets_in s) c.loop-y.y ≡ not (not c.differ.result) =
    differs_by s.sets.entries s.earlier.sets.items s.sets.sets.items c.loop-y.y c.get.result _ (λ e l. s.earlier.within c.loop-y.y e (omega (arith, l, s.sets_wide, s.earlier_wide))) (λ e l. s.sets.within c.loop-y.y e l) c.get.ensures (λ e. ap (λ l. held l c.loop-y.y e) c.deref-set-items.ensures.value) c.differ.ensures in
    record { few = grind (arith, common_steps); room = grind (arith, common_steps); names = named_more _ c.loop-y.y c.loop-y.moved.items (not c.differ.result) c.loop-y.invariant.names test (grind (arith, common_steps)) }
