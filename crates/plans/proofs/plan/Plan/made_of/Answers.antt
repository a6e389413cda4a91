use Rattle.std.proofs.Common.{sym, refl, ◌∙◌}
use Rattle.plans.proofs.Accounting.{opens}
use Rattle.plans.proofs.plan.Plan.made_of.Goals as goal

pub returns-in-Err : goal.returns-in-Err
returns-in-Err g c = record {
  answer = sym c.in-Err.ensures.answer;
  judged = c.in-Err.ensures.judged;
  made = (refl, refl);
}

pub returns-in-Ok : goal.returns-in-Ok
returns-in-Ok g c =
    let s = g.S.DependencyStore in
    let found = c.in_default.ensures in
    record {
      answer = sym found.answer;
      judged = found.judged;
      made = record {
        store_kept = refl;
        export_kept = c.settle.ensures.export ∙ c.in-Ok.ensures;
        accounts = opens (s.loads c.args.store) (s.modules c.args.store) c.args.export c.in-Ok.«data» c.settle.new.self c.in-Ok.ensures found.judged.1 c.settle.ensures;
      };
    }

pub returns-in-Err-new : goal.returns-in-Err-new
returns-in-Err-new g c =
    let found = c.in_default.ensures in
    record {
      answer = sym found.answer;
      judged = found.judged;
      made = (c.in-Err-new.ensures, refl);
    }
