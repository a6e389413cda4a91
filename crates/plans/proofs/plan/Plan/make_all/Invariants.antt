use Rattle.std.proofs.Common.{◌++◌, take}
use Rattle.tables.specs.Graph.{Graph}
use Rattle.tables.specs.Panel.{Panel}
use Rattle.plans.specs.Accounts.{Accounts}
use Rattle.plans.specs.Book.{History}
use Rattle.plans.specs.Runs.{Asked}
use Rattle.plans.proofs.plan.Plan.make_all.Given as goal

abbrev pub invariant-loop-e : goal.invariant-loop-e
invariant-loop-e g l =
    let s = g.S.DependencyStore in
    (p : Panel) (q : Graph) (h : History) → Accounts s.modules s.loads p q h l.initial.self
    → (t : History) × (Asked (take l.e-index l.edits) t × Accounts s.modules s.loads p q (t ++ h) l.self)
