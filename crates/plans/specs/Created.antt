-- How a plan's creation is answered.
use Rattle.std.specs.Prelude.{◌≡◌, ℕ, cond, ◌⊎◌, [], Some, None, Ok, Err, vec_items, Option, Result, ◌==◌, ◌≢◌}
use Rattle.exports.specs.Check.{verdict, Judged}
use Rattle.exports.specs.declared.export.BuildError.{BuildError}
use Rattle.exports.specs.declared.export.BuildError.TheVariants.{Refused, OutOfMemory}
use Rattle.exports.specs.declared.export.Export.{Export}
use Rattle.stores.specs.Answers.{Outcome}
use Rattle.stores.specs.Pairs.{Pairs}
use Rattle.tables.specs.Panel.{Panel, count}
use Rattle.tables.specs.View.{panel_of}
use Rattle.tables.specs.declared.refusal.Refusal.TheVariants.{StoreSize}
use Rattle.reach.specs.Arcs.{graph_of}
use Rattle.plans.specs.declared.plan.Plan.{Plan}
use Rattle.plans.specs.declared.plan.Rejected.{Rejected}
use Rattle.plans.specs.Accounts.{Accounts}

-- the store's size is looked at once the table passes its check
abbrev pub sized_outcome : ℕ → ℕ → Outcome → Outcome
sized_outcome n size (Ok x) = cond (size == n) (Ok tt) (Err StoreSize)
sized_outcome n size (Err why) = Err why

-- the smallest refusal of a table and a store of that size
abbrev pub creation_answer : Panel → ℕ → Outcome
creation_answer p size = sized_outcome (count p) size (verdict p)

-- why no plan was made, or nothing where one was
abbrev pub cause_of : {S : Type 0} → Result (Plan S) (Rejected S) → Option BuildError
cause_of (Ok plan) = None
cause_of (Err e) = Some e.why

-- a plan is made, or memory is wanting, only where no rule refuses; a refusal is the smallest
abbrev pub AnswersCreation : Outcome → Option BuildError → Type 0
AnswersCreation answer None = answer ≡ Ok tt
AnswersCreation answer (Some (Refused why)) = answer ≡ Err why
AnswersCreation answer (Some OutOfMemory) = answer ≡ Ok tt

-- the same in words of the rules
abbrev pub SizedJudged : Panel → ℕ → Outcome → Type 0
SizedJudged p size (Ok x) = Judged p (Ok tt) × (size ≡ count p)
SizedJudged p size (Err why) = Judged p (Err why) ⊎ (Judged p (Ok tt) × (size ≢ count p) × (why ≡ StoreSize))

abbrev pub CreationJudged : Panel → ℕ → Option BuildError → Type 0
CreationJudged p size None = SizedJudged p size (Ok tt)
CreationJudged p size (Some (Refused why)) = SizedJudged p size (Err why)
CreationJudged p size (Some OutOfMemory) = SizedJudged p size (Ok tt)

-- a new plan has the export and the store as they were, and accounts for an empty history of a book that is opened with their pairs and marks
pub record Opened {S : Type 0} (modules : S → ℕ) (loads : S → Pairs) (export : Export) (store : S) (plan : Plan S) : Type 0 where
  pub store_kept : plan.store ≡ store
  pub export_kept : plan.data.export ≡ export
  pub accounts : Accounts modules loads (panel_of export.table) (graph_of (loads store) (vec_items export.included.marks)) [] plan

-- a plan that was not made leaves the export and the store as they were
abbrev pub Made : {S : Type 0} (modules : S → ℕ) (loads : S → Pairs) → Export → S → Result (Plan S) (Rejected S) → Type 0
Made modules loads export store (Ok plan) = Opened modules loads export store plan
Made modules loads export store (Err e) = (e.export ≡ export) × (e.store ≡ store)
