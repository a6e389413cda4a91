-- How a plan accounts for the calls that it was given.
use Rattle.std.specs.Prelude.{◌≡◌, ℕ, ◌∷◌, Result}
use Rattle.stores.specs.Pairs.{Pairs}
use Rattle.tables.specs.Panel.{Panel, count}
use Rattle.tables.specs.Graph.{Graph}
use Rattle.tables.specs.declared.refusal.Refusal.{Refusal}
use Rattle.reach.specs.Data.{panel_in, graph_in, sets_in, earlier_in, names_in}
use Rattle.reach.specs.Exact.{Exact}
use Rattle.reach.specs.declared.data.PlanData.{PlanData}
use Rattle.plans.specs.declared.plan.Plan.{Plan}
use Rattle.plans.specs.Book.{Call, History, event_of, book, earlier_book, last_named}
use Rattle.plans.specs.Lawful.{Lawful}

-- a store's size and pairs and a plan's data, to the panel, the book's opening and a history: pairs and marks are the book's, each set holds exactly the entries that reach its module by the book, the earlier sets are those before the last accepted edit, which names the moved modules, and every call was answered as it ought to be
pub record Kept (p : Panel) (opening : Graph) (h : History) (size : ℕ) (loads : Pairs) (d : PlanData) : Type 0 where
  pub panel : panel_in d ≡ p
  pub sized : size ≡ count p
  pub graph : graph_in loads d ≡ book opening h
  pub sets : Exact p (book opening h) (sets_in d)
  pub earlier : Exact p (earlier_book opening h) (earlier_in d)
  pub named : names_in d ≡ last_named h
  pub lawful : Lawful p opening h

abbrev pub Accounts : {S : Type 0} (modules : S → ℕ) (loads : S → Pairs) → Panel → Graph → History → Plan S → Type 0
Accounts modules loads p opening h plan = Kept p opening h (modules plan.store) (loads plan.store) plan.data

-- from any history that the plan accounted for it comes to that history with this call, as it was answered, on top
abbrev pub Extends : {S : Type 0} (modules : S → ℕ) (loads : S → Pairs) → Call → Plan S → Result ℕ Refusal → Plan S → Type 0
Extends modules loads c before r after = (p : Panel) (opening : Graph) (h : History) → Accounts modules loads p opening h before → Accounts modules loads p opening (event_of c r (names_in after.data) ∷ h) after
