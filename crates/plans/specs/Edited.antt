-- What an edit answers and leaves, for every plan and all arguments.
use Rattle.std.specs.Prelude.{◌≡◌, ℕ, Bool, true, false, List, length, Ok, Err, Result, slice_set}
use Rattle.stores.specs.Answers.{Outcome, link_answer, unlink_answer}
use Rattle.stores.specs.Pairs.{Pairs, changed}
use Rattle.tables.specs.Panel.{count}
use Rattle.tables.specs.declared.refusal.Refusal.{Refusal}
use Rattle.reach.specs.Data.{panel_in, marks_in, sets_in, earlier_in, names_in}
use Rattle.reach.specs.Moved.{passing, differs}
use Rattle.reach.specs.declared.data.PlanData.{PlanData}
use Rattle.plans.specs.declared.plan.Plan.{Plan}
use Rattle.plans.specs.Book.{Call, linking, unlinking, including, excluding}
use Rattle.plans.specs.Lawful.{mark_answer}

abbrev pub outcome_of : Result ℕ Refusal → Outcome
outcome_of (Ok k) = Ok tt
outcome_of (Err why) = Err why

-- the earlier sets are those before, the named modules are those whose sets differ, ascending, and the answer is how many there are
pub record ToldMoves (before : PlanData) (k : ℕ) (after : PlanData) : Type 0 where
  pub earlier : earlier_in after ≡ sets_in before
  pub names : names_in after ≡ passing (differs (length (panel_in before).entries) (earlier_in after) (sets_in after)) 0 (count (panel_in before))
  pub counted : k ≡ length (names_in after)

-- a refused edit leaves the plan as it was; an accepted one leaves these pairs and marks, and tells what moved
abbrev pub Left : {S : Type 0} (loads : S → Pairs) → Pairs → List Bool → Plan S → Result ℕ Refusal → Plan S → Type 0
Left loads pairs marks before (Ok k) after = (loads after.store ≡ pairs) × (marks_in after.data ≡ marks) × ToldMoves before.data k after.data
Left loads pairs marks before (Err why) after = after ≡ before

pub record Edited {S : Type 0} (modules : S → ℕ) (loads : S → Pairs) (outside : S → List ℕ) (answer : Outcome) (pairs : Pairs) (marks : List Bool) (before : Plan S) (r : Result ℕ Refusal) (after : Plan S) : Type 0 where
  pub answered : outcome_of r ≡ answer
  pub left : Left loads pairs marks before r after
  pub table : after.data.export.table ≡ before.data.export.table
  pub size : modules after.store ≡ modules before.store
  -- what of the caller's memory lies past the store's own
  pub past : outside after.store ≡ outside before.store

-- the same by the call for the edit
abbrev pub EditedBy : {S : Type 0} (modules : S → ℕ) (loads : S → Pairs) (outside : S → List ℕ) → Call → Plan S → Result ℕ Refusal → Plan S → Type 0
EditedBy modules loads outside (linking m d) before r after = Edited modules loads outside (link_answer (modules before.store) (loads before.store) m d) (changed true true (loads before.store) m d) (marks_in before.data) before r after
EditedBy modules loads outside (unlinking m d) before r after = Edited modules loads outside (unlink_answer (modules before.store) (loads before.store) m d) (changed true false (loads before.store) m d) (marks_in before.data) before r after
EditedBy modules loads outside (including m) before r after = Edited modules loads outside (mark_answer (count (panel_in before.data)) m) (loads before.store) (slice_set (marks_in before.data) m true) before r after
EditedBy modules loads outside (excluding m) before r after = Edited modules loads outside (mark_answer (count (panel_in before.data)) m) (loads before.store) (slice_set (marks_in before.data) m false) before r after
