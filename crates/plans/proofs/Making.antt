-- What an accepted edit of a pair and of a mark leaves.
use Rattle.std.proofs.Common.{◌≡◌, ℕ, ◌<◌, ◌≤◌, Bool, true, List, length, set, Ok, Err, vec_items, sym, refl, ap, ◌∙◌, ⊎_elim, arith}
use mathlib.Core.Path.{fun_ext}
use Rattle.exports.specs.declared.export.Export.{Export}
use Rattle.std.proofs.lemmas.Bool.{cases_lt, cond-true, cond-false, lt-ltb, le-ltb}
use Rattle.stores.specs.Answers.{Outcome}
use Rattle.stores.specs.Pairs.{Pairs, changed}
use Rattle.tables.specs.Panel.{count}
use Rattle.tables.specs.View.{panel_of}
use Rattle.tables.specs.declared.refusal.Refusal.{Refusal}
use Rattle.reach.specs.Data.{panel_in, marks_in, sets_in, names_in, Renewed, Marked}
use Rattle.reach.specs.Held.{held}
use Rattle.reach.specs.declared.data.PlanData.{PlanData}
use Rattle.reach.specs.declared.set_table.SetTable.{SetTable}
use Rattle.plans.specs.declared.plan.Plan.{Plan}
use Rattle.plans.specs.Edited.{Edited}
use Rattle.plans.specs.Lawful.{mark_answer}
use Rattle.plans.proofs.Accounting.{told_moves}

-- marking leaves the panel and the sets
pub panels_same : (m : ℕ) (v : Bool) (old mid : PlanData) → Marked m v old mid → panel_in mid ≡ panel_in old
panels_same m v old mid marked = ap panel_of marked.table

pub sets_same : (m : ℕ) (v : Bool) (old mid : PlanData) → Marked m v old mid → sets_in mid ≡ sets_in old
sets_same m v old mid marked = ap (λ (t : SetTable). held (vec_items t.sets)) marked.sets

pub mark_allowed : (n m : ℕ) → m < n → mark_answer n m ≡ Ok tt
mark_allowed n m l = cond-true _ (Ok tt) _ (lt-ltb m n l)

pub allowed_below : (n m : ℕ) → mark_answer n m ≡ Ok tt → m < n
allowed_below n m h = ⊎_elim (λ (l : m < n). l) (λ (g : n ≤ m). let no : ◌≡◌ {A = ℕ} 0 1 = refused (cond-false _ (Ok tt) _ (le-ltb m n g)) in absurd (omega arith)) (cases_lt m n)
  where
    refused : {why : Refusal} → mark_answer n m ≡ Err why → ◌≡◌ {A = ℕ} 0 1
    refused e = cc

module _ {S : Type 0} (modules : S → ℕ) (loads : S → Pairs) (outside : S → List ℕ) (before : Plan S) (new : PlanData) (concern : ℕ → Bool) (k : ℕ) (counted : k ≡ length (names_in new)) where
  pub pair_made : (store : S) (answer : Outcome) (v : Bool) (m d : ℕ) → Ok tt ≡ answer → modules store ≡ modules before.store → outside store ≡ outside before.store
      → ((a b : ℕ) → loads store a b ≡ changed true v (loads before.store) m d a b) → Renewed (loads store) concern before.«data» new
      → Edited modules loads outside answer (changed true v (loads before.store) m d) (marks_in before.«data») before (Ok k) (record { store = store; «data» = new })
  pair_made store answer v m d fine size past pairs ren = record {
    answered = fine;
    left = (
      fun_ext (λ a. fun_ext (λ b. pairs a b)),
      ap (λ (x : Export). vec_items x.included.marks) ren.export,
      told_moves (loads store) concern before.«data» before.«data» new k refl refl ren counted,
    );
    table = ap (λ (x : Export). x.table) ren.export;
    size = size;
    past = past;
  }

  pub mark_made : (mid : PlanData) (m : ℕ) (v : Bool) → m < count (panel_in before.«data») → Marked m v before.«data» mid → Renewed (loads before.store) concern mid new
      → Edited modules loads outside (mark_answer (count (panel_in before.«data»)) m) (loads before.store) (set (marks_in before.«data») m v) before (Ok k) (record { store = before.store; «data» = new })
  mark_made mid m v inside marked ren = record {
    answered = sym (mark_allowed (count (panel_in before.«data»)) m inside);
    left = (
      refl,
      ap (λ (x : Export). vec_items x.included.marks) ren.export ∙ marked.marks,
      told_moves (loads before.store) concern before.«data» mid new k (panels_same m v before.«data» mid marked) (sets_same m v before.«data» mid marked) ren counted,
    );
    table = ap (λ (x : Export). x.table) ren.export ∙ marked.table;
    size = refl;
    past = refl;
  }
