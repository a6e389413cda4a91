-- What sets hold past the last module and where all are empty, and when two differ.
use Rattle.std.proofs.Common.{◌≡◌, ℕ, ◌<◌, ◌≤◌, Bool, false, not, List, length, replicate, sym, ap, ◌∙◌, ⊎_elim, Decides, arith}
use Rattle.std.proofs.lemmas.List.{get_or_past, get_or-replicate, length-replicate}
use Rattle.std.proofs.lemmas.Bool.{both_ways, cases_Bool, cases_lt}
use Rattle.sets.proofs.Bits.{bit_zero}
use Rattle.sets.specs.Sets.{member, no_set, Empty, Same}
use Rattle.sets.specs.declared.EntrySet.{EntrySet}
use Rattle.reach.specs.Held.{held}
use Rattle.reach.specs.Moved.{differs}
use Rattle.reach.proofs.Passes.{same_test, other_test}

pub held_past : (sets : List EntrySet) (y e : ℕ) → length sets ≤ y → held sets y e ≡ false
held_past sets y e h = ap (λ (s : EntrySet). member s e) (get_or_past sets y no_set h) ∙ bit_zero e

pub held_empty : (n : ℕ) (s : EntrySet) → Empty s → (y e : ℕ) → held (replicate n s) y e ≡ false
held_empty n s none y e = ⊎_elim
    (λ (h : y < n). ap (λ (t : EntrySet). member t e) (get_or-replicate n y s no_set h) ∙ none e)
    (λ (h : n ≤ y). held_past (replicate n s) y e (omega (arith, length-replicate n s)))
    (cases_lt y n)

-- whether the sets of a module differ, by a test r of whether they are the same
pub differs_by : (n : ℕ) (old new : List EntrySet) (y : ℕ) (a b : EntrySet) {r : Bool} → ((e : ℕ) → n ≤ e → held old y e ≡ false) → ((e : ℕ) → n ≤ e → held new y e ≡ false) → ((e : ℕ) → member a e ≡ held old y e) → ((e : ℕ) → member b e ≡ held new y e) → Decides r (Same a b) → differs n (held old) (held new) y ≡ not r
differs_by n old new y a b {r} wo wn ho hn d = ⊎_elim
    (λ t. same_test n (held old) (held new) y (λ e. sym (ho e) ∙ d.0 t e ∙ hn e) ∙ ap not (sym t))
    (λ f. other_test n (held old) (held new) y wo wn (λ same. both_ways r f (d.1 (λ e. ho e ∙ same e ∙ sym (hn e)))) ∙ ap not (sym f))
    (cases_Bool r)
