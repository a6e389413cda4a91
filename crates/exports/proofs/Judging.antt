-- The verdict's tests against what they ask.
use Rattle.std.proofs.Common.{◌≡◌, ℕ, zero, suc, ◌+◌, ◌-◌, ◌<◌, ◌≤◌, Bool, true, false, not, eqb, leb, List, [], ◌∷◌, length, get_or, take, Result, sym, refl, ap, ◌∙◌, subst, ⊎_elim, arith}
use Rattle.std.specs.List.{list_any}
use Rattle.std.proofs.lemmas.List.{get_or-take, length-take, get_or_default}
use Rattle.std.proofs.lemmas.List.Folds.{Any-from_list_any, list_any_at}
use Rattle.std.proofs.lemmas.Bool.{eqb-true, eqb-false, eq-eqb, ne_eqb, leb-true, leb-false, and_parts, and_from, not-true, not_from_false, both_ways, cases_eq, cases_lt, cases_Bool}
use Rattle.tables.specs.declared.refusal.Refusal.{Refusal}
use Rattle.exports.specs.Check.{named, apart_at, some_apart, verdict, Unknown, Apart, Judged, no_modules, out_of_range, external_runtime, entry_apart, fit}
use Rattle.tables.specs.Panel.{Panel, count, external, starts}
use Rattle.exports.proofs.Below.{some_at, some_since}
use Rattle.exports.proofs.Checks.{smallest}

-- an element that passes, with its place
pub record Passing {A : Type 0} (test : A → Bool) (xs : List A) (d : A) : Type 0 where
  pub place : ℕ
  pub within : place < length xs
  pub passes : test (get_or xs place d) ≡ true

pub some_passing : {A : Type 0} (test : A → Bool) (xs : List A) (d : A) → list_any test xs ≡ true → Passing test xs d
some_passing test xs d h =
    let (k, x, within, is, passes) = Any-from_list_any test xs h in
    record { place = k; within = within; passes = ap test (get_or_default xs k d x within ∙ is) ∙ passes }

pub none_passing : {A : Type 0} (test : A → Bool) (xs : List A) (k : ℕ) (d : A) → list_any test xs ≡ false → k < length xs → test (get_or xs k d) ≡ false
none_passing test xs k d h l = ⊎_elim (λ t. absurd (both_ways (list_any test xs) h (list_any_at test xs k d l t))) (λ f. f) (cases_Bool (test (get_or xs k d)))

-- a number at or above the count is in the table, or none is
found : (p : Panel) → list_any (leb (count p)) (named p) ≡ true → Unknown p
found p h =
    let r = some_passing (leb (count p)) (named p) 0 h in
    let m = get_or (named p) r.place 0 in
    (m, (r.place, r.within, λ d. get_d_any (named p) r.place d r.within), leb-true (count p) m r.passes)
  where
    get_d_any : (xs : List ℕ) (k d : ℕ) → k < length xs → get_or xs k d ≡ get_or xs k 0
    get_d_any [] k d l = absurd (omega arith)
    get_d_any (x ∷ xs) zero d l = refl
    get_d_any (x ∷ xs) (suc k) d l = get_d_any xs k d (omega arith)

none_found : (p : Panel) → list_any (leb (count p)) (named p) ≡ false → Unknown p → ⊥
none_found p h (m, (k, within, is), beyond) =
    let below = leb-false (count p) (get_or (named p) k 0) (none_passing (leb (count p)) (named p) k 0 h within) in
    let e = is 0 in
    omega arith

module _ (ms : List ℕ) where
  abbrev at : ℕ → ℕ
  at k = get_or ms k 0

  -- a test that an entry stands apart tells of three entries
  apart_found : some_apart ms ≡ true → Apart ms
  apart_found h =
      let r = some_at (apart_at ms) (length ms) h in
      let e = r.0 in
      let parts = and_parts (not (eqb (at (e - 1)) (at e))) (list_any (λ m. eqb m (at e)) (take e ms)) r.2 in
      let ne = eqb-false (at (e - 1)) (at e) (not-true (eqb (at (e - 1)) (at e)) parts.0) in
      let q = some_passing (λ m. eqb m (at e)) (take e ms) 0 parts.1 in
      let d = q.place in
      let before : d < e = omega (arith, q.within, length-take e ms) in
      let eq : at d ≡ at e = sym (get_or-take e ms d 0 before) ∙ eqb-true (get_or (take e ms) d 0) (at e) q.passes in
      let not_just : d ≡ e - 1 → ⊥ = λ i. ne (ap at (sym i) ∙ eq) in
      record { first = d; middle = e - 1; last = e; early = omega arith; later = omega arith; within = r.1; same = eq; other = ne }

  -- between a place with another module and a later one with module m, m comes anew
  anew : (m c n : ℕ) → (at c ≡ m → ⊥) → at (c + n) ≡ m → (k : ℕ) × (c < k) × (k ≤ c + n) × (at (k - 1) ≡ m → ⊥) × (at k ≡ m)
  anew m c zero ne e = let z : c + 0 ≡ c = omega arith in absurd (ne (ap at (sym z) ∙ e))
  anew m c (suc n) ne e =
      ⊎_elim
      (λ (already : at (c + n) ≡ m). let r = anew m c n ne already in (r.0, r.1, omega (arith, r.2), r.3, r.4))
      (λ (not_yet : at (c + n) ≡ m → ⊥). let z : c + suc n - 1 ≡ c + n = omega arith in (c + suc n, omega arith, omega arith, (λ h. not_yet (ap at (sym z) ∙ h)), e))
      (cases_eq (at (c + n)) m)

  none_apart : some_apart ms ≡ false → Apart ms → ⊥
  none_apart h a =
      let m = at a.last in
      let span : a.middle + (a.last - a.middle) ≡ a.last = omega (arith, a.later) in
      let r = anew m a.middle (a.last - a.middle) a.other (ap at span) in
      let k = r.0 in
      let before : a.first < k = omega (arith, a.early, r.1) in
      let end : k < length ms = omega (arith, r.2, a.within, a.later) in
      let there : eqb (get_or (take k ms) a.first 0) (at k) ≡ true = eq-eqb (get_or (take k ms) a.first 0) (at k) (get_or-take k ms a.first 0 before ∙ a.same ∙ sym r.4) in
      let earlier = list_any_at (λ x. eqb x (at k)) (take k ms) a.first 0 (omega (arith, length-take k ms)) there in
      let differs = not_from_false (eqb (at (k - 1)) (at k)) (ne_eqb (at (k - 1)) (at k) (λ e. r.3 (e ∙ r.4))) in
      both_ways (some_apart ms) h (some_since (apart_at ms) (length ms) k end (and_from (not (eqb (at (k - 1)) (at k))) (list_any (λ x. eqb x (at k)) (take k ms)) differs earlier))

above : (n : ℕ) → eqb n 0 ≡ false → 0 < n
above n h = let ne = eqb-false n 0 h in ⊎_elim (λ (z : n < 1). absurd (ne (omega arith))) (λ (p : 1 ≤ n). omega arith) (cases_lt n 1)

judge_by : (p : Panel) (a b c d : Bool) → eqb (count p) 0 ≡ a → list_any (leb (count p)) (named p) ≡ b → external p p.runtime ≡ c → some_apart (starts p) ≡ d → Judged p (smallest a b c d)
judge_by p true b c d ea eb ec ed = no_modules (eqb-true (count p) 0 ea)
judge_by p false true c d ea eb ec ed = out_of_range (above (count p) ea) (found p eb)
judge_by p false false true d ea eb ec ed = external_runtime (above (count p) ea) (none_found p eb) ec
judge_by p false false false true ea eb ec ed = entry_apart (above (count p) ea) (none_found p eb) ec (apart_found (starts p) ed)
judge_by p false false false false ea eb ec ed = fit (above (count p) ea) (none_found p eb) ec (none_apart (starts p) ed)

pub judge : (p : Panel) → Judged p (verdict p)
judge p = judge_by p _ _ _ _ refl refl refl refl

pub judged_by : (p : Panel) (r : Result (Unit {0}) Refusal) → r ≡ verdict p → Judged p r
judged_by p r e = subst (Judged p) (sym e) (judge p)
