-- Tests of the numbers below a bound.
use Rattle.std.proofs.Common.{◌≡◌, ℕ, ◌<◌, Bool, true, false, get_or, sym, ap, ◌∙◌, ⊎_elim, arith}
use Rattle.std.specs.List.{list_any, range_with_len}
use Rattle.std.proofs.lemmas.List.{get_or_default}
use Rattle.std.proofs.lemmas.List.Folds.{Any-from_list_any, list_any_at}
use Rattle.std.proofs.lemmas.List.FromFn.{get_or-range_with_len, length-range_with_len}
use Rattle.std.proofs.lemmas.Bool.{both_ways, cases_Bool}

place : (n k : ℕ) → k < n → get_or (range_with_len 0 n) k 0 ≡ k
place n k l = get_or-range_with_len 0 n k 0 l ∙ omega arith

-- a number that passes
pub some_at : (test : ℕ → Bool) (n : ℕ) → list_any test (range_with_len 0 n) ≡ true → (k : ℕ) × (k < n) × (test k ≡ true)
some_at test n h =
    let (k, x, within, is, passes) = Any-from_list_any test (range_with_len 0 n) h in
    let l : k < n = omega (arith, within, length-range_with_len 0 n) in
    (k, l, ap test (sym (place n k l) ∙ get_or_default (range_with_len 0 n) k 0 x within ∙ is) ∙ passes)

pub some_since : (test : ℕ → Bool) (n k : ℕ) → k < n → test k ≡ true → list_any test (range_with_len 0 n) ≡ true
some_since test n k l h = list_any_at test (range_with_len 0 n) k 0 (omega (arith, l, length-range_with_len 0 n)) (ap test (place n k l) ∙ h)

pub none_below : (test : ℕ → Bool) (n : ℕ) → list_any test (range_with_len 0 n) ≡ false → (k : ℕ) → k < n → test k ≡ false
none_below test n h k l = ⊎_elim (λ t. absurd (both_ways (list_any test (range_with_len 0 n)) h (some_since test n k l t))) (λ f. f) (cases_Bool (test k))

pub some_none : (test : ℕ → Bool) (n : ℕ) → ((k : ℕ) → test k ≡ false) → list_any test (range_with_len 0 n) ≡ false
some_none test n f = ⊎_elim (λ t. let r = some_at test n t in absurd (both_ways (test r.0) (f r.0) r.2)) (λ q. q) (cases_Bool (list_any test (range_with_len 0 n)))
