-- The numbers of a stretch that pass a test, and when two sets differ.
use Rattle.std.proofs.Common.{◌≡◌, ℕ, zero, suc, ◌+◌, ◌<◌, ◌≤◌, Bool, true, false, cond, not, ◌⊎◌, List, map, [], ◌∷◌, ◌++◌, sym, refl, ap, ◌∙◌, inl, inr, ⊎_elim, append-nil, add-zero, arith}
use Rattle.std.proofs.lemmas.List.{map_push}
use Rattle.std.proofs.lemmas.Bool.{both_ways, cases_lt, cases_eq, cases_Bool, or_from, or_parts, or_cases}
use Rattle.exports.proofs.Below.{some_at, some_since, some_none, none_below}
use Rattle.tables.specs.View.{number}
use Rattle.tables.specs.declared.index.ModuleIdx.{ModuleIdx}
use Rattle.reach.specs.Moved.{passing, unlike, differs}

-- one number more at the end
passing_push : (test : ℕ → Bool) (from k : ℕ) → passing test from (k + 1) ≡ passing test from k ++ cond (test (from + k)) ((from + k) ∷ []) []
passing_push test from zero = simp add-zero
passing_push test from (suc k) =
    let s : suc k + 1 ≡ suc (k + 1) = omega arith in
    let t : (from + 1) + k ≡ from + suc k = omega arith in
    let rest : passing test (from + 1) (k + 1) ≡ passing test (from + 1) k ++ cond (test (from + suc k)) ((from + suc k) ∷ []) [] =
    passing_push test (from + 1) k ∙ ap (λ z. passing test (from + 1) k ++ cond (test z) (z ∷ []) []) t in
    ap (passing test from) s
    ∙ (elim (test from) as (λ b. cond b (from ∷ passing test (from + 1) (k + 1)) (passing test (from + 1) (k + 1)) ≡ cond b (from ∷ passing test (from + 1) k) (passing test (from + 1) k) ++ cond (test (from + suc k)) ((from + suc k) ∷ []) []) [
      | true ↦ ap (λ l. from ∷ l) rest
      | false ↦ rest
    ])

pub push_pass : (test : ℕ → Bool) (k : ℕ) → test k ≡ true → passing test 0 k ++ k ∷ [] ≡ passing test 0 (k + 1)
push_pass test k e =
    let z : 0 + k ≡ k = omega arith in
    sym (passing_push test 0 k ∙ ap (λ y. passing test 0 k ++ cond (test y) (y ∷ []) []) z ∙ ap (λ b. passing test 0 k ++ cond b (k ∷ []) []) e)

pub push_shut : (test : ℕ → Bool) (k : ℕ) → test k ≡ false → passing test 0 k ≡ passing test 0 (k + 1)
push_shut test k e =
    let z : 0 + k ≡ k = omega arith in
    sym (passing_push test 0 k ∙ ap (λ y. passing test 0 k ++ cond (test y) (y ∷ []) []) z ∙ ap (λ b. passing test 0 k ++ cond b (k ∷ []) []) e ∙ append-nil (passing test 0 k))

-- the modules named so far, and one more unless r, which tells that it does not pass
pub named_more : (test : ℕ → Bool) (y : ℕ) (names : List ModuleIdx) {more : List ModuleIdx} (r : Bool) → map number names ≡ passing test 0 y → test y ≡ not r → more ≡ cond r names (names ++ record { 0 = y } ∷ []) → map number more ≡ passing test 0 (y + 1)
named_more test y names true h e m = ap (map number) m ∙ h ∙ push_shut test y e
named_more test y names false h e m = ap (map number) m ∙ map_push number names (record { 0 = y }) ∙ ap (λ (l : List ℕ). l ++ y ∷ []) h ∙ push_pass test y e

-- what it is to be unlike

pub alike_from : (a b : Bool) → unlike a b ≡ false → a ≡ b
alike_from true true h = refl
alike_from true false h = h
alike_from false true h = sym h
alike_from false false h = refl

pub not_unlike : (a b : Bool) → a ≡ b → unlike a b ≡ false
not_unlike true true e = refl
not_unlike true false e = e
not_unlike false true e = sym e
not_unlike false false e = refl

pub unlike_cases : (a b : Bool) → unlike a b ≡ true → ((a ≡ true) × (b ≡ false)) ⊎ ((a ≡ false) × (b ≡ true))
unlike_cases true true h = absurd (both_ways false refl h)
unlike_cases true false h = inl (refl, refl)
unlike_cases false true h = inr (refl, refl)
unlike_cases false false h = absurd (both_ways false refl h)

pub unlike_from : (a b : Bool) → a ≡ true → b ≡ false → unlike a b ≡ true
unlike_from true true e f = sym f
unlike_from true false e f = refl
unlike_from false true e f = absurd (both_ways false refl e)
unlike_from false false e f = absurd (both_ways false refl e)

pub unlike_back : (a b : Bool) → a ≡ false → b ≡ true → unlike a b ≡ true
unlike_back true true e f = absurd (both_ways true e refl)
unlike_back true false e f = absurd (both_ways true e refl)
unlike_back false true e f = refl
unlike_back false false e f = f

-- sets that are the same, and that are not, by a test r of their members
pub same_test : (n : ℕ) (old new : ℕ → ℕ → Bool) (y : ℕ) → ((e : ℕ) → old y e ≡ new y e) → differs n old new y ≡ false
same_test n old new y same = some_none (λ e. unlike (old y e) (new y e)) n (λ e. not_unlike (old y e) (new y e) (same e))

pub other_test : (n : ℕ) (old new : ℕ → ℕ → Bool) (y : ℕ) → ((e : ℕ) → n ≤ e → old y e ≡ false) → ((e : ℕ) → n ≤ e → new y e ≡ false) → (((e : ℕ) → old y e ≡ new y e) → ⊥) → differs n old new y ≡ true
other_test n old new y wo wn ne = ⊎_elim
    (λ q. q)
    (λ q. absurd (ne (λ e. ⊎_elim
    (λ (l : e < n). alike_from (old y e) (new y e) (none_below (λ k. unlike (old y k) (new y k)) n q e l))
    (λ (l : n ≤ e). wo e l ∙ sym (wn e l))
    (cases_lt e n))))
    (cases_Bool (differs n old new y))
