-- The numbers that pass a test ascend.
use Rattle.std.proofs.Common.{ℕ, zero, suc, ◌+◌, ◌≤◌, Bool, List, ◌∷◌, get_or, arith}
use Rattle.std.specs.List.{AllByRecursion}
use Rattle.std.proofs.ByRecursion.{All-weaker, All-get_or}
use Rattle.std.proofs.lemmas.Bool.{cond_both}
use Rattle.reach.specs.Moved.{passing}
use Rattle.plans.specs.Lawful.{Ascending}

passing_from : (test : ℕ → Bool) (from k : ℕ) → AllByRecursion (λ x. from ≤ x) (passing test from k)
passing_from test from zero = tt
passing_from test from (suc k) =
    let rest : AllByRecursion (λ x. from ≤ x) (passing test (from + 1) k) = All-weaker (λ x. from + 1 ≤ x) (λ x. from ≤ x) (λ x h. omega arith) (passing test (from + 1) k) (passing_from test (from + 1) k) in
    cond_both (test from) (from ∷ passing test (from + 1) k) (passing test (from + 1) k) (AllByRecursion (λ x. from ≤ x))
    (λ _. (omega arith, rest))
    (λ _. rest)

pub ascends : (test : ℕ → Bool) (from k : ℕ) → Ascending (passing test from k)
ascends test from zero = λ i j l h. let z : ⊥ = omega arith in absurd z
ascends test from (suc k) =
    cond_both (test from) (from ∷ passing test (from + 1) k) (passing test (from + 1) k) Ascending
    (λ _. grows (passing test (from + 1) k) from (passing_from test (from + 1) k) (ascends test (from + 1) k))
    (λ _. ascends test (from + 1) k)
  where
    grows : (xs : List ℕ) (x : ℕ) → AllByRecursion (λ y. x + 1 ≤ y) xs → Ascending xs → Ascending (x ∷ xs)
    grows xs x a s i zero l h = let z : ⊥ = omega arith in absurd z
    grows xs x a s zero (suc j) l h = let q : x + 1 ≤ get_or xs j 0 = All-get_or (λ y. x + 1 ≤ y) xs j 0 (omega arith) a in omega arith
    grows xs x a s (suc i) (suc j) l h = s i j (omega arith) (omega arith)
