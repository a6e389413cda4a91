-- The first number below n that a row lists.
use Rattle.std.proofs.Common.{◌≡◌, ℕ, ◌<◌, ◌≤◌, Bool, true, false, ltb, refl, ⊎_elim, arith}
use Rattle.std.proofs.lemmas.Bool.{cases_lt, le-ltb, lt-ltb}
use Rattle.stores.specs.Pairs.{below, Smallest, NoneFrom}

pub none_below : (n : ℕ) (row : ℕ → Bool) (from : ℕ) → ((k : ℕ) → from ≤ k → k < n → row k ≡ false) → NoneFrom (below n row) from
none_below n row from none k h =
    ⊎_elim
    (λ (l : k < n). let t : ltb k n ≡ true = lt-ltb k n l in let e = none k h l in rw (t, e) refl)
    (λ (g : n ≤ k). let t : ltb k n ≡ false = le-ltb k n g in rw t refl)
    (cases_lt k n)

pub first_below : (n : ℕ) (row : ℕ → Bool) (from d : ℕ) → from ≤ d → d < n → row d ≡ true → ((k : ℕ) → from ≤ k → k < d → row k ≡ false) → Smallest (below n row) from d
first_below n row from d low high there none = (low, (let t : ltb d n ≡ true = lt-ltb d n high in rw (t, there) refl), λ k h l. let t : ltb k n ≡ true = lt-ltb k n (omega arith) in let e = none k h l in rw (t, e) refl)
