-- Sets of pairs of module numbers, and what one edit makes of them.
use Rattle.std.specs.Prelude.{◌≡◌, ℕ, zero, suc, ◌+◌, ◌<◌, ◌≤◌, Bool, true, false, cond, ◌&&◌, ◌==◌, nat_lt}

abbrev pub Pairs : Type 0
Pairs = ℕ → ℕ → Bool

abbrev pub no_pairs : Pairs
no_pairs a b = false

-- how many numbers below n the row has
abbrev pub degree : (ℕ → Bool) → ℕ → ℕ
degree row zero = 0
degree row (suc n) = cond (row n) 1 0 + degree row n

-- the row has fewer than 64 of the numbers below 512
unfoldable pub HasRoom : (ℕ → Bool) → Type 0
HasRoom row = degree row 512 < 64

-- the numbers of the row that are below n
abbrev pub below : ℕ → (ℕ → Bool) → ℕ → Bool
below n row b = nat_lt b n && row b

-- the one number d has the value v
abbrev pub with_number : Bool → (ℕ → Bool) → ℕ → ℕ → Bool
with_number v row d b = cond (b == d) v (row b)

-- the one pair (m, d) has the value v, where the edit was accepted
abbrev pub changed : Bool → Bool → Pairs → ℕ → ℕ → Pairs
changed accepted v old m d a b = cond (accepted && (a == m && b == d)) v (old a b)

-- the smallest number at or above from that the row has
abbrev pub Smallest : (ℕ → Bool) → ℕ → ℕ → Type 0
Smallest row from d = (from ≤ d) × (row d ≡ true) × ((k : ℕ) → from ≤ k → k < d → row k ≡ false)

abbrev pub NoneFrom : (ℕ → Bool) → ℕ → Type 0
NoneFrom row from = (k : ℕ) → from ≤ k → row k ≡ false
