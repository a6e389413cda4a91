-- The pairs that rows of any content stand for: a row ends at the first number that is no module's or does not ascend. In a store, whose rows are in order, they are the store's pairs.
use Rattle.std.specs.Prelude.{◌≡◌, ℕ, zero, suc, ◌+◌, ◌*◌, ◌/◌, ◌<◌, ◌≤◌, min, Bool, true, false, cond, ◌&&◌, ◌||◌, List, length, nat_eq, nat_le, nat_lt, slice_index}
use Rattle.stores.specs.Cells.{row_of, pairs_in}
use Rattle.stores.specs.Pairs.{Pairs}
use Rattle.rows.specs.Rows.{ascending, listed}

-- the size of rows for n modules in these numbers
abbrev pub rows_of : ℕ → List ℕ → ℕ
rows_of n xs = min (min n 512) (length xs / 65)

-- the numbers of the row of m
abbrev pub in_row : List ℕ → ℕ → ℕ → ℕ
in_row xs m i = slice_index xs (65 * m + i)

-- the first place from i on, of f places, whose number is not below n or does not ascend from low
unfoldable pub stop : ℕ → (ℕ → ℕ) → ℕ → ℕ → ℕ → ℕ
stop n x i zero low = i
stop n x i (suc f) low = cond (nat_le low (x i) && nat_lt (x i) n) (stop n x (suc i) f (suc (x i))) i

-- whether the test holds of some number below k
abbrev pub some : ℕ → (ℕ → Bool) → Bool
some zero t = false
some (suc k) t = t k || some k t

-- how many modules the row lists
abbrev pub row_length : ℕ → List ℕ → ℕ → ℕ
row_length n xs m = stop n (in_row xs m) 0 64 0

-- whether d is among the first k numbers
unfoldable pub among : ℕ → (ℕ → ℕ) → ℕ → Bool
among k x d = some k (λ i. nat_eq (x i) d)

unfoldable pub listed_in : ℕ → List ℕ → Pairs
listed_in n xs m d = nat_lt m n && among (row_length n xs m) (in_row xs m) d

abbrev pub row_pairs : ℕ → List ℕ → Pairs
row_pairs n xs = listed_in (rows_of n xs) xs

-- the first k numbers ascend
abbrev pub Rises : ℕ → (ℕ → ℕ) → Type 0
Rises k x = (j : ℕ) → j + 1 < k → x j < x (j + 1)

-- what the type of a store says of its size and its memory
pub record InOrder (n : ℕ) (xs : List ℕ) : Type 0 where
  pub small : n ≤ 512
  pub room : 65 * n ≤ length xs
  pub ordered : (m : ℕ) → m < n → ascending (row_of 65 xs m) ≡ true
  pub modules : (m d : ℕ) → m < n → d < 512 → listed (row_of 65 xs m) d ≡ true → d < n

-- in such memory rows of any content have the store's size, and stand for its pairs
pub record SamePairs (n : ℕ) (xs : List ℕ) : Type 0 where
  pub size : rows_of n xs ≡ n
  pub pairs : (a b : ℕ) → row_pairs n xs a b ≡ pairs_in listed 65 n xs a b
