-- The pairs that a square of bits in any memory stands for. In a store they are the store's pairs.
use Rattle.std.specs.Prelude.{◌≡◌, ℕ, ◌+◌, ◌*◌, ◌/◌, ◌%◌, ◌<◌, ◌≤◌, min, true, ◌&&◌, List, length, nat_lt, slice_index}
use Rattle.std.proofs.lemmas.Bool.{and_parts, ltb-true}
use Rattle.sets.specs.Bits.{bit}
use Rattle.stores.specs.Cells.{pairs_in as pairs_of_rows}
use Rattle.stores.specs.Pairs.{Pairs}
use Rattle.squares.specs.Square.{bits_in}

-- the word of the pair (m, d)
abbrev pub place : ℕ → ℕ → ℕ
place m d = 8 * m + d / 64

-- the size of a square of n modules in these words: 512 at most, and no more than they have room for
abbrev pub side_of : ℕ → List ℕ → ℕ
side_of n words = min (min n 512) (length words / 8)

-- the pairs below n that the words hold
unfoldable pub pairs_in : ℕ → List ℕ → Pairs
pairs_in n words m d = nat_lt m n && (nat_lt d n && bit (slice_index words (place m d)) (d % 64))

abbrev pub square_pairs : ℕ → List ℕ → Pairs
square_pairs n words = pairs_in (side_of n words) words

pub within_side : (n : ℕ) (words : List ℕ) (a b : ℕ) → pairs_in n words a b ≡ true → (a < n) × (b < n)
unfolding pairs_in
within_side n words a b h = let p = and_parts _ _ h in (ltb-true a n p.0, ltb-true b n (and_parts _ _ p.1).0)

-- what the type of a store says of its size and its memory
pub record Stored (n : ℕ) (words : List ℕ) : Type 0 where
  pub small : n ≤ 512
  pub room : 8 * n ≤ length words

-- in such memory a square has the store's size, and stands for its pairs
pub record SamePairs (n : ℕ) (words : List ℕ) : Type 0 where
  pub size : side_of n words ≡ n
  pub pairs : (a b : ℕ) → square_pairs n words a b ≡ pairs_of_rows bits_in 8 n words a b
