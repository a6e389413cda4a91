-- The pairs that rows of cells stand for, one row a module.
use Rattle.std.specs.Prelude.{◌≡◌, ℕ, ◌+◌, ◌*◌, ◌<◌, Bool, true, ◌&&◌, List, drop, length, nat_lt, slice_range}
use Rattle.std.proofs.lemmas.Bool.{and_parts, ltb-true}
use Rattle.stores.specs.Pairs.{Pairs, below}

-- the row of m, of so many cells
abbrev pub row_of : {X : Type 0} → ℕ → List X → ℕ → List X
row_of per xs m = slice_range xs (per * m) (per * m + per)

-- the pairs below n that the rows list
abbrev pub pairs_in : {X : Type 0} → (List X → ℕ → Bool) → ℕ → ℕ → List X → Pairs
pairs_in listed per n xs m d = nat_lt m n && below n (listed (row_of per xs m)) d

-- a row has so many cells, and holds what the test asks
pub record IsRow {X : Type 0} (per : ℕ) (ordered : List X → Bool) (row : List X) : Type 0 where
  pub long : length row ≡ per
  pub order : ordered row ≡ true

pub pairs_within : {X : Type 0} (listed : List X → ℕ → Bool) (per n : ℕ) (xs : List X) (a b : ℕ) → pairs_in listed per n xs a b ≡ true → (a < n) × (b < n)
pairs_within listed per n xs a b h = let p = and_parts _ _ h in (ltb-true a n p.0, ltb-true b n (and_parts _ _ p.1).0)

-- the rows of n modules stand for other pairs now, and what lies past them is as it was
pub record Rewritten {X : Type 0} (listed : List X → ℕ → Bool) (per n : ℕ) (change : Pairs → Pairs) (old new : List X) : Type 0 where
  pub pairs : (a b : ℕ) → pairs_in listed per n new a b ≡ change (pairs_in listed per n old) a b
  pub past : drop (per * n) new ≡ drop (per * n) old
