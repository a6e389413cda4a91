-- The numbers that a row lists.
use Rattle.std.specs.Prelude.{◌≡◌, ℕ, zero, suc, ◌+◌, ◌<◌, ◌≤◌, Bool, true, false, ◌&&◌, ◌||◌, ◌==◌, List, replicate, nat_lt, slice_index, refl}
use Rattle.std.specs.List.{list_any}
use Rattle.std.proofs.Common.{◌≢◌, arith}
use Rattle.stores.specs.Cells.{IsRow}
use Rattle.stores.specs.Pairs.{degree}
use Rattle.std.proofs.lemmas.Bool.{ne_eqb}

-- whether the test holds of each number below k
abbrev pub every : ℕ → (ℕ → Bool) → Bool
every zero t = true
every (suc k) t = t k && every k t

-- the second number may stand behind the first: it is above it, or both are END
abbrev pub follows : ℕ → ℕ → Bool
follows x y = nat_lt x y || (x == 65535 && y == 65535)

-- a module's number, or END
abbrev pub in_range : ℕ → Bool
in_range x = nat_lt x 512 || x == 65535

-- each of the 65 numbers follows the one before it and is a module's or END, and the last is END
unfoldable pub ascending : List ℕ → Bool
ascending xs = every 64 (λ i. follows (slice_index xs i) (slice_index xs (i + 1))) && (every 65 (λ i. in_range (slice_index xs i)) && (slice_index xs 64 == 65535))

-- d is one of the numbers
abbrev pub listed : List ℕ → ℕ → Bool
listed xs d = list_any (λ x. x == d) xs

-- the first p of the 65 numbers are below d, and the others are not
pub record Parts (xs : List ℕ) (d p : ℕ) : Type 0 where
  pub few : p ≤ 65
  pub low : (i : ℕ) → i < p → slice_index xs i < d
  pub high : (i : ℕ) → p ≤ i → i < 65 → d ≤ slice_index xs i

-- a row lists at most 64 numbers, each that of one of n modules, and END fills it to its end
pub record OfModules (n : ℕ) (row : List ℕ) : Type 0 where
  pub few : degree (listed row) 512 ≤ 64
  pub small : (d : ℕ) → listed row d ≡ true → d ≢ 65535 → d < n
  pub fills : (i j : ℕ) → slice_index row i ≡ 65535 → i ≤ j → j < 65 → slice_index row j ≡ 65535
  pub closed : slice_index row 64 ≡ 65535

-- so does each row that is in order
abbrev pub RowsAreOfModules : Type 0
RowsAreOfModules = (row : List ℕ) → IsRow 65 ascending row → OfModules 512 row

pub blank_ascends : ascending (replicate 65 65535) ≡ true
unfolding ascending
blank_ascends = refl

none_listed : (n x d : ℕ) → (x == d) ≡ false → listed (replicate n x) d ≡ false
none_listed zero x d e = refl
none_listed (suc n) x d e = let i : listed (replicate n x) d ≡ false = none_listed n x d e in rw (e, i) refl

pub blank_lists : (d : ℕ) → d < 512 → listed (replicate 65 65535) d ≡ false
blank_lists d h = let e : 65535 ≢ d = omega arith in none_listed 65 65535 d (ne_eqb 65535 d e)
