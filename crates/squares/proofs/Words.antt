-- The bits of a row from a bit of one of its words on.
use Rattle.std.proofs.Common.{◌≡◌, ℕ, ◌+◌, ◌-◌, ◌*◌, ◌/◌, ◌%◌, ◌^◌, ◌<◌, ◌≤◌, Bool, true, false, eqb, List, length, get_or, sym, ap, ◌∙◌, ⊎_elim, arith, w64}
use Rattle.std.specs.Int.{bit_at, trailing_zeros}
use Rattle.std.proofs.lemmas.Bool.{cases_lt}
use Rattle.std.proofs.lemmas.List.{get_or_past}
use Rattle.std.proofs.lemmas.Nat.{shr-shr, shr_le}
use Rattle.std.proofs.lemmas.Nat.Bits.{bit_at-trailing_zeros, bit_at_above}
use Rattle.sets.specs.Bits.{bit}
use Rattle.stores.specs.Pairs.{below, NoneFrom}
use Rattle.stores.proofs.Below.{none_below}
use Rattle.squares.specs.Square.{bits_in, zero_bit}

-- a bit of the word of d, by what the word has from d on
pub bit_from : (ws : List ℕ) (d k : ℕ) → d ≤ k → k / 64 ≡ d / 64 → bits_in ws k ≡ bit (get_or ws (d / 64) 0 / 2 ^ (d % 64)) (k - d)
unfolding bits_in bit
bit_from ws d k l e =
    let s : d % 64 + (k - d) ≡ k % 64 = omega arith in
    ap (λ (i : ℕ). eqb (get_or ws i 0 / 2 ^ (k % 64) % 2) 1) e
    ∙ ap (λ (i : ℕ). eqb (get_or ws (d / 64) 0 / 2 ^ i % 2) 1) (sym s)
    ∙ sym (ap (λ (x : ℕ). eqb (x % 2) 1) (shr-shr (get_or ws (d / 64) 0) (d % 64) (k - d)))

-- where the word has nothing from d on, the row has nothing before the next word
pub none_in_word : (ws : List ℕ) (d k : ℕ) → get_or ws (d / 64) 0 / 2 ^ (d % 64) ≡ 0 → d ≤ k → k < 64 * (d / 64 + 1) → bits_in ws k ≡ false
none_in_word ws d k none l h = bit_from ws d k l (omega arith) ∙ ap (λ (w : ℕ). bit w (k - d)) none ∙ zero_bit (k - d)

-- past the last word the row has nothing
pub none_past : (ws : List ℕ) (d k : ℕ) → length ws ≤ d / 64 → d ≤ k → bits_in ws k ≡ false
unfolding bits_in
none_past ws d k past l = ap (λ (w : ℕ). bit w (k % 64)) (get_or_past ws (k / 64) 0 (omega arith)) ∙ zero_bit (k % 64)

-- where the word has a bit from d on, its lowest is the row's first
module _ (ws : List ℕ) (d left : ℕ) (fits : get_or ws (d / 64) 0 < 2 ^ 64) (is : left ≡ get_or ws (d / 64) 0 / 2 ^ (d % 64)) (some : 0 < left) where
  abbrev t : ℕ
  t = trailing_zeros w64 left

  lowest : (t < 64) × (bit_at left t ≡ 1) × ((i : ℕ) → i < t → bit_at left i ≡ 0)
  lowest = bit_at-trailing_zeros w64 left some (omega (arith, is, shr_le (get_or ws (d / 64) 0) (d % 64)))

  within : d % 64 + t < 64
  within =
      ⊎_elim
      (λ (h : d % 64 + t < 64). h)
      (λ (h : 64 ≤ d % 64 + t).
      let high = bit_at_above (get_or ws (d / 64) 0) 64 (d % 64 + t) fits h in
      let same : bit_at left t ≡ bit_at (get_or ws (d / 64) 0) (d % 64 + t) = ap (λ (x : ℕ). x / 2 ^ t % 2) is ∙ ap (λ (x : ℕ). x % 2) (shr-shr (get_or ws (d / 64) 0) (d % 64) t) in
      absurd (omega (arith, lowest.1, high, same)))
      (cases_lt (d % 64 + t) 64)

  pub first_is : bits_in ws (d + t) ≡ true
  unfolding bit
  first_is =
      let w = within in
      let on : d + t - d ≡ t = omega arith in
      bit_from ws d (d + t) (omega arith) (omega arith) ∙ ap (bit (get_or ws (d / 64) 0 / 2 ^ (d % 64))) on ∙ ap (λ (x : ℕ). bit x t) (sym is) ∙ ap (λ (x : ℕ). eqb x 1) lowest.1

  pub none_before : (k : ℕ) → d ≤ k → k < d + t → bits_in ws k ≡ false
  unfolding bit
  none_before k l h =
      let w = within in
      bit_from ws d k l (omega arith) ∙ ap (λ (x : ℕ). bit x (k - d)) (sym is) ∙ ap (λ (x : ℕ). eqb x 1) (lowest.2 (k - d) (omega arith))

-- none before d, and none from d on
pub none_on : (row : ℕ → Bool) (from d n : ℕ) → ((k : ℕ) → from ≤ k → k < d → row k ≡ false) → ((k : ℕ) → d ≤ k → row k ≡ false) → NoneFrom (below n row) from
none_on row from d n early late = none_below n row from (λ k l h. ⊎_elim (λ (b : k < d). early k l b) (λ (a : d ≤ k). late k a) (cases_lt k d))

pub before_both : (row : ℕ → Bool) (from d e : ℕ) → ((k : ℕ) → from ≤ k → k < d → row k ≡ false) → ((k : ℕ) → d ≤ k → k < e → row k ≡ false) → (k : ℕ) → from ≤ k → k < e → row k ≡ false
before_both row from d e early late k l h = ⊎_elim (λ (b : k < d). early k l b) (λ (a : d ≤ k). late k a h) (cases_lt k d)
