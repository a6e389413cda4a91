-- The numbers that a row of bits lists.
use Rattle.std.specs.Prelude.{◌≡◌, ℕ, zero, suc, ◌/◌, ◌%◌, Bool, false, List, replicate, slice_index, refl}
use Rattle.std.proofs.Common.{eqb, ap, ◌∙◌, pow_pos}
use native.Mathlib.Nat.{div-eq_of_lt}
use Rattle.sets.specs.Bits.{bit}

-- bit d % 64 of word d / 64
unfoldable pub bits_in : List ℕ → ℕ → Bool
bits_in words d = bit (slice_index words (d / 64)) (d % 64)

pub zero_bit : (k : ℕ) → bit 0 k ≡ false
unfolding bit
zero_bit k = ap (λ (x : ℕ). eqb (x % 2) 1) (div-eq_of_lt (pow_pos k))

no_word : (n i : ℕ) → ◌≡◌ {A = ℕ} (slice_index (replicate n 0) i) 0
no_word zero i = refl
no_word (suc n) zero = refl
no_word (suc n) (suc i) = no_word n i

pub no_bits : (d : ℕ) → bits_in (replicate 8 0) d ≡ false
unfolding bits_in
no_bits d = ap (λ (w : ℕ). bit w (d % 64)) (no_word 8 (d / 64)) ∙ zero_bit (d % 64)
