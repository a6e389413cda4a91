-- Bits: what is read, what is set, and that they make the number.
use Rattle.std.proofs.Common.{◌≡◌, ℕ, ◌-◌, ◌*◌, ◌/◌, ◌%◌, ◌^◌, ◌<◌, ◌≤◌, max, min, Bool, true, false, cond, not, ◌&&◌, ◌||◌, eqb, sym, refl, ap, ◌∙◌, ⊎_elim, arith, w64}
use lib.Bits.{and_le_l, bit_and, bit_or}
use Rattle.std.specs.Int.{bit_at}
use Rattle.std.proofs.lemmas.Bool.{cases_eq, cases_lt, eq-eqb, ne_eqb}
use Rattle.std.proofs.lemmas.Bool.Decides.{nat_tests}
use Rattle.std.proofs.lemmas.Nat.Bits.{bit_at-zero, shr_and_one, bit_at_and, bit_at_or, bit_at_not, bit_at-lt, bit_at_above, bit_at_set_same, bit_at_set_other, bit_at_clear_same, bit_at_clear_other, same_from_bits}
use Rattle.sets.specs.Bits.{bit}

-- what `w >> k & 1 == 1` says
pub bit_test : (w k : ℕ) → eqb (bit_and (w / 2 ^ k) 1) 1 ≡ bit w k
unfolding bit
bit_test w k = ap (λ (x : ℕ). eqb x 1) (shr_and_one w k)

-- what `w | 1 << k` sets
pub bit_set : (w k : ℕ) → k < 64 → (j : ℕ) → bit (bit_or w (1 * 2 ^ k % 2 ^ 64)) j ≡ cond (eqb j k) true (bit w j)
unfolding bit
bit_set w k h j =
    ⊎_elim
    (λ (e : j ≡ k). rw e (ap (λ (x : ℕ). eqb x 1) (bit_at_set_same w64 w k h) ∙ sym (ap (λ b. cond b true (eqb (bit_at w k) 1)) (eq-eqb k k refl))))
    (λ (n : j ≡ k → ⊥). ap (λ (x : ℕ). eqb x 1) (bit_at_set_other w64 w k h j n) ∙ sym (ap (λ b. cond b true (eqb (bit_at w j) 1)) (ne_eqb j k n)))
    (cases_eq j k)

-- what `w & !(1 << k)` clears
pub bit_clear : (w k : ℕ) → k < 64 → (j : ℕ) → j < 64 → bit (bit_and w ((2 ^ 64 - 1) - 1 * 2 ^ k % 2 ^ 64)) j ≡ cond (eqb j k) false (bit w j)
unfolding bit
bit_clear w k h j below =
    ⊎_elim
    (λ (e : j ≡ k). rw e (ap (λ (x : ℕ). eqb x 1) (bit_at_clear_same w64 w k h) ∙ sym (ap (λ b. cond b false (eqb (bit_at w k) 1)) (eq-eqb k k refl))))
    (λ (n : j ≡ k → ⊥). ap (λ (x : ℕ). eqb x 1) (bit_at_clear_other w64 w k h j below n) ∙ sym (ap (λ b. cond b false (eqb (bit_at w j) 1)) (ne_eqb j k n)))
    (cases_eq j k)

pub bit_zero : (k : ℕ) → bit 0 k ≡ false
unfolding bit
bit_zero k = ap (λ (x : ℕ). eqb x 1) (bit_at-zero k)

-- the one bit of `1 << k`
pub bit_one : (k : ℕ) → k < 64 → (j : ℕ) → bit (1 * 2 ^ k % 2 ^ 64) j ≡ eqb j k
bit_one k h j = bit_set 0 k h j ∙ ap (cond (eqb j k) true) (bit_zero j) ∙ cond_self (eqb j k)
  where
    cond_self : (b : Bool) → cond b true false ≡ b
    cond_self true = refl
    cond_self false = refl

pub and_true : (a b : Bool) → b ≡ true → a ≡ (a && b)
and_true true b h = sym h
and_true false b h = refl

-- a number has no bit at or above its width
pub bit_past : (width w k : ℕ) → w < 2 ^ width → width ≤ k → bit w k ≡ false
unfolding bit
bit_past width w k h l = ap (λ (x : ℕ). eqb x 1) (bit_at_above w width k h l)

-- two numbers with the same bits are the same
pub same_bits : (a b : ℕ) → ((k : ℕ) → bit a k ≡ bit b k) → a ≡ b
unfolding bit
same_bits a b h = same_from_bits a b (λ k. same_low (bit_at a k) (bit_at b k) (bit_at-lt a k) (bit_at-lt b k) (h k))
  where
    same_low : (x y : ℕ) → x < 2 → y < 2 → eqb x 1 ≡ eqb y 1 → x ≡ y
    same_low x y hx hy e = grind (arith, nat_tests)

-- what `a | b` has
pub bit_of_or : (a b k : ℕ) → bit (bit_or a b) k ≡ (bit a k || bit b k)
unfolding bit
bit_of_or a b k = ap (λ (x : ℕ). eqb x 1) (bit_at_or a b k) ∙ either (bit_at a k) (bit_at b k) (bit_at-lt a k) (bit_at-lt b k)
  where
    either : (x y : ℕ) → x < 2 → y < 2 → eqb (max x y) 1 ≡ (eqb x 1 || eqb y 1)
    either x y hx hy = grind (arith, nat_tests)

-- what `a & b` has
pub bit_of_and : (a b k : ℕ) → bit (bit_and a b) k ≡ (bit a k && bit b k)
unfolding bit
bit_of_and a b k = ap (λ (x : ℕ). eqb x 1) (bit_at_and a b k) ∙ both (bit_at a k) (bit_at b k) (bit_at-lt a k) (bit_at-lt b k)
  where
    both : (x y : ℕ) → x < 2 → y < 2 → eqb (min x y) 1 ≡ (eqb x 1 && eqb y 1)
    both x y hx hy = grind (arith, nat_tests)

-- what `a & !b` has, at 64 bits
pub bit_without : (a b : ℕ) → a < 2 ^ 64 → b < 2 ^ 64 → (k : ℕ) → bit (bit_and a ((2 ^ 64 - 1) - b)) k ≡ (bit a k && not (bit b k))
unfolding bit
bit_without a b la lb k =
    ⊎_elim
    (λ (h : k < 64). ap (λ (x : ℕ). eqb x 1) (bit_at_and a ((2 ^ 64 - 1) - b) k ∙ ap (min (bit_at a k)) (bit_at_not w64 b k lb h)) ∙ without (bit_at a k) (bit_at b k) (bit_at-lt a k) (bit_at-lt b k))
    (λ (h : 64 ≤ k). ap (λ (x : ℕ). eqb x 1) (bit_at_above (bit_and a ((2 ^ 64 - 1) - b)) 64 k (omega (arith, and_le_l a ((2 ^ 64 - 1) - b))) h) ∙ sym (ap (λ (x : ℕ). eqb x 1 && not (eqb (bit_at b k) 1)) (bit_at_above a 64 k la h)))
    (cases_lt k 64)
  where
    without : (x y : ℕ) → x < 2 → y < 2 → eqb (min x (1 - y)) 1 ≡ (eqb x 1 && not (eqb y 1))
    without x y hx hy = grind (arith, nat_tests)
