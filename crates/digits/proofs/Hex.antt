-- Digits read one by one, and the digits of a number read back.
use Rattle.std.proofs.Common.{◌≡◌, ℕ, zero, suc, ◌+◌, ◌-◌, ◌*◌, ◌/◌, ◌%◌, ◌^◌, ◌<◌, ◌≤◌, List, ◌∷◌, length, get_or, drop, Some, None, Option, sym, refl, ap, ◌∙◌, mod-eq_of_lt, mul_assoc, add-mul, add-one, arith, lit<}
use native.Mathlib.Nat.{pow-succ', pow-le-pow_right, div-eq_of_lt}
use lib.Arith.{mod-mul}
use lib.Bits.{bit_and}
use Rattle.std.proofs.lemmas.Nat.{pow-add, and_mask}
use Rattle.std.proofs.lemmas.List.{drop_more}
use Rattle.std.proofs.lemmas.Bool.Decides.{nat_tests}
use Rattle.digits.specs.Digits.{value_of, digit_of, both, values_of, number_after, digits}
use Rattle.digits.specs.Lay.{ReadBack}

pub value_below : (b d : ℕ) → Some d ≡ value_of b → d < 16
value_below b d e = grind (arith, nat_tests)

pub value_digit : (d : ℕ) → d < 16 → value_of (digit_of d) ≡ Some d
value_digit d h = grind (arith, nat_tests)

-- the value after one more digit stays below the power
pub value_more : (v d i : ℕ) → v < 16 ^ i → d < 16 → 16 * v + d < 16 ^ (i + 1)
value_more v d i h l = rw add-one (omega (arith, pow-succ' 16 i))

-- sixteen digits fit 64 bits
pub value_fits : (v d i n : ℕ) → v < 16 ^ i → d < 16 → i < n → n ≤ 16 → 16 * v + d < 2 ^ 64
value_fits v d i n h l lt le =
    let step = value_more v d i h l in
    let up : i + 1 ≤ 16 = omega arith in
    let most : 16 ^ (i + 1) ≤ 16 ^ 16 = pow-le-pow_right (lit< tt) up in
    omega arith

abbrev told : ℕ → Option (List ℕ) → Option ℕ
told n o = elim o [ Some vs ↦ Some (number_after 16 n vs) | None ↦ None ]

-- what digits write after a number
abbrev pub after : ℕ → List ℕ → Option ℕ
after n bs = told n (values_of bs)

told_more : (n d : ℕ) (o : Option (List ℕ)) → told n (both (λ v vs. v ∷ vs) (Some d) o) ≡ told (16 * n + d) o
told_more n d (Some vs) = refl
told_more n d None = refl

told_stop : (n : ℕ) (o : Option (List ℕ)) → told n (both (λ v vs. v ∷ vs) None o) ≡ None
told_stop n (Some vs) = refl
told_stop n None = refl

pub after_digit : (n b d : ℕ) (bs : List ℕ) → value_of b ≡ Some d → after n (b ∷ bs) ≡ after (16 * n + d) bs
after_digit n b d bs e = ap (λ o. told n (both (λ v vs. v ∷ vs) o (values_of bs))) e ∙ told_more n d (values_of bs)

pub after_none : (n b : ℕ) (bs : List ℕ) → value_of b ≡ None → after n (b ∷ bs) ≡ None
after_none n b bs e = ap (λ o. told n (both (λ v vs. v ∷ vs) o (values_of bs))) e ∙ told_stop n (values_of bs)

pub after_more : (v d i : ℕ) (bs : List ℕ) → i < length bs → Some d ≡ value_of (get_or bs i 0) → after v (drop i bs) ≡ after (16 * v + d) (drop (i + 1) bs)
after_more v d i bs h e = ap (after v) (drop_more bs i 0 h) ∙ after_digit v (get_or bs i 0) d (drop (i + 1) bs) (sym e)

pub after_stop : (v i : ℕ) (bs : List ℕ) → i < length bs → None ≡ value_of (get_or bs i 0) → after v (drop i bs) ≡ None
after_stop v i bs h e = ap (after v) (drop_more bs i 0 h) ∙ after_none v (get_or bs i 0) (drop (i + 1) bs) (sym e)

pub pow_pos : (k : ℕ) → 0 < 16 ^ k
pow_pos zero = lit< tt
pow_pos (suc k) = omega (arith, pow-succ' 16 k, pow_pos k)

weigh : (m q p r : ℕ) → (16 * m + q) * p + r ≡ m * (16 * p) + (q * p + r)
weigh m q p r = omega (arith, add-mul (16 * m) q p, mul_assoc 16 m p, mul_assoc m 16 p, mul_assoc 16 p m)

split_top : (k n m : ℕ) → (16 * m + n / 16 ^ k % 16) * 16 ^ k + n % 16 ^ k ≡ m * 16 ^ suc k + n % 16 ^ suc k
split_top k n m =
    weigh m (n / 16 ^ k % 16) (16 ^ k) (n % 16 ^ k)
    ∙ ap (λ r. m * (16 * 16 ^ k) + r) (sym (mod-mul n {m = 16} {c = 16 ^ k} (lit< tt) (pow_pos k)))
    ∙ ap (λ p. m * p + n % p) (sym (pow-succ' 16 k))

pub after_digits : (k n m : ℕ) → after m (digits k n) ≡ Some (m * 16 ^ k + n % 16 ^ k)
after_digits zero n m = let e : m ≡ m * 16 ^ 0 + n % 16 ^ 0 = omega arith in ap Some e
after_digits (suc k) n m =
    let q : n / 16 ^ k % 16 < 16 = omega arith in
    after_digit m (digit_of (n / 16 ^ k % 16)) (n / 16 ^ k % 16) (digits k n) (value_digit (n / 16 ^ k % 16) q)
    ∙ after_digits k n (16 * m + n / 16 ^ k % 16)
    ∙ ap Some (split_top k n m)

pub read_back : ReadBack
read_back k n h = after_digits k n 0 ∙ (let e : 0 * 16 ^ k + n % 16 ^ k ≡ n = omega (arith, mod-eq_of_lt h) in ap Some e)

-- a shift by four bits for each digit
pub four_bits : (k : ℕ) → 2 ^ (4 * k) ≡ 16 ^ k
four_bits zero = refl
four_bits (suc k) =
    let up : 4 * suc k ≡ 4 + 4 * k = omega arith in
    ap (λ m. 2 ^ m) up ∙ pow-add 2 4 (4 * k) ∙ ap (λ m. 16 * m) (four_bits k) ∙ sym (pow-succ' 16 k)

pub low_place : (n k : ℕ) → bit_and (n / 2 ^ (4 * k)) 15 ≡ n / 16 ^ k % 16
low_place n k = and_mask (n / 2 ^ (4 * k)) 4 ∙ ap (λ m. n / m % 16) (four_bits k)

pub high_place : (n k : ℕ) → n < 2 ^ 64 → 16 ≤ k → n / 16 ^ k % 16 ≡ 0
high_place n k h l =
    let most : 16 ^ 16 ≤ 16 ^ k = pow-le-pow_right (lit< tt) l in
    let small : n < 16 ^ k = omega arith in
    ap (λ m. m % 16) (div-eq_of_lt small)

pub length_digits : (k n : ℕ) → length (digits k n) ≡ k
length_digits zero n = refl
length_digits (suc k) n = ap suc (length_digits k n)

pub digits_at : (k n i : ℕ) → i < k → get_or (digits k n) i 0 ≡ digit_of (n / 16 ^ (k - 1 - i) % 16)
digits_at zero n i h = absurd (omega arith)
digits_at (suc k) n zero h = let e : k ≡ suc k - 1 - 0 = omega arith in ap (λ p. digit_of (n / 16 ^ p % 16)) e
digits_at (suc k) n (suc i) h = let e : k - 1 - i ≡ suc k - 1 - suc i = omega arith in digits_at k n i (omega arith) ∙ ap (λ p. digit_of (n / 16 ^ p % 16)) e
