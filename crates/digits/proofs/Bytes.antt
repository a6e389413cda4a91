-- Bytes of two digits each.
use Rattle.std.proofs.Common.{◌≡◌, ℕ, zero, suc, ◌+◌, ◌-◌, ◌*◌, ◌%◌, ◌^◌, ◌<◌, ◌≤◌, Bool, true, false, ◌&&◌, eqb, List, [], ◌∷◌, ◌++◌, length, get_or, take, drop, is_some, Some, None, Option, sym, refl, ap, ◌∙◌, append_assoc, mul-le-mul_right, mul_assoc, mul_comm, arith, lit<}
use native.Mathlib.Nat.{pow-succ', pow-le-pow_right}
use Rattle.std.proofs.lemmas.List.{length-take, take_all}
use Rattle.std.specs.List.{between}
use Rattle.std.specs.Option.{option_map}
use Rattle.digits.specs.Digits.{value_of, both, values_of, number_after, number_in, big_endian, byte_of, bytes_in}
use Rattle.digits.proofs.Hex.{value_below, after, after_digit}

module _ {A B C : Type 0} (f : A → B → C) where
  -- where something comes of two parts, both are there
  both_parts : (o : Option A) (p : Option B) (z : C) → both f o p ≡ Some z → (a : A) × (b : B) × (o ≡ Some a) × (p ≡ Some b) × (z ≡ f a b)
  both_parts (Some a) (Some b) z e = (a, b, refl, refl, cc)
  both_parts (Some a) None z e = let no_some : ◌≡◌ {A = ℕ} 0 1 = cc in absurd (omega arith)
  both_parts None (Some b) z e = let no_some : ◌≡◌ {A = ℕ} 0 1 = cc in absurd (omega arith)
  both_parts None None z e = let no_some : ◌≡◌ {A = ℕ} 0 1 = cc in absurd (omega arith)

  both_none : (o : Option A) → both f o None ≡ None
  both_none (Some a) = refl
  both_none None = refl

  none_both : (p : Option B) → both f None p ≡ None
  none_both (Some b) = refl
  none_both None = refl

-- an odd number of digits writes no bytes
pub odd_none : (bs : List ℕ) → length bs % 2 ≡ 1 → bytes_in bs ≡ None
odd_none [] h = absurd (omega arith)
odd_none (a ∷ []) h = refl
odd_none (a ∷ (b ∷ rest)) h = ap (both (λ byte bytes. byte ∷ bytes) (byte_of a b)) (odd_none rest (omega arith)) ∙ both_none (λ byte bytes. byte ∷ bytes) (byte_of a b)

-- the bytes of a line with at least two digits: the first, and those of the rest
abbrev First : ℕ → ℕ → List ℕ → List ℕ → Type 0
First a b rest bytes = (x : ℕ) × (xs : List ℕ) × (byte_of a b ≡ Some x) × (bytes_in rest ≡ Some xs) × (bytes ≡ x ∷ xs)

first : (a b : ℕ) (rest bytes : List ℕ) → bytes_in (a ∷ (b ∷ rest)) ≡ Some bytes → First a b rest bytes
first a b rest bytes e = both_parts (λ byte bytes. byte ∷ bytes) (byte_of a b) (bytes_in rest) bytes e

pub length_bytes : (line bytes : List ℕ) → bytes_in line ≡ Some bytes → length line ≡ 2 * length bytes
length_bytes [] bytes e = let nil : [] ≡ bytes = cc in rw (← nil) refl
length_bytes (a ∷ []) bytes e = let no_some : ◌≡◌ {A = ℕ} 0 1 = cc in absurd (omega arith)
length_bytes (a ∷ (b ∷ rest)) bytes e =
    let p = first a b rest bytes e in
    let more = length_bytes rest p.1 p.3 in
    let l : length bytes ≡ suc (length p.1) = ap length p.4 in
    omega arith

pub drop_bytes : (k : ℕ) (line bytes : List ℕ) → bytes_in line ≡ Some bytes → bytes_in (drop (2 * k) line) ≡ Some (drop k bytes)
drop_bytes zero line bytes e = e
drop_bytes (suc k) [] bytes e =
    let two : 2 * suc k ≡ suc (suc (2 * k)) = omega arith in
    let nil : bytes ≡ [] = cc in
    rw (two, nil) refl
drop_bytes (suc k) (a ∷ []) bytes e = let no_some : ◌≡◌ {A = ℕ} 0 1 = cc in absurd (omega arith)
drop_bytes (suc k) (a ∷ (b ∷ rest)) bytes e =
    let p = first a b rest bytes e in
    let two : 2 * suc k ≡ suc (suc (2 * k)) = omega arith in
    let parts : bytes ≡ p.0 ∷ p.1 = p.4 in
    rw (two, parts) (drop_bytes k rest p.1 p.3)

pub take_bytes : (k : ℕ) (line bytes : List ℕ) → bytes_in line ≡ Some bytes → bytes_in (take (2 * k) line) ≡ Some (take k bytes)
take_bytes zero line bytes e = refl
take_bytes (suc k) [] bytes e =
    let two : 2 * suc k ≡ suc (suc (2 * k)) = omega arith in
    let nil : bytes ≡ [] = cc in
    rw (two, nil) refl
take_bytes (suc k) (a ∷ []) bytes e = let no_some : ◌≡◌ {A = ℕ} 0 1 = cc in absurd (omega arith)
take_bytes (suc k) (a ∷ (b ∷ rest)) bytes e =
    let p = first a b rest bytes e in
    let two : 2 * suc k ≡ suc (suc (2 * k)) = omega arith in
    let parts : bytes ≡ p.0 ∷ p.1 = p.4 in
    let more = take_bytes k rest p.1 p.3 in
    let byte = p.2 in
    rw (two, parts) (ap (λ o. both (λ x xs. x ∷ xs) o (bytes_in (take (2 * k) rest))) byte ∙ ap (both (λ x xs. x ∷ xs) (Some p.0)) more)

pub between_bytes : (i j : ℕ) (line bytes : List ℕ) → bytes_in line ≡ Some bytes → bytes_in (between (2 * i) (2 * j) line) ≡ Some (between i j bytes)
between_bytes i j line bytes e =
    let twice : 2 * j - 2 * i ≡ 2 * (j - i) = omega arith in
    rw twice (take_bytes (j - i) (drop (2 * i) line) (drop i bytes) (drop_bytes i line bytes e))

-- the digits of bytes write the number that the bytes write
pub after_bytes : (n : ℕ) (line bytes : List ℕ) → bytes_in line ≡ Some bytes → after n line ≡ Some (number_after 256 n bytes)
after_bytes n [] bytes e = let nil : bytes ≡ [] = cc in rw nil refl
after_bytes n (a ∷ []) bytes e = let no_some : ◌≡◌ {A = ℕ} 0 1 = cc in absurd (omega arith)
after_bytes n (a ∷ (b ∷ rest)) bytes e =
    let p = first a b rest bytes e in
    let q = both_parts (λ h l. 16 * h + l) (value_of a) (value_of b) p.0 p.2 in
    let sum : 16 * (16 * n + q.0) + q.1 ≡ 256 * n + p.0 = omega (arith, q.4) in
    let parts : bytes ≡ p.0 ∷ p.1 = p.4 in
    after_digit n a q.0 (b ∷ rest) q.2
    ∙ after_digit (16 * n + q.0) b q.1 rest q.3
    ∙ after_bytes (16 * (16 * n + q.0) + q.1) rest p.1 p.3
    ∙ ap (λ m. Some (number_after 256 m p.1)) sum
    ∙ ap (λ bs. Some (number_after 256 n bs)) (sym parts)

-- a field of a line is the number that its digits write
pub field_digits : (i j : ℕ) (line bytes : List ℕ) → bytes_in line ≡ Some bytes → number_in (between (2 * i) (2 * j) line) ≡ Some (big_endian (between i j bytes))
field_digits i j line bytes e = after_bytes 0 (between (2 * i) (2 * j) line) (between i j bytes) (between_bytes i j line bytes e)

byte_below : (a b x : ℕ) → byte_of a b ≡ Some x → x < 256
byte_below a b x e =
    let q = both_parts (λ h l. 16 * h + l) (value_of a) (value_of b) x e in
    let h = value_below a q.0 (sym q.2) in
    let l = value_below b q.1 (sym q.3) in
    omega (arith, q.4)

weigh : (n x w : ℕ) → x < 256 → (256 * n + x + 1) * w ≤ (n + 1) * (256 * w)
weigh n x w h =
    let most : (256 * n + x + 1) * w ≤ (256 * (n + 1)) * w = mul-le-mul_right w (omega arith) in
    omega (arith, mul_assoc 256 (n + 1) w, mul_assoc (n + 1) 256 w, mul_comm 256 (n + 1))

number_below : (n : ℕ) (line bytes : List ℕ) → bytes_in line ≡ Some bytes → number_after 256 n bytes < (n + 1) * 256 ^ length bytes
number_below n [] bytes e = let nil : bytes ≡ [] = cc in rw nil (omega arith)
number_below n (a ∷ []) bytes e = let no_some : ◌≡◌ {A = ℕ} 0 1 = cc in absurd (omega arith)
number_below n (a ∷ (b ∷ rest)) bytes e =
    let p = first a b rest bytes e in
    let small = byte_below a b p.0 p.2 in
    let parts : bytes ≡ p.0 ∷ p.1 = p.4 in
    let more = number_below (256 * n + p.0) rest p.1 p.3 in
    let w = weigh n p.0 (256 ^ length p.1) small in
    let power = ap (λ m. (n + 1) * m) (pow-succ' 256 (length p.1)) in
    rw parts (omega arith)

-- a big-endian number of k bytes is below 256 ^ k
pub big_endian_below : (line bytes : List ℕ) → bytes_in line ≡ Some bytes → big_endian bytes < 256 ^ length bytes
big_endian_below line bytes e = omega (arith, number_below 0 line bytes e)

pub field_below : (i j : ℕ) (line bytes : List ℕ) → bytes_in line ≡ Some bytes → big_endian (between i j bytes) < 256 ^ (j - i)
field_below i j line bytes e =
    let below = big_endian_below (between (2 * i) (2 * j) line) (between i j bytes) (between_bytes i j line bytes e) in
    let short : length (between i j bytes) ≤ j - i = omega (arith, length-take (j - i) (drop i bytes)) in
    let most : 256 ^ length (between i j bytes) ≤ 256 ^ (j - i) = pow-le-pow_right (lit< tt) short in
    omega arith

-- a line has bytes where all are digits and their number is even
pub some_both : {A B C : Type 0} (f : A → B → C) (o : Option A) (p : Option B) → is_some (both f o p) ≡ (is_some o && is_some p)
some_both f (Some a) (Some b) = refl
some_both f (Some a) None = refl
some_both f None (Some b) = refl
some_both f None None = refl

and_false : (x : Bool) → (x && false) ≡ false
and_false true = refl
and_false false = refl

regroup : (x y v e : Bool) → ((x && y) && (v && e)) ≡ ((x && (y && v)) && e)
regroup true true v e = refl
regroup true false v e = refl
regroup false y v e = refl

pub some_bytes : (line : List ℕ) → is_some (bytes_in line) ≡ (is_some (values_of line) && eqb (length line % 2) 0)
some_bytes [] = refl
some_bytes (a ∷ []) = sym (and_false (is_some (values_of (a ∷ []))))
some_bytes (a ∷ (b ∷ rest)) =
    let even : length rest % 2 ≡ length (a ∷ (b ∷ rest)) % 2 = omega arith in
    some_both (λ x xs. x ∷ xs) (byte_of a b) (bytes_in rest)
    ∙ ap (λ t. t && is_some (bytes_in rest)) (some_both (λ h l. 16 * h + l) (value_of a) (value_of b))
    ∙ ap (λ t. (is_some (value_of a) && is_some (value_of b)) && t) (some_bytes rest)
    ∙ regroup (is_some (value_of a)) (is_some (value_of b)) (is_some (values_of rest)) (eqb (length rest % 2) 0)
    ∙ ap (λ m. (is_some (value_of a) && (is_some (value_of b) && is_some (values_of rest))) && eqb m 0) even
    ∙ ap (λ t. (is_some (value_of a) && t) && eqb (length (a ∷ (b ∷ rest)) % 2) 0) (sym (some_both (λ x xs. x ∷ xs) (value_of b) (values_of rest)))
    ∙ ap (λ t. t && eqb (length (a ∷ (b ∷ rest)) % 2) 0) (sym (some_both (λ x xs. x ∷ xs) (value_of a) (values_of (b ∷ rest))))

-- bytes read so far, before those still to be read
abbrev pub behind : List ℕ → Option (List ℕ) → Option (List ℕ)
behind xs o = option_map (λ ys. xs ++ ys) o

pub behind_nothing : (o : Option (List ℕ)) → behind [] o ≡ o
behind_nothing (Some ys) = refl
behind_nothing None = refl

behind_one : (xs : List ℕ) (x : ℕ) (o : Option (List ℕ)) → behind xs (both (λ y ys. y ∷ ys) (Some x) o) ≡ behind (xs ++ x ∷ []) o
behind_one xs x (Some ys) = ap Some (sym (append_assoc xs (x ∷ []) ys))
behind_one xs x None = refl

-- two digits more: the byte that they write, or none
pub behind_more : (xs : List ℕ) (rest : List ℕ) (x : ℕ) → 2 ≤ length rest → Some x ≡ byte_of (get_or rest 0 0) (get_or rest 1 0) → behind xs (bytes_in rest) ≡ behind (xs ++ x ∷ []) (bytes_in (take (length rest - 2) (drop 2 rest)))
behind_more xs [] x l e = absurd (omega arith)
behind_more xs (a ∷ []) x l e = absurd (omega arith)
behind_more xs (a ∷ (b ∷ rest)) x l e =
    ap (λ o. behind xs (both (λ y ys. y ∷ ys) o (bytes_in rest))) (sym e)
    ∙ behind_one xs x (bytes_in rest)
    ∙ ap (λ r. behind (xs ++ x ∷ []) (bytes_in r)) (sym (take_all (length (a ∷ (b ∷ rest)) - 2) rest (omega arith)))

pub behind_stop : (xs : List ℕ) (rest : List ℕ) → 2 ≤ length rest → None ≡ byte_of (get_or rest 0 0) (get_or rest 1 0) → behind xs (bytes_in rest) ≡ None
behind_stop xs [] l e = absurd (omega arith)
behind_stop xs (a ∷ []) l e = absurd (omega arith)
behind_stop xs (a ∷ (b ∷ rest)) l e = ap (λ o. behind xs (both (λ y ys. y ∷ ys) o (bytes_in rest))) (sym e) ∙ ap (behind xs) (none_both (λ y ys. y ∷ ys) (bytes_in rest))
