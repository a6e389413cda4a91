-- Lines that have bytes: their length, their fields, and what tells that they have.
use Rattle.std.proofs.Common.{◌≡◌, ℕ, ◌+◌, ◌-◌, ◌*◌, ◌%◌, ◌^◌, ◌<◌, ◌≤◌, Bool, true, false, cond, ◌&&◌, eqb, leb, List, [], ◌∷◌, length, drop, is_some, Some, None, Option, unwrap_or, sym, refl, ap, ◌∙◌, subst, arith}
use Rattle.std.proofs.lemmas.List.{length-take}
use Rattle.std.proofs.lemmas.Bool.{le-leb, cond-true}
use Rattle.std.specs.List.{between, list_all}
use Rattle.digits.specs.Digits.{value_of, values_of, number_in, bytes_in}
use Rattle.digits.proofs.Bytes.{length_bytes, field_digits, field_below, some_both, some_bytes}
use Rattle.frames.specs.Text.{has_size, bytes_of, line_bytes, field, letter}

known : (o : Option (List ℕ)) → is_some o ≡ true → o ≡ Some (unwrap_or o [])
known (Some bytes) e = refl
known None e = let false_true : ◌≡◌ {A = ℕ} 0 1 = cc in absurd (omega arith)

pub has_bytes : (line : List ℕ) → is_some (bytes_in line) ≡ true → bytes_in line ≡ Some (bytes_of line)
has_bytes line e = known (bytes_in line) e

pub line_length : (line : List ℕ) → is_some (bytes_in line) ≡ true → length line ≡ 2 * length (bytes_of line)
line_length line e = length_bytes line (bytes_of line) (has_bytes line e)

-- what `number` answers at the digits of a field
pub field_number : (line : List ℕ) (from to : ℕ) → is_some (bytes_in line) ≡ true → to - from ≤ 8 → cond (leb (length (between (2 * from) (2 * to) line)) 16) (number_in (between (2 * from) (2 * to) line)) None ≡ Some (field (bytes_of line) from to)
field_number line from to e w =
    let short : length (between (2 * from) (2 * to) line) ≤ 16 = omega (arith, length-take (2 * to - 2 * from) (drop (2 * from) line)) in
    cond-true _ _ _ (le-leb _ 16 short) ∙ field_digits from to line (bytes_of line) (has_bytes line e)

pub field_small : (line : List ℕ) (from to : ℕ) → is_some (bytes_in line) ≡ true → field (bytes_of line) from to < 256 ^ (to - from)
field_small line from to e = field_below from to line (bytes_of line) (has_bytes line e)

-- the first byte
pub first_byte : (bytes : List ℕ) → 0 < length bytes → field bytes 0 1 ≡ letter bytes
first_byte [] h = absurd (omega arith)
first_byte (b ∷ bs) h = omega arith

some_cond : (t : Bool) (o : Option (List ℕ)) → is_some (cond t o None) ≡ (t && is_some o)
some_cond true o = refl
some_cond false o = refl

-- a line has bytes where its length is right, all are digits, and their number is even
pub some_line : (line : List ℕ) → is_some (line_bytes line) ≡ ((leb 1 (length line) && leb (length line) 512) && (is_some (values_of line) && eqb (length line % 2) 0))
some_line line =
    some_cond (leb 1 (length line) && leb (length line) 512) (bytes_in line)
    ∙ ap (λ t. (leb 1 (length line) && leb (length line) 512) && t) (some_bytes line)

pub all_digits : (line : List ℕ) → list_all (λ b. is_some (value_of b)) line ≡ is_some (values_of line)
all_digits [] = refl
all_digits (b ∷ bs) = ap (λ t. is_some (value_of b) && t) (all_digits bs) ∙ sym (some_both (λ v vs. v ∷ vs) (value_of b) (values_of bs))

regroup : (x y z : Bool) → ((x && y) && z) ≡ (x && (z && y))
regroup true true true = refl
regroup true true false = refl
regroup true false true = refl
regroup true false false = refl
regroup false y z = refl

-- a line is one of digits where its size is right and all are digits
pub line_is : (line : List ℕ) → (has_size (length line) && list_all (λ b. is_some (value_of b)) line) ≡ is_some (line_bytes line)
line_is line =
    regroup (leb 1 (length line) && leb (length line) 512) (eqb (length line % 2) 0) (list_all (λ b. is_some (value_of b)) line)
    ∙ ap (λ t. (leb 1 (length line) && leb (length line) 512) && (t && eqb (length line % 2) 0)) (all_digits line)
    ∙ sym (some_line line)

pub line_sized : (line : List ℕ) → has_size (length line) ≡ true → list_all (λ b. is_some (value_of b)) line ≡ is_some (line_bytes line)
line_sized line h = ap (λ t. t && list_all (λ b. is_some (value_of b)) line) (sym h) ∙ line_is line

pub line_unsized : (line : List ℕ) → has_size (length line) ≡ false → false ≡ is_some (line_bytes line)
line_unsized line h = ap (λ t. t && list_all (λ b. is_some (value_of b)) line) (sym h) ∙ line_is line

-- a number of two bytes
pub two_bytes : (from n : ℕ) → n < 256 ^ (from + 2 - from) → n < 65536
two_bytes from n h = let two : from + 2 - from ≡ 2 = omega arith in subst (λ k. n < 256 ^ k) two h
