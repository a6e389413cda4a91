-- Upper-case hexadecimal digits, and the numbers and bytes that they write.
use Rattle.std.specs.Prelude.{ℕ, zero, suc, ◌+◌, ◌-◌, ◌*◌, ◌/◌, ◌%◌, ◌^◌, cond, ◌&&◌, List, [], ◌∷◌, Some, None, Option, nat_le, nat_lt}

-- the value of a digit: 0 to 9, and A to F for 10 to 15
abbrev pub value_of : ℕ → Option ℕ
value_of b = cond (nat_le 48 b && nat_le b 57) (Some (b - 48)) (cond (nat_le 65 b && nat_le b 70) (Some (b - 55)) None)

-- the digit of a value below 16
abbrev pub digit_of : ℕ → ℕ
digit_of v = cond (nat_lt v 10) (48 + v) (55 + v)

-- what comes of two parts that may be missing
abbrev pub both : {A B C : Type 0} → (A → B → C) → Option A → Option B → Option C
both f (Some a) (Some b) = Some (f a b)
both f (Some a) None = None
both f None (Some b) = None
both f None None = None

-- the values of a list of digits, or none where one is no digit
abbrev pub values_of : List ℕ → Option (List ℕ)
values_of [] = Some []
values_of (b ∷ bs) = both (λ v vs. v ∷ vs) (value_of b) (values_of bs)

-- the number that values write in a base, the first the highest
abbrev pub number_after : ℕ → ℕ → List ℕ → ℕ
number_after base n [] = n
number_after base n (v ∷ vs) = number_after base (base * n + v) vs

-- big-endian bytes as a number
abbrev pub big_endian : List ℕ → ℕ
big_endian bytes = number_after 256 0 bytes

-- the number that digits write, or none where one is no digit
abbrev pub number_in : List ℕ → Option ℕ
number_in digits = elim (values_of digits) [ Some vs ↦ Some (number_after 16 0 vs) | None ↦ None ]

-- the byte that two digits write
abbrev pub byte_of : ℕ → ℕ → Option ℕ
byte_of a b = both (λ h l. 16 * h + l) (value_of a) (value_of b)

-- the bytes that digits write, two digits a byte, or none where one is no digit or one is left over
abbrev pub bytes_in : List ℕ → Option (List ℕ)
bytes_in [] = Some []
bytes_in (a ∷ []) = None
bytes_in (a ∷ (b ∷ rest)) = both (λ byte bytes. byte ∷ bytes) (byte_of a b) (bytes_in rest)

-- the last k digits of n, the highest first
abbrev pub digits : ℕ → ℕ → List ℕ
digits zero n = []
digits (suc k) n = digit_of (n / 16 ^ k % 16) ∷ digits k n
