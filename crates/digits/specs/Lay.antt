-- What laying digits into a buffer leaves, and that they are read back.
use Rattle.std.specs.Prelude.{◌≡◌, ℕ, ◌+◌, ◌^◌, ◌<◌, List, ◌++◌, length, take, drop, Some}
use Rattle.digits.specs.Digits.{digits, number_in}

-- the buffer with a text laid into it from a place on
abbrev pub laid : List ℕ → ℕ → List ℕ → List ℕ
laid out at text = take at out ++ (text ++ drop (at + length text) out)

-- the digits of a number are read back as the number, over every width
abbrev pub ReadBack : Type 0
ReadBack = (k n : ℕ) → n < 16 ^ k → number_in (digits k n) ≡ Some n
