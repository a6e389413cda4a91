-- What a set of entries holds.
use Rattle.std.specs.Prelude.{◌≡◌, ℕ, Bool, false}
use Rattle.sets.specs.declared.EntrySet.{EntrySet}
use Rattle.sets.specs.Bits.{bit}

-- how many entries a set can tell apart: those below the width
abbrev pub width : ℕ
width = 64

abbrev pub member : EntrySet → ℕ → Bool
member s e = bit s.0 e

-- the set with no bit
abbrev pub no_set : EntrySet
no_set = record { 0 = 0 }

-- no entry is a member
abbrev pub Empty : EntrySet → Type 0
Empty s = (e : ℕ) → member s e ≡ false

-- the same entries are members
abbrev pub Same : EntrySet → EntrySet → Type 0
Same s t = (e : ℕ) → member s e ≡ member t e
