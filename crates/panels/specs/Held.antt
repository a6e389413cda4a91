-- A line as far as it is held.
use Rattle.std.specs.Prelude.{◌≡◌, ℕ, List, take, vec_items}
use Rattle.panels.specs.declared.line.LineBuffer.{LineBuffer}

-- the buffer holds the first 513 bytes of the line, one more than a line may have
abbrev pub Holds : List ℕ → LineBuffer → Type 0
Holds line b = vec_items b.bytes ≡ take 513 line
