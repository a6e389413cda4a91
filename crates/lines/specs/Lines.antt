-- The lines that answer: refusals, moved modules, chunks and the count of chunks.
use Rattle.std.specs.Prelude.{◌≡◌, ℕ, cond, List, ◌++◌, length, drop, Some, None, Option, nat_le}
use Rattle.std.specs.List.{flat_map}
use Rattle.digits.specs.Digits.{digits}
use Rattle.tables.specs.Refusals.{number_of}
use Rattle.tables.specs.declared.refusal.Refusal.{Refusal}
use Rattle.tables.specs.declared.index.ModuleIdx.{ModuleIdx}
use Rattle.lines.specs.declared.ChunkLine.{ChunkLine}

-- two bytes for each module
abbrev pub modules_text : List ModuleIdx → List ℕ
modules_text ms = flat_map (λ m. digits 4 m.0) ms

-- F: the refusal's number (1 byte), the line (4)
abbrev pub refusal_line : Refusal → ℕ → List ℕ
refusal_line why line = digits 2 70 ++ (digits 2 (number_of why) ++ digits 8 line)

-- N: the count of moved modules (2), the modules
abbrev pub edit_line : List ModuleIdx → List ℕ
edit_line moved = digits 2 78 ++ (digits 4 (length moved) ++ modules_text moved)

-- C: chunk (2), kind (1), set (8), rank (2), and then count (2), the roll
abbrev pub head_text : ChunkLine → List ℕ
head_text c = digits 2 67 ++ (digits 4 c.chunk.0 ++ (digits 2 c.kind ++ (digits 16 c.set.0 ++ digits 4 c.rank)))

abbrev pub chunk_line : ChunkLine → List ModuleIdx → List ℕ
chunk_line c roll = head_text c ++ (digits 4 (length roll) ++ modules_text roll)

-- Z: the count of chunks (2)
abbrev pub count_line : ℕ → List ℕ
count_line chunks = digits 2 90 ++ digits 4 chunks

-- the text stands at the buffer's beginning, what lies past it stays, and its length is told; where it does not fit, nothing is written and none is told
pub record Written (text before : List ℕ) (r : Option ℕ) (then : List ℕ) : Type 0 where
  pub told : r ≡ cond (nat_le (length text) (length before)) (Some (length text)) None
  pub after : then ≡ cond (nat_le (length text) (length before)) (text ++ drop (length text) before) before
