-- What a line says: the text of each frame, by its bytes.
use Rattle.std.specs.Prelude.{ℕ, ◌+◌, ◌%◌, Bool, true, false, cond, ◌&&◌, List, [], length, drop, Some, None, Ok, Err, Option, Result, ◌==◌, nat_le, nat_lt, slice_index}
use Rattle.std.specs.List.{between}
use Rattle.std.specs.Option.{unwrap_or}
use Rattle.digits.specs.Digits.{big_endian, bytes_in}
use Rattle.tables.specs.Kinds.{bit, import_kind, entry_kind, flags_of}
use Rattle.tables.specs.declared.refusal.Refusal.{Refusal}
use Rattle.tables.specs.declared.refusal.Refusal.TheVariants.{MalformedLine, UnknownFrame, OutOfStage, FieldValue}
use Rattle.tables.specs.declared.index.ModuleIdx.{ModuleIdx}
use Rattle.tables.specs.declared.module.ModuleFlags.{ModuleFlags}
use Rattle.tables.specs.declared.module.ImportRecord.{ImportRecord}
use Rattle.tables.specs.declared.module.EntryPoint.{EntryPoint}
use Rattle.tables.specs.declared.module.Options.{Options}
use Rattle.tables.specs.declared.module.ChunkModulesOrderBy.{ChunkModulesOrderBy}
use Rattle.tables.specs.declared.module.ChunkModulesOrderBy.TheVariants.{ExecOrder, ModuleId}
use Rattle.frames.specs.declared.frame.Frame.{Frame}
use Rattle.frames.specs.declared.frame.Frame.TheVariants as frames

-- a frame, with what the borrowed digits of an id hold in place of the reference to them
pub data Said : Type 0 where
  options : Options → Said
  a_module : (flags : ModuleFlags) (order : ℕ) (id : List ℕ) (place : ℕ) → Said
  import_record : ImportRecord → Said
  listed : ModuleIdx → Said
  entry : EntryPoint → Said
  linking : ModuleIdx → ModuleIdx → Said
  unlinking : ModuleIdx → ModuleIdx → Said
  including : ModuleIdx → Said
  excluding : ModuleIdx → Said
  drawing : Said

abbrev pub said : Frame → Said
said (frames.Options o) = options o
said (frames.Module flags order id place) = a_module flags order id.now place
said (frames.ImportRecord r) = import_record r
said (frames.Listed m) = listed m
said (frames.Entry e) = entry e
said (frames.Link m d) = linking m d
said (frames.Unlink m d) = unlinking m d
said (frames.Include m) = including m
said (frames.Exclude m) = excluding m
said frames.Draw = drawing

abbrev pub viewed : Result Frame Refusal → Result Said Refusal
viewed (Ok f) = Ok (said f)
viewed (Err e) = Err e

-- a line has 1 to 512 digits, two for each byte
abbrev pub has_size : ℕ → Bool
has_size n = (nat_le 1 n && nat_le n 512) && n % 2 == 0

-- the bytes of a line: 1 to 512 digits, two for each byte
abbrev pub line_bytes : List ℕ → Option (List ℕ)
line_bytes line = cond (nat_le 1 (length line) && nat_le (length line) 512) (bytes_in line) None

-- the bytes of a line that has bytes
abbrev pub bytes_of : List ℕ → List ℕ
bytes_of line = unwrap_or (bytes_in line) []

-- a frame's letter is its first byte
abbrev pub letter : List ℕ → ℕ
letter bytes = slice_index bytes 0

-- whether a frame with this letter may have this many bytes
abbrev pub fits : ℕ → ℕ → Bool
fits c n =
    cond (c == 71) (n == 4)  -- G: flags, runtime module
    (cond (c == 77) (nat_le 7 n)  -- M: flags, order, id
    (cond (c == 82) (n == 4)  -- R: kind, module
    (cond (c == 83) (n == 3)  -- S: module
    (cond (c == 69) (n == 4)  -- E: module, kind
    (cond (c == 76) (n == 5)  -- L: two modules
    (cond (c == 85) (n == 5)  -- U: two modules
    (cond (c == 73) (n == 3)  -- I: module
    (cond (c == 88) (n == 3)  -- X: module
    (cond (c == 68) (n == 1) false)))))))))  -- D: nothing

-- the big-endian number in bytes i to j - 1
abbrev pub field : List ℕ → ℕ → ℕ → ℕ
field bytes i j = big_endian (between i j bytes)

abbrev pub module_at : List ℕ → ℕ → ModuleIdx
module_at bytes i = record { 0 = field bytes i (i + 2) }

abbrev pub order_by : Bool → ChunkModulesOrderBy
order_by true = ModuleId
order_by false = ExecOrder

-- G: bit 0 code splitting, bit 1 module-id mode, the others 0
abbrev pub options_text : List ℕ → Result Said Refusal
options_text bytes =
    cond (nat_lt (field bytes 1 2) 4)
    (Ok (options (record { code_splitting = bit 0 (field bytes 1 2); chunk_modules_order = order_by (bit 1 (field bytes 1 2)); runtime_module = module_at bytes 2 })))
    (Err FieldValue)

-- M: the id is all that follows, handed out as digits with their place in the line
abbrev pub module_text : List ℕ → List ℕ → Result Said Refusal
module_text line bytes = elim (flags_of (field bytes 1 3)) [
  | Some flags ↦ Ok (a_module flags (field bytes 3 7) (drop 14 line) 14)
  | None ↦ Err FieldValue
]

-- 65535 stands for no module
abbrev pub resolved : List ℕ → ℕ → Option ModuleIdx
resolved bytes i = cond (field bytes i (i + 2) == 65535) None (Some (module_at bytes i))

abbrev pub record_text : List ℕ → Result Said Refusal
record_text bytes = elim (import_kind (field bytes 1 2)) [
  | Some kind ↦ Ok (import_record (record { kind = kind; resolved_module = resolved bytes 2 }))
  | None ↦ Err FieldValue
]

abbrev pub entry_text : List ℕ → Result Said Refusal
entry_text bytes = elim (entry_kind (field bytes 3 4)) [
  | Some kind ↦ Ok (entry (record { «module» = module_at bytes 1; kind = kind }))
  | None ↦ Err FieldValue
]

-- what the fields of a frame with a known letter and a fitting length say
abbrev pub fields : ℕ → List ℕ → List ℕ → Result Said Refusal
fields c line bytes =
    cond (c == 71) (options_text bytes)
    (cond (c == 77) (module_text line bytes)
    (cond (c == 82) (record_text bytes)
    (cond (c == 83) (Ok (listed (module_at bytes 1)))
    (cond (c == 69) (entry_text bytes)
    (cond (c == 76) (Ok (linking (module_at bytes 1) (module_at bytes 3)))
    (cond (c == 85) (Ok (unlinking (module_at bytes 1) (module_at bytes 3)))
    (cond (c == 73) (Ok (including (module_at bytes 1)))
    (cond (c == 88) (Ok (excluding (module_at bytes 1))) (Ok drawing)))))))))

-- what a line of bytes says under a test of its letter: the smallest refusal, or the frame
abbrev pub frame_under : (ℕ → Bool) → List ℕ → Result Said Refusal
frame_under allowed line = elim (line_bytes line) [
  | Some bytes ↦ cond (fits (letter bytes) (length bytes)) (cond (allowed (letter bytes)) (fields (letter bytes) line bytes) (Err OutOfStage)) (Err UnknownFrame)
  | None ↦ Err MalformedLine
]

-- what a line says, whatever came before it
abbrev pub frame_of : List ℕ → Result Said Refusal
frame_of line = frame_under (λ _. true) line

-- the letter of a line, or the smaller of the two refusals that can come before it
abbrev pub letter_of : List ℕ → Result ℕ Refusal
letter_of line = elim (line_bytes line) [
  | Some bytes ↦ cond (fits (letter bytes) (length bytes)) (Ok (letter bytes)) (Err UnknownFrame)
  | None ↦ Err MalformedLine
]
