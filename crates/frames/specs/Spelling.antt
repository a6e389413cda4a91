-- The text of each frame: its letter, then its fields, as big-endian bytes.
use Rattle.std.specs.Prelude.{◌≡◌, ℕ, ◌+◌, ◌/◌, ◌%◌, ◌^◌, ◌<◌, ◌≤◌, Bool, cond, List, [], ◌∷◌, ◌++◌, length, drop, Some, None, Ok, Option, Result}
use Rattle.tables.specs.declared.refusal.Refusal.{Refusal}
use Rattle.digits.specs.Digits.{bytes_in}
use Rattle.tables.specs.declared.index.ModuleIdx.{ModuleIdx}
use Rattle.tables.specs.declared.module.ModuleFlags.{ModuleFlags}
use Rattle.tables.specs.declared.module.Options.{Options}
use Rattle.tables.specs.declared.module.WrapKind.{WrapKind}
use Rattle.tables.specs.declared.module.WrapKind.TheVariants as wraps
use Rattle.tables.specs.declared.module.ImportKind.{ImportKind}
use Rattle.tables.specs.declared.module.ImportKind.TheVariants.{Other, Import}
use Rattle.tables.specs.declared.module.EntryPointKind.{EntryPointKind}
use Rattle.tables.specs.declared.module.EntryPointKind.TheVariants.{UserDefined, EmittedUserDefined, DynamicImport}
use Rattle.tables.specs.declared.module.ChunkModulesOrderBy.{ChunkModulesOrderBy}
use Rattle.tables.specs.declared.module.ChunkModulesOrderBy.TheVariants.{ExecOrder, ModuleId}
use Rattle.frames.specs.Text.{Said, options, a_module, import_record, listed, entry, linking, unlinking, including, excluding, drawing, bytes_of, frame_of}

-- a number as two bytes, and as four
abbrev pub two : ℕ → List ℕ
two n = n / 256 ∷ (n % 256 ∷ [])

abbrev pub four : ℕ → List ℕ
four n = n / 2 ^ 24 ∷ (n / 2 ^ 16 % 256 ∷ (n / 256 % 256 ∷ (n % 256 ∷ [])))

-- bit k, where it is set
abbrev pub flag : Bool → ℕ → ℕ
flag b k = cond b (2 ^ k) 0

abbrev pub wrap_bits : WrapKind → ℕ
wrap_bits wraps.None = 0
wrap_bits wraps.Cjs = 16
wrap_bits wraps.Esm = 32

abbrev pub flag_bits : ModuleFlags → ℕ
flag_bits m = flag m.external 0 + flag m.included 1 + flag m.json 2 + flag m.order_sensitive 3 + wrap_bits m.wrap_kind

abbrev pub order_bits : ChunkModulesOrderBy → ℕ
order_bits ExecOrder = 0
order_bits ModuleId = 2

abbrev pub option_bits : Options → ℕ
option_bits o = flag o.code_splitting 0 + order_bits o.chunk_modules_order

abbrev pub import_number : ImportKind → ℕ
import_number Other = 0
import_number Import = 1

abbrev pub entry_number : EntryPointKind → ℕ
entry_number UserDefined = 0
entry_number EmittedUserDefined = 1
entry_number DynamicImport = 2

-- 65535 stands for no module
abbrev pub target : Option ModuleIdx → ℕ
target (Some m) = m.0
target None = 65535

-- the bytes of a frame
abbrev pub spell : Said → List ℕ
spell (options o) = 71 ∷ (option_bits o ∷ two o.runtime_module.0)
spell (a_module flags order id place) = 77 ∷ (two (flag_bits flags) ++ (four order ++ bytes_of id))
spell (import_record r) = 82 ∷ (import_number r.kind ∷ two (target r.resolved_module))
spell (listed m) = 83 ∷ two m.0
spell (entry e) = 69 ∷ (two e.«module».0 ++ entry_number e.kind ∷ [])
spell (linking m d) = 76 ∷ (two m.0 ++ two d.0)
spell (unlinking m d) = 85 ∷ (two m.0 ++ two d.0)
spell (including m) = 73 ∷ two m.0
spell (excluding m) = 88 ∷ two m.0
spell drawing = 68 ∷ []

-- a module that is there is not the number that stands for none
abbrev pub Names : Option ModuleIdx → Type 0
Names (Some m) = m.0 < 65535
Names None = Unit {0}

-- the numbers of a frame fit their fields
abbrev pub FitsFields : Said → Type 0
FitsFields (options o) = o.runtime_module.0 < 65536
FitsFields (a_module flags order id place) = order < 2 ^ 32
FitsFields (import_record r) = Names r.resolved_module
FitsFields (listed m) = m.0 < 65536
FitsFields (entry e) = e.«module».0 < 65536
FitsFields (linking m d) = (m.0 < 65536) × (d.0 < 65536)
FitsFields (unlinking m d) = (m.0 < 65536) × (d.0 < 65536)
FitsFields (including m) = m.0 < 65536
FitsFields (excluding m) = m.0 < 65536
FitsFields drawing = Unit {0}

-- the id of a module frame is the digits of the line from place 14 on
abbrev pub IdIn : List ℕ → Said → Type 0
IdIn line (options o) = Unit {0}
IdIn line (a_module flags order id place) = (place ≡ 14) × (id ≡ drop 14 line)
IdIn line (import_record r) = Unit {0}
IdIn line (listed m) = Unit {0}
IdIn line (entry e) = Unit {0}
IdIn line (linking m d) = Unit {0}
IdIn line (unlinking m d) = Unit {0}
IdIn line (including m) = Unit {0}
IdIn line (excluding m) = Unit {0}
IdIn line drawing = Unit {0}

-- a line of 1 to 512 digits whose bytes are the text of a frame
pub record Spells (line : List ℕ) (f : Said) : Type 0 where
  pub some : 1 ≤ length line
  pub short : length line ≤ 512
  pub text : bytes_in line ≡ Some (spell f)
  pub fits : FitsFields f
  pub id : IdIn line f

-- what a line is read as: a frame exactly where the line spells it
abbrev pub Reads : List ℕ → Result Said Refusal → Type 0
Reads line r = (f : Said) → (r ≡ Ok f → Spells line f) × (Spells line f → r ≡ Ok f)

abbrev pub ReadsWhatIsSpelled : Type 0
ReadsWhatIsSpelled = (line : List ℕ) → Reads line (frame_of line)
