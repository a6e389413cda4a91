-- The kinds and flags that numbers stand for in an export.
use Rattle.std.specs.Prelude.{ℕ, ◌/◌, ◌%◌, ◌^◌, Bool, cond, Some, None, Ok, Err, Option, Result, ◌==◌}
use Rattle.tables.specs.declared.refusal.Refusal.{Refusal}
use Rattle.tables.specs.declared.refusal.Refusal.TheVariants.{FieldValue}
use Rattle.tables.specs.declared.module.ModuleFlags.{ModuleFlags}
use Rattle.tables.specs.declared.module.WrapKind.{WrapKind}
use Rattle.tables.specs.declared.module.WrapKind.TheVariants as wraps
use Rattle.tables.specs.declared.module.ImportKind.{ImportKind}
use Rattle.tables.specs.declared.module.ImportKind.TheVariants.{Other, Import}
use Rattle.tables.specs.declared.module.ChunkKind.{ChunkKind}
use Rattle.tables.specs.declared.module.ChunkKind.TheVariants.{Common, Entry, Runtime}
use Rattle.tables.specs.declared.module.EntryPointKind.{EntryPointKind}
use Rattle.tables.specs.declared.module.EntryPointKind.TheVariants.{UserDefined, EmittedUserDefined, DynamicImport}

-- a number that stands for nothing is a value that is not given
abbrev pub given : {A : Type 0} → Option A → Result A Refusal
given (Some x) = Ok x
given None = Err FieldValue

abbrev pub bit : ℕ → ℕ → Bool
bit k n = n / 2 ^ k % 2 == 1

abbrev pub wrap_of : ℕ → Option WrapKind
wrap_of n = cond (n == 0) (Some wraps.None) (cond (n == 1) (Some wraps.Cjs) (cond (n == 2) (Some wraps.Esm) None))

abbrev pub import_kind : ℕ → Option ImportKind
import_kind n = cond (n == 0) (Some Other) (cond (n == 1) (Some Import) None)

abbrev pub entry_kind : ℕ → Option EntryPointKind
entry_kind n = cond (n == 0) (Some UserDefined) (cond (n == 1) (Some EmittedUserDefined) (cond (n == 2) (Some DynamicImport) None))

-- bits 0 to 3: external, included, JSON, order-sensitive; bits 4 and 5: the wrap kind; the others 0
abbrev pub flags_of : ℕ → Option ModuleFlags
flags_of n = elim (wrap_of (n / 16)) [
  | Some wrap ↦ Some (record { external = bit 0 n; included = bit 1 n; json = bit 2 n; order_sensitive = bit 3 n; wrap_kind = wrap })
  | None ↦ None
]

-- 0 for a common chunk, 1 for an entry chunk, 2 for the extracted runtime
abbrev pub chunk_number : ChunkKind → ℕ
chunk_number Common = 0
chunk_number Entry = 1
chunk_number Runtime = 2
