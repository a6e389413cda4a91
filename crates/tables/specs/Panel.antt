-- A panel as a reader sees it: all that an export fixes. The included marks are apart, since they alone change later.
use Rattle.std.specs.Prelude.{ℕ, Bool, false, List, [], map, length, Option, slice_index_or}
use Rattle.tables.specs.declared.module.WrapKind.{WrapKind}
use Rattle.tables.specs.declared.module.WrapKind.TheVariants as wraps
use Rattle.tables.specs.declared.module.EntryPointKind.{EntryPointKind}

-- an import record: whether it is a static import, and the module that it resolves to
pub record PanelImport : Type 0 where
  pub static : Bool
  pub resolved : Option ℕ

pub record PanelModule : Type 0 where
  pub external : Bool
  pub json : Bool
  pub sensitive : Bool
  pub wrap : WrapKind
  pub order : ℕ
  pub ident : List ℕ
  pub imports : List PanelImport

pub record PanelEntry : Type 0 where
  pub start : ℕ
  pub kind : EntryPointKind

pub record Panel : Type 0 where
  pub modules : List PanelModule
  pub entries : List PanelEntry
  pub listed : List ℕ
  pub runtime : ℕ
  pub splitting : Bool
  pub by_id : Bool

-- what stands past the last module
abbrev pub no_module : PanelModule
no_module = record { external = false; json = false; sensitive = false; wrap = wraps.None; order = 0; ident = []; imports = [] }

abbrev pub count : Panel → ℕ
count p = length p.modules

abbrev pub at : Panel → ℕ → PanelModule
at p m = slice_index_or p.modules m no_module

abbrev pub external : Panel → ℕ → Bool
external p m = (at p m).external

-- the modules of the entries, in order
abbrev pub starts : Panel → List ℕ
starts p = map (λ e. e.start) p.entries
