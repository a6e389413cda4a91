-- The steps that build an export: what each adds, and how it is answered.
use Rattle.std.specs.Prelude.{◌≡◌, ℕ, List, [], ◌∷◌, ◌++◌, Some, None, Ok, Err, Option, Result}
use Rattle.tables.specs.declared.refusal.Refusal.{Refusal}
use Rattle.exports.specs.declared.export.BuildError.{BuildError}
use Rattle.exports.specs.declared.export.BuildError.TheVariants.{Refused, OutOfMemory}
use Rattle.tables.specs.declared.module.ModuleFlags.{ModuleFlags}
use Rattle.tables.specs.declared.module.Options.{Options}
use Rattle.tables.specs.Panel.{Panel, PanelModule, PanelImport, PanelEntry}
use Rattle.tables.specs.View.{is_by_id}

abbrev pub empty_panel : Options → Panel
empty_panel o = record { modules = []; entries = []; listed = []; runtime = o.runtime_module.0; splitting = o.code_splitting; by_id = is_by_id o.chunk_modules_order }

abbrev pub with_modules : Panel → List PanelModule → Panel
with_modules p ms = record { modules = ms; entries = p.entries; listed = p.listed; runtime = p.runtime; splitting = p.splitting; by_id = p.by_id }

-- a module as it comes: no records yet
abbrev pub new_module : ModuleFlags → ℕ → List ℕ → PanelModule
new_module f order id = record { external = f.external; json = f.json; sensitive = f.order_sensitive; wrap = f.wrap_kind; order = order; ident = id; imports = [] }

abbrev pub with_module : PanelModule → Panel → Panel
with_module m p = with_modules p (p.modules ++ m ∷ [])

abbrev pub with_record : PanelImport → PanelModule → PanelModule
with_record i m = record { external = m.external; json = m.json; sensitive = m.sensitive; wrap = m.wrap; order = m.order; ident = m.ident; imports = m.imports ++ i ∷ [] }

-- the latest module has one record more
abbrev pub latest_with : PanelImport → List PanelModule → List PanelModule
latest_with i [] = []
latest_with i (m ∷ []) = with_record i m ∷ []
latest_with i (m ∷ (n ∷ ms)) = m ∷ latest_with i (n ∷ ms)

abbrev pub with_import : PanelImport → Panel → Panel
with_import i p = with_modules p (latest_with i p.modules)

abbrev pub with_entry : PanelEntry → Panel → Panel
with_entry e p = record { modules = p.modules; entries = p.entries ++ e ∷ []; listed = p.listed; runtime = p.runtime; splitting = p.splitting; by_id = p.by_id }

abbrev pub with_listed : ℕ → Panel → Panel
with_listed m p = record { modules = p.modules; entries = p.entries; listed = p.listed ++ m ∷ []; runtime = p.runtime; splitting = p.splitting; by_id = p.by_id }

-- a step that a rule refuses is answered so and changes nothing; any other adds its one thing, unless memory is wanting, which changes nothing either
abbrev pub Answered : {A : Type 0} → Option Refusal → (old added : A) → Result (Unit {0}) BuildError → (left : A) → Type 0
Answered (Some why) old added r left = (r ≡ Err (Refused why)) × (left ≡ old)
Answered None old added (Ok x) left = left ≡ added
Answered None old added (Err OutOfMemory) left = left ≡ old
Answered None old added (Err (Refused why)) left = ⊥
