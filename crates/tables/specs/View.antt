-- The panel that a table means.
use Rattle.std.specs.Prelude.{ℕ, Bool, true, false, List, map, vec_items}
use Rattle.std.specs.Option.{option_map}
use Rattle.tables.specs.declared.index.ModuleIdx.{ModuleIdx}
use Rattle.tables.specs.declared.module.Module.{Module}
use Rattle.tables.specs.declared.module.ImportRecord.{ImportRecord}
use Rattle.tables.specs.declared.module.ImportKind.{ImportKind}
use Rattle.tables.specs.declared.module.ImportKind.TheVariants.{Other, Import}
use Rattle.tables.specs.declared.module.EntryPoint.{EntryPoint}
use Rattle.tables.specs.declared.module.ChunkModulesOrderBy.{ChunkModulesOrderBy}
use Rattle.tables.specs.declared.module.ChunkModulesOrderBy.TheVariants.{ExecOrder, ModuleId}
use Rattle.tables.specs.declared.module.Options.{Options}
use Rattle.tables.specs.declared.table.Table.{Table}
use Rattle.tables.specs.Panel.{Panel, PanelModule, PanelImport, PanelEntry}
use Rattle.tables.specs.Spans.{cut}

abbrev pub is_static : ImportKind → Bool
is_static Import = true
is_static Other = false

abbrev pub number : ModuleIdx → ℕ
number m = m.0

abbrev pub import_of : ImportRecord → PanelImport
import_of r = record { static = is_static r.kind; resolved = option_map number r.resolved_module }

abbrev pub entry_of : EntryPoint → PanelEntry
entry_of e = record { start = e.«module».0; kind = e.kind }

abbrev pub is_by_id : ChunkModulesOrderBy → Bool
is_by_id ModuleId = true
is_by_id ExecOrder = false

-- a module, with its id and its records cut from those of all modules
abbrev pub module_of : List ℕ → List ImportRecord → Module → PanelModule
module_of ids records m = record {
  external = m.external;
  json = m.json;
  sensitive = m.order_sensitive;
  wrap = m.wrap_kind;
  order = m.exec_order;
  ident = cut ids m.id;
  imports = map import_of (cut records m.import_records);
}

abbrev pub panel_from : Options → List Module → List ℕ → List ImportRecord → List EntryPoint → List ModuleIdx → Panel
panel_from options modules ids records entries listed = record {
  modules = map (module_of ids records) modules;
  entries = map entry_of entries;
  listed = map number listed;
  runtime = options.runtime_module.0;
  splitting = options.code_splitting;
  by_id = is_by_id options.chunk_modules_order;
}

abbrev pub panel_of : Table → Panel
panel_of t = panel_from t.options (vec_items t.modules) (vec_items t.ids) (vec_items t.records) (vec_items t.entries) (vec_items t.listed)
