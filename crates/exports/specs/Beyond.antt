-- Whether a table's lists name a module that there is not, list by list.
use Rattle.std.specs.Prelude.{ℕ, Bool, ◌||◌, leb, List, nat_le}
use Rattle.std.specs.List.{list_any}
use Rattle.std.specs.Option.{option_map, option_to_list}
use Rattle.tables.specs.declared.index.ModuleIdx.{ModuleIdx}
use Rattle.tables.specs.declared.module.EntryPoint.{EntryPoint}
use Rattle.tables.specs.declared.module.ImportRecord.{ImportRecord}
use Rattle.tables.specs.declared.module.Options.{Options}
use Rattle.tables.specs.View.{number}

-- a record resolves to a module that there is not
abbrev pub resolves_beyond : ℕ → ImportRecord → Bool
resolves_beyond n r = list_any (leb n) (option_to_list (option_map number r.resolved_module))

abbrev pub some_beyond : ℕ → Options → List EntryPoint → List ModuleIdx → List ImportRecord → Bool
some_beyond n options entries listed records =
    nat_le n options.runtime_module.0
    || (list_any (λ e. leb n e.«module».0) entries || (list_any (λ m. leb n m.0) listed || list_any (resolves_beyond n) records))
