-- Sizes of a table, as its panel has them.
use Rattle.std.proofs.Common.{◌≡◌, length, vec_items}
use Rattle.std.proofs.lemmas.List.{length-map}
use Rattle.tables.specs.Panel.{count}
use Rattle.tables.specs.View.{panel_of, module_of}
use Rattle.tables.specs.declared.table.Table.{Table}

pub count_is : (t : Table) → count (panel_of t) ≡ length (vec_items t.modules)
count_is t = length-map (vec_items t.modules) (module_of (vec_items t.ids) (vec_items t.records))
