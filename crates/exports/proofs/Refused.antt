-- Why one module or one record more is refused, by the lengths of the table's lists.
use Rattle.std.proofs.Common.{◌≡◌, ℕ, List, length, vec_items}
use Rattle.std.proofs.lemmas.List.{length-map}
use Rattle.tables.specs.declared.table.Table.{Table}
use Rattle.tables.specs.View.{panel_of}
use Rattle.exports.specs.Limits.{module_refusal, import_refusal, module_room, import_room}
use Rattle.exports.proofs.Views.{id_total, record_total}

pub module_refusal_is : (t : Table) (id : List ℕ) → module_refusal (panel_of t) id ≡ module_room (length (vec_items t.modules)) (length (vec_items t.ids)) (length id)
module_refusal_is t id = search (length-map, id_total (vec_items t.ids) (vec_items t.records) (vec_items t.modules) t.ids_tiled)

pub import_refusal_is : (t : Table) → import_refusal (panel_of t) ≡ import_room (length (vec_items t.modules)) (length (vec_items t.records))
import_refusal_is t = search (length-map, record_total (vec_items t.ids) (vec_items t.records) (vec_items t.modules) t.records_tiled)
