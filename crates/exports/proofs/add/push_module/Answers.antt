use Rattle.std.proofs.Common.{vec_items, ◌∙◌, arith}
use Rattle.exports.proofs.Adds.{module_lies}
use Rattle.exports.proofs.add.push_module.Goals as goal

pub invariant_of-table-2 : goal.invariant_of-table-2
invariant_of-table-2 c =
    let t = c.args.table.now in
    let ms = vec_items t.modules in
    let ids = vec_items t.ids in
    let rs = vec_items t.records in
    let grown = c.in_ok-extend_from_slice.ensures.items in
    let lies = module_lies t.options ms ids rs (vec_items t.entries) (vec_items t.listed) c.args.flags c.args.exec_order c.args.id.now (vec_items c.push_reserved.new.self) (vec_items c.reserve.new.self) (vec_items c.extend_from_slice.new.self) c.len-start.result c.len-end.result c.len-first.result grown (c.len-start.ensures ∙ t.ids.ok.0) (c.len-end.ensures ∙ c.extend_from_slice.new.self.ok.0) (c.len-first.ensures ∙ t.records.ok.0) c.reserve.ensures.items c.push_reserved.ensures.items t.ids_tiled t.records_tiled in
    record { ids_tiled = lies.ids_lie; records_tiled = lies.records_lie; modules_few = omega (arith, lies.long, c.requires); records_few = t.records_few; entries_few = t.entries_few; listed_few = t.listed_few }

pub returns : goal.returns
returns c =
    let t = c.args.table.now in
    let ms = vec_items t.modules in
    let ids = vec_items t.ids in
    let rs = vec_items t.records in
    let grown = c.in_ok-extend_from_slice.ensures.items in
    let lies = module_lies t.options ms ids rs (vec_items t.entries) (vec_items t.listed) c.args.flags c.args.exec_order c.args.id.now (vec_items c.push_reserved.new.self) (vec_items c.reserve.new.self) (vec_items c.extend_from_slice.new.self) c.len-start.result c.len-end.result c.len-first.result grown (c.len-start.ensures ∙ t.ids.ok.0) (c.len-end.ensures ∙ c.extend_from_slice.new.self.ok.0) (c.len-first.ensures ∙ t.records.ok.0) c.reserve.ensures.items c.push_reserved.ensures.items t.ids_tiled t.records_tiled in
    record { panel = lies.panel; len = lies.long }
