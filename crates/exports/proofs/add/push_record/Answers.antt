use Rattle.std.proofs.Common.{◌≡◌, suc, ◌-◌, ◌≤◌, length, vec_items, ◌∙◌, arith}
use Rattle.exports.proofs.Adds.{import_lies}
use Rattle.exports.proofs.add.push_record.Goals as goal

pub invariant_of-table-2 : goal.invariant_of-table-2
invariant_of-table-2 c =
    let t = c.args.table.now in
    let ms = vec_items t.modules in
    let last : length ms ≡ suc (c.len-last.result - 1) = omega (arith, c.len-last.ensures, t.modules.ok.0, c.requires.latest) in
    let lies = import_lies t.options ms (vec_items t.ids) (vec_items t.records) (vec_items t.entries) (vec_items t.listed) c.args.record (vec_items c.push.new.self) (c.len-last.result - 1) c.index_mut.result.now c.len-end.result c.in_ok-push.ensures.items (c.len-end.ensures ∙ c.push.new.self.ok.0) last c.index_mut.ensures.value t.ids_tiled t.records_tiled in
    let few : length (vec_items c.push.new.self) ≤ 8192 = omega (arith, c.in_ok-push.ensures.len, c.push.new.self.ok.0, t.records.ok.0, c.requires.room) in
    record { ids_tiled = lies.ids_lie; records_tiled = lies.records_lie; modules_few = omega (arith, lies.long, t.modules_few); records_few = few; entries_few = t.entries_few; listed_few = t.listed_few }

pub returns : goal.returns
returns c =
    let t = c.args.table.now in
    let ms = vec_items t.modules in
    let last : length ms ≡ suc (c.len-last.result - 1) = omega (arith, c.len-last.ensures, t.modules.ok.0, c.requires.latest) in
    let lies = import_lies t.options ms (vec_items t.ids) (vec_items t.records) (vec_items t.entries) (vec_items t.listed) c.args.record (vec_items c.push.new.self) (c.len-last.result - 1) c.index_mut.result.now c.len-end.result c.in_ok-push.ensures.items (c.len-end.ensures ∙ c.push.new.self.ok.0) last c.index_mut.ensures.value t.ids_tiled t.records_tiled in
    record { panel = lies.panel; len = lies.long }
