use Rattle.std.proofs.Common.{◌≡◌, ℕ, ◌≤◌, true, List, map, Some, None, Option, vec_items, length, Bor, rules}
use Rattle.std.specs.Option.{IfSome}
use Rattle.std.specs.Slice.{IsItemAt}
use Rattle.tables.specs.declared.module.Module.{Module}
use Rattle.tables.specs.declared.module.Span.{Span}
use Rattle.tables.specs.Spans.{tiled}
use Rattle.tables.proofs.Tiles.{item_within}
use Rattle.tables.proofs.table.Table.module.Goals as goal

-- a module that is lent has its span within the whole
lent_within : (span : Module → Span) (ms : List Module) (to k : ℕ) (r : Option (Bor Module)) → tiled 0 (map span ms) to ≡ true → IsItemAt ms k r → IfSome r (λ x. ((span x.now).start ≤ (span x.now).end) × ((span x.now).end ≤ to))
lent_within span ms to k None t i = tt
lent_within span ms to k (Some x) t i = let w = item_within span ms to k x.now t i.3.0 i.1 in (w.ordered, w.ends)

pub returns-clause-id : goal.returns-clause-id
returns-clause-id c =
    let t = c.args.self.now in
    let i : IsItemAt (vec_items t.modules) c.args.m.0 c.get.result = search rules in
    lent_within (λ m. m.id) (vec_items t.modules) (length (vec_items t.ids)) c.args.m.0 c.get.result t.ids_tiled i

pub returns-clause-records : goal.returns-clause-records
returns-clause-records c =
    let t = c.args.self.now in
    let i : IsItemAt (vec_items t.modules) c.args.m.0 c.get.result = search rules in
    lent_within (λ m. m.import_records) (vec_items t.modules) (length (vec_items t.records)) c.args.m.0 c.get.result t.records_tiled i
