use Rattle.std.proofs.Common.{◌∙◌, ap}
use Rattle.stores.specs.Pairs.{degree}
use Rattle.stores.proofs.Written.{degree_row}
use Rattle.stores.proofs.lent.LentStore.count.Goals as goal

pub returns : goal.returns
returns g c =
    let s = c.args.self.now in
    c.count.ensures c.row.ensures.row s.small ∙ ap (λ r. degree (g.L.Layout.listed r) s.size) c.row.ensures.cells ∙ degree_row g.L.Layout.listed g.L.Layout.MEMORY_PER_MODULE s.size s.memory.now c.args.m.0 c.requires
