use Rattle.std.proofs.Common.{◌≡◌, ◌+◌, ◌-◌, true, ap, ◌∙◌, arith}
use Rattle.stores.specs.Pairs.{degree}
use Rattle.stores.proofs.Written.{has_room, below_all, part_is, row_is, degree_listed, rows_kept, modules_kept, rewritten}
use Rattle.stores.proofs.lent.LentStore.put.Goals as goal

pub invariant_of-self-clause-ordered : goal.invariant_of-self-clause-ordered
invariant_of-self-clause-ordered g c =
    let s = c.args.self.now in
    let is = row_is _ s.size s.memory.now c.args.m.0 _ (c.start-start.result + c.MEMORY_PER_MODULE.result - c.start-start.result) c.requires.0 s.room c.start-start.ensures (omega (arith, c.MEMORY_PER_MODULE.ensures)) g.L.Layout.ordered s.ordered in
    rows_kept _ s.size s.memory.now _ c.args.m.0 _ _ c.requires.0 s.room c.start-start.ensures (omega (arith, c.MEMORY_PER_MODULE.ensures)) c.put.auto.row g.L.Layout.ordered s.ordered (c.put.ensures.row is (omega (arith, c.requires.1, s.small)))

pub invariant_of-self-clause-modules : goal.invariant_of-self-clause-modules
invariant_of-self-clause-modules g c =
    let s = c.args.self.now in
    let is = row_is _ s.size s.memory.now c.args.m.0 _ (c.start-start.result + c.MEMORY_PER_MODULE.result - c.start-start.result) c.requires.0 s.room c.start-start.ensures (omega (arith, c.MEMORY_PER_MODULE.ensures)) g.L.Layout.ordered s.ordered in
    modules_kept _ s.size s.memory.now _ c.args.m.0 _ _ c.requires.0 s.room c.start-start.ensures (omega (arith, c.MEMORY_PER_MODULE.ensures)) c.put.auto.row g.L.Layout.listed c.args.d.0 c.requires.1 (c.put.ensures.others is (omega (arith, c.requires.1, s.small))) s.modules

pub returns-clause-rows : goal.returns-clause-rows
returns-clause-rows g c =
    let s = c.args.self.now in
    let l = g.L.Layout in
    let long : c.start-start.result + c.MEMORY_PER_MODULE.result - c.start-start.result ≡ l.MEMORY_PER_MODULE = omega (arith, c.MEMORY_PER_MODULE.ensures) in
    let small = below_all s.size c.args.d.0 s.small c.requires.1 in
    let is = row_is _ s.size s.memory.now c.args.m.0 _ _ c.requires.0 s.room c.start-start.ensures long l.ordered s.ordered in
    let part = part_is l.MEMORY_PER_MODULE s.memory.now c.args.m.0 c.start-start.result _ c.start-start.ensures long in
    let count = degree_listed l.listed l.MEMORY_PER_MODULE s.size s.memory.now c.args.m.0 c.requires.0 s.small (λ b. s.modules c.args.m.0 b c.requires.0) in
    λ few.
    let room = has_room _ _ (ap (λ r. degree (l.listed r) 512) part ∙ count) few in
    rewritten _ s.size s.memory.now _ c.args.m.0 _ _ c.requires.0 s.room c.start-start.ensures long c.put.auto.row l.listed true c.args.d.0 c.requires.1 (λ b h. c.put.ensures.lists is small room b (below_all s.size b s.small h))
