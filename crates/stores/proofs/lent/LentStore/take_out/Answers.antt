use Rattle.std.proofs.Common.{◌+◌, ◌-◌, false, arith}
use Rattle.stores.proofs.Written.{row_is, others_as, rows_kept, modules_kept, rewritten}
use Rattle.stores.proofs.lent.LentStore.take_out.Goals as goal

pub invariant_of-self-clause-ordered : goal.invariant_of-self-clause-ordered
invariant_of-self-clause-ordered g c =
    let s = c.args.self.now in
    let is = row_is _ s.size s.memory.now c.args.m.0 _ (c.start-start.result + c.MEMORY_PER_MODULE.result - c.start-start.result) c.requires.0 s.room c.start-start.ensures (omega (arith, c.MEMORY_PER_MODULE.ensures)) g.L.Layout.ordered s.ordered in
    rows_kept _ s.size s.memory.now _ c.args.m.0 _ _ c.requires.0 s.room c.start-start.ensures (omega (arith, c.MEMORY_PER_MODULE.ensures)) c.take_out.auto.row g.L.Layout.ordered s.ordered (c.take_out.ensures.row is (omega (arith, c.requires.1, s.small)))

pub invariant_of-self-clause-modules : goal.invariant_of-self-clause-modules
invariant_of-self-clause-modules g c =
    let s = c.args.self.now in
    let is = row_is _ s.size s.memory.now c.args.m.0 _ (c.start-start.result + c.MEMORY_PER_MODULE.result - c.start-start.result) c.requires.0 s.room c.start-start.ensures (omega (arith, c.MEMORY_PER_MODULE.ensures)) g.L.Layout.ordered s.ordered in
    modules_kept _ s.size s.memory.now _ c.args.m.0 _ _ c.requires.0 s.room c.start-start.ensures (omega (arith, c.MEMORY_PER_MODULE.ensures)) c.take_out.auto.row g.L.Layout.listed c.args.d.0 c.requires.1 (others_as _ _ false c.args.d.0 (c.take_out.ensures.lists is (omega (arith, c.requires.1, s.small)))) s.modules

pub returns-clause-rows : goal.returns-clause-rows
returns-clause-rows g c =
    let s = c.args.self.now in
    let is = row_is _ s.size s.memory.now c.args.m.0 _ (c.start-start.result + c.MEMORY_PER_MODULE.result - c.start-start.result) c.requires.0 s.room c.start-start.ensures (omega (arith, c.MEMORY_PER_MODULE.ensures)) g.L.Layout.ordered s.ordered in
    rewritten _ s.size s.memory.now _ c.args.m.0 _ _ c.requires.0 s.room c.start-start.ensures (omega (arith, c.MEMORY_PER_MODULE.ensures)) c.take_out.auto.row g.L.Layout.listed false c.args.d.0 c.requires.1 (λ b h. c.take_out.ensures.lists is (omega (arith, c.requires.1, s.small)) b (omega (arith, s.small)))
