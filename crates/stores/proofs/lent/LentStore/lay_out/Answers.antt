use Rattle.std.proofs.Common.{◌∙◌, ap, arith}
use Rattle.std.proofs.lemmas.Bool.{both_ways}
use mathlib.Core.Path.{fun_ext}
use Rattle.stores.proofs.Written.{blank_cells, row_blank, none_listed}
use Rattle.stores.proofs.lent.LentStore.lay_out.Goals as goal

pub invariant_of-result-clause-ordered : goal.invariant_of-result-clause-ordered
invariant_of-result-clause-ordered g c m h =
    let l = g.L.Layout in
    let filled = c.fill.ensures.after (λ y. g.met.L.Layout.same _ y) in
    let blank = blank_cells l.MEMORY_PER_MODULE _ c.args.size c.args.memory.now _ l.BLANK _ c.MEMORY_PER_MODULE.ensures c.BLANK.ensures c.requires.room filled in
    ap l.ordered (row_blank l.MEMORY_PER_MODULE c.args.size l.BLANK _ _ blank m h) ∙ g.met.L.Layout.blank_is_ordered

pub invariant_of-result-clause-modules : goal.invariant_of-result-clause-modules
invariant_of-result-clause-modules g c m d h k there =
    let l = g.L.Layout in
    let filled = c.fill.ensures.after (λ y. g.met.L.Layout.same _ y) in
    let blank = blank_cells l.MEMORY_PER_MODULE _ c.args.size c.args.memory.now _ l.BLANK _ c.MEMORY_PER_MODULE.ensures c.BLANK.ensures c.requires.room filled in
    absurd (both_ways _ (ap (λ r. l.listed r d) (row_blank l.MEMORY_PER_MODULE c.args.size l.BLANK _ _ blank m h) ∙ g.met.L.Layout.blank_lists_none d k) there)

pub returns-clause-empty : goal.returns-clause-empty
returns-clause-empty g c =
    let l = g.L.Layout in
    let filled = c.fill.ensures.after (λ y. g.met.L.Layout.same _ y) in
    let blank = blank_cells l.MEMORY_PER_MODULE _ c.args.size c.args.memory.now _ l.BLANK _ c.MEMORY_PER_MODULE.ensures c.BLANK.ensures c.requires.room filled in
    fun_ext (λ a. fun_ext (none_listed l.listed l.MEMORY_PER_MODULE c.args.size _ (λ m d h k. ap (λ r. l.listed r d) (row_blank l.MEMORY_PER_MODULE c.args.size l.BLANK _ _ blank m h) ∙ g.met.L.Layout.blank_lists_none d (omega (arith, c.requires.small))) a))
