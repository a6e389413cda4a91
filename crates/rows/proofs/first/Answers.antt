use Rattle.std.proofs.Common.{sym, arith}
use Rattle.stores.proofs.Below.{none_below, first_below}
use Rattle.rows.specs.Rows.{listed}
use Rattle.rows.proofs.Ascending.{before_next, listed_tells}
use Rattle.rows.proofs.first.Goals as goal

pub returns-in_err-d : goal.returns-in_err-d
returns-in_err-d c q =
    let h = c.in_err-d.ensures.lookup in
    let parts = c.place.ensures q in
    rw c.from_residual.ensures (none_below c.args.size (listed c.args.row.now) c.args.from (λ k low high. before_next c.args.row.now q.long q.order c.args.from c.place.result k parts low (λ w. omega (arith, h.3, q.long))))

pub returns-then-from-size : goal.returns-then-from-size
returns-then-from-size c q = let h = c.in_ok-d.ensures.lookup in
    let parts = c.place.ensures q in
    first_below c.args.size (listed c.args.row.now) c.args.from c.in_ok-d.field-0.now (omega (arith, parts.high c.place.result (omega arith) (omega (arith, h.3.0, q.long)), h.3.1 0)) (omega (arith, c.from.ensures)) ((listed_tells c.args.row.now c.in_ok-d.field-0.now).1 (c.place.result, h.3.0, sym (h.3.1 0))) (λ k low high. before_next c.args.row.now q.long q.order c.args.from c.place.result k parts low (λ w. omega (arith, h.3.1 0)))

pub returns-else-from-size : goal.returns-else-from-size
returns-else-from-size c q = let h = c.in_ok-d.ensures.lookup in
    let parts = c.place.ensures q in
    none_below c.args.size (listed c.args.row.now) c.args.from (λ k low high. before_next c.args.row.now q.long q.order c.args.from c.place.result k parts low (λ w. omega (arith, h.3.1 0, c.from.ensures)))
