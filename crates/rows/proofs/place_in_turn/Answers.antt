use Rattle.std.proofs.Common.{arith}
use Rattle.rows.proofs.Ascending.{level}
use Rattle.rows.proofs.place_in_turn.Goals as goal

pub returns-then-x-d : goal.returns-then-x-d
returns-then-x-d c q =
    let xs = c.args.row.now in
    record {
      few = omega (arith, c.loop-i-test.true, q.long);
      low = c.loop-i.invariant;
      high = λ i h l. omega (arith, level xs q.long q.order c.loop-i.i i h l, c.if-x-d.true);
    }
