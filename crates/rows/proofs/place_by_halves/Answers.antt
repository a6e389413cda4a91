use Rattle.std.proofs.Common.{ℕ, ltb, arith, rules}
use Rattle.std.proofs.lemmas.Bool.{ltb-true, ltb-false}
use Rattle.std.proofs.lemmas.Fn.{always_returns_same}
use Rattle.std.proofs.lemmas.List.Sorted.{IsNonDecreasingBy-from_default, IsPartitionedBy-ltb}
use Rattle.rows.proofs.Ascending.{level}
use Rattle.rows.proofs.place_by_halves.Goals as goal

pub returns : goal.returns
returns c q =
    let xs = c.args.row.now in
    let d = c.args.d in
    let rises = IsNonDecreasingBy-from_default (λ (x : ℕ). x) xs 0 (λ i j a b. level xs q.long q.order i j a (omega (arith, q.long))) in
    let point = c.partition_point.ensures.partitioned (λ x. ltb x d) (always_returns_same _ _ _ (λ a r f k. search rules)) (IsPartitionedBy-ltb (λ (x : ℕ). x) xs d rises) in
    record {
      few = omega (arith, c.partition_point.ensures.bound, q.long);
      low = λ i h. ltb-true _ d (point.0 i 0 (omega arith) h);
      high = λ i h l. ltb-false _ d (point.1 i 0 h (omega (arith, q.long)));
    }
