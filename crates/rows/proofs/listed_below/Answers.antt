use Rattle.std.proofs.Common.{◌≡◌, ℕ, sym, subst, arith}
use Rattle.rows.specs.Rows.{Parts}
use Rattle.rows.proofs.Ascending.{counted}
use Rattle.rows.proofs.listed_below.Goals as goal

pub returns : goal.returns
returns c q small =
    let e : c.min.result ≡ c.args.size = omega (arith, c.min.ensures) in
    sym (counted c.args.row.now q.long q.order c.args.size c.place.result small (subst (λ (k : ℕ). Parts c.args.row.now k c.place.result) e (c.place.ensures q)))
