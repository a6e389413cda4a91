use Rattle.std.proofs.Common.{◌≡◌, get_or, None, sym, ◌∙◌, arith, rules}
use Rattle.std.proofs.lemmas.List.{at_drop_all}
use Rattle.std.proofs.lemmas.Bool.{le-leb, cond-true}
use Rattle.digits.proofs.Hex.{value_below, value_more, value_fits, after, after_more, after_stop}
use Rattle.digits.proofs.number.Goals as goal

pub returns-in_err-d : goal.returns-in_err-d
returns-in_err-d c =
    let none : c.from_residual.result ≡ None = search rules in
    none ∙ sym (cond-true _ _ _ (le-leb _ 16 c.if-text-gt16.false) ∙ sym c.loop-b.invariant.1 ∙ after_stop c.loop-b.value c.loop-b.b-index c.args.text.now c.loop-b-test.true c.in_err-d.ensures)

pub overflow_mul-value : goal.overflow_mul-value
overflow_mul-value c = omega (arith, value_fits c.loop-b.value 0 c.loop-b.b-index _ c.loop-b.invariant.0 (omega arith) c.loop-b-test.true c.if-text-gt16.false)

pub overflow_add-value : goal.overflow_add-value
overflow_add-value c =
    let d = value_below (get_or c.args.text.now c.loop-b.b-index 0) c.in_ok-d.d c.in_ok-d.ensures in
    omega (arith, value_fits c.loop-b.value c.in_ok-d.d c.loop-b.b-index _ c.loop-b.invariant.0 d c.loop-b-test.true c.if-text-gt16.false)

pub loop-b-preserved : goal.loop-b-preserved
loop-b-preserved c =
    let e = c.in_ok-d.ensures in
    let d = value_below (get_or c.args.text.now c.loop-b.b-index 0) c.in_ok-d.d e in
    rw c.from.ensures (value_more c.loop-b.value c.in_ok-d.d c.loop-b.b-index c.loop-b.invariant.0 d, sym (after_more c.loop-b.value c.in_ok-d.d c.loop-b.b-index c.args.text.now c.loop-b-test.true e) ∙ c.loop-b.invariant.1)

pub returns : goal.returns
returns c =
    sym (cond-true _ _ _ (le-leb _ 16 c.if-text-gt16.false) ∙ sym c.loop-b.invariant.1 ∙ at_drop_all (after c.loop-b.value) c.args.text.now c.loop-b.b-index c.loop-b-test.false)
