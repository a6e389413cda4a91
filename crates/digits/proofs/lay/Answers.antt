use Rattle.std.proofs.Common.{◌+◌, ◌<◌, set, sym, ap, ◌∙◌, arith}
use Rattle.digits.specs.Digits.{digits}
use Rattle.digits.proofs.Hex.{length_digits, digits_at}
use Rattle.digits.proofs.Laying.{part_none, part_more, part_all}
use Rattle.digits.proofs.lay.Goals as goal

pub loop-i-init : goal.loop-i-init
loop-i-init c = part_none c.args.out.now c.args.at (digits c.args.count c.args.value)

pub loop-i-preserved : goal.loop-i-preserved
loop-i-preserved c =
    let k = c.args.count in
    let n = c.args.value in
    let i = c.loop-i.i in
    let within : i < k = omega arith in
    ap (λ l. set l (c.args.at + i) c.digit_at.result) c.loop-i.invariant
    ∙ ap (set _ (c.args.at + i)) (c.digit_at.ensures ∙ sym (digits_at k n i within))
    ∙ part_more c.args.out.now c.args.at (digits k n) i (omega (arith, c.requires)) (omega (arith, length_digits k n))

pub returns : goal.returns
returns c =
    c.loop-i.invariant ∙ part_all c.args.out.now c.args.at (digits c.args.count c.args.value) c.loop-i.i (omega (arith, length_digits c.args.count c.args.value))
