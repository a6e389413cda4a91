use Rattle.std.proofs.Common.{sym, ap, ◌∙◌, arith}
use Rattle.digits.specs.Digits.{digit_of}
use Rattle.digits.proofs.Hex.{low_place, high_place}
use Rattle.digits.proofs.digit_at.Goals as goal

pub returns-then-place-lt16 : goal.returns-then-place-lt16
returns-then-place-lt16 c = c.digit.ensures ∙ ap digit_of (low_place c.args.value c.args.place)

pub returns-else-place-lt16 : goal.returns-else-place-lt16
returns-else-place-lt16 c = c.digit-else-place-lt16.ensures ∙ ap digit_of (sym (high_place c.args.value c.args.place (omega arith) c.if-place-lt16.false))
