use Rattle.std.proofs.Common.{◌≡◌}
use Rattle.digits.specs.Digits.{digits}
use Rattle.digits.proofs.Laying.{laid_part}
use Rattle.digits.proofs.lay.Given as goal

abbrev pub invariant-loop-i : goal.invariant-loop-i
invariant-loop-i l = l.out ≡ laid_part l.initial.out l.at (digits l.count l.value) l.i
