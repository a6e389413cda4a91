use Rattle.std.proofs.Common.{◌%◌, ◌∙◌, sym, ap, arith}
use Rattle.sets.specs.Bits.{bit}
use Rattle.sets.proofs.Bits.{bit_test}
use Rattle.squares.specs.Square.{bits_in, zero_bit}
use Rattle.squares.proofs.is_set.Goals as goal

pub returns-in-Some : goal.returns-in-Some
unfolding bits_in
returns-in-Some c = bit_test _ (c.args.d % 64) ∙ ap (λ w. bit w (c.args.d % 64)) (c.in-Some.ensures.lookup.3.1 0)

pub returns-in-None : goal.returns-in-None
unfolding bits_in
returns-in-None c = sym (ap (λ w. bit w (c.args.d % 64)) (sym (c.in-None.ensures.lookup.4 (omega arith) 0)) ∙ zero_bit (c.args.d % 64))
