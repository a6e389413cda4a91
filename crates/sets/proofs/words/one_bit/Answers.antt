use Rattle.std.proofs.Common.{eqb, sym, ◌∙◌}
use Rattle.std.proofs.lemmas.Bool.{lt-ltb, le-ltb, and_right}
use Rattle.sets.proofs.Bits.{bit_one, bit_zero, and_true}
use Rattle.sets.proofs.words.one_bit.Goals as goal

pub returns-then-e-lt64 : goal.returns-then-e-lt64
returns-then-e-lt64 c = λ k. bit_one c.args.e c.if-e-lt64.true k ∙ and_true (eqb k c.args.e) _ (lt-ltb c.args.e 64 c.if-e-lt64.true)

pub returns-else-e-lt64 : goal.returns-else-e-lt64
returns-else-e-lt64 c = λ k. bit_zero k ∙ sym (and_right (eqb k c.args.e) _ (le-ltb c.args.e 64 c.if-e-lt64.false))
