use Rattle.std.proofs.Common.{ℕ, sym, ap, ◌∙◌}
use Rattle.std.proofs.lemmas.Bool.{eqb-true, eq-eqb}
use Rattle.sets.specs.Bits.{bit}
use Rattle.sets.proofs.Bits.{bit_zero, same_bits}
use Rattle.sets.proofs.words.has_no_bit.Goals as goal

pub returns : goal.returns
returns c =
    let n = c.args.word in
    (λ t e. ap (λ (x : ℕ). bit x e) (eqb-true n 0 t) ∙ bit_zero e, λ none. eq-eqb n 0 (same_bits n 0 (λ k. none k ∙ sym (bit_zero k))))
