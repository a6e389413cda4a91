use Rattle.std.proofs.Common.{ℕ, ap}
use Rattle.std.proofs.lemmas.Bool.{eqb-true, eq-eqb}
use Rattle.sets.specs.Bits.{bit}
use Rattle.sets.proofs.Bits.{same_bits}
use Rattle.sets.proofs.words.same_bits.Goals as goal

pub returns : goal.returns
returns c =
    let a = c.args.a in
    let b = c.args.b in
    (λ t e. ap (λ (x : ℕ). bit x e) (eqb-true a b t), λ same. eq-eqb a b (same_bits a b same))
