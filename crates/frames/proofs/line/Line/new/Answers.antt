use Rattle.std.proofs.Common.{◌≡◌, Ok, refl, rules}
use Rattle.frames.specs.Text.{letter_of}
use Rattle.frames.proofs.Letters.{opens, shut}
use Rattle.frames.proofs.line.Line.new.Goals as goal

pub returns-in_err-letter : goal.returns-in_err-letter
returns-in_err-letter c = shut c.args.text.now c.from_residual.result c.in_err-letter.field-0.0 (search rules) (search rules)

pub returns : goal.returns
returns c =
    let known : letter_of c.args.text.now ≡ Ok c.in_ok-letter.letter = search rules in
    opens c.args.text.now (record { digits = c.args.text; letter = c.in_ok-letter.letter; known = known }) refl
