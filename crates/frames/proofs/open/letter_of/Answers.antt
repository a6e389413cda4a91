use Rattle.std.proofs.Common.{sym, arith}
use Rattle.frames.proofs.Letters.{malformed, well, letter_passes, letter_fails}
use Rattle.frames.proofs.open.letter_of.Goals as goal

pub returns-then-not-is_line : goal.returns-then-not-is_line
returns-then-not-is_line c = sym (malformed c.args.line.now (sym c.if-not-is_line.ensures))

pub field-code-requires : goal.field-code-requires
field-code-requires c =
    let w = well c.args.line.now (sym c.if-not-is_line.ensures) in
    record { bytes = w.decodes; count = w.some; width = omega arith }

pub returns-then-has_length : goal.returns-then-has_length
returns-then-has_length c = letter_passes c.args.line.now c.field-code.result (sym c.if-not-is_line.ensures) c.field-code.ensures.value (sym c.if-has_length.ensures)

pub returns-else-has_length : goal.returns-else-has_length
returns-else-has_length c = letter_fails c.args.line.now c.field-code.result (sym c.if-not-is_line.ensures) c.field-code.ensures.value (sym c.if-has_length.ensures)
