use Rattle.std.proofs.Common.{sym, ◌∙◌}
use Rattle.frames.proofs.Decoded.{line_sized, line_unsized}
use Rattle.frames.proofs.open.is_line.Goals as goal

pub returns-then-has_size : goal.returns-then-has_size
returns-then-has_size c = c.are_digits.ensures ∙ line_sized c.args.line.now (sym c.if-has_size.ensures)

pub returns-else-has_size : goal.returns-else-has_size
returns-else-has_size c = c.if-has_size.false ∙ line_unsized c.args.line.now (sym c.if-has_size.ensures)
