use Rattle.std.proofs.Common.{arith, rules}
use Rattle.frames.proofs.Decoded.{line_length}
use Rattle.frames.proofs.Letters.{decodes}
use Rattle.frames.proofs.Decoded.{two_bytes}
use Rattle.frames.proofs.line.Line.module_at.Goals as goal

pub overflow_add-from : goal.overflow_add-from
overflow_add-from c = omega (arith, line_length c.args.self.now.digits.now (decodes c.args.self.now))

pub overflow_cast-result : goal.overflow_cast-result
overflow_cast-result c = let h = two_bytes c.args.from c.field.result c.field.ensures.below in search rules
