use Rattle.std.proofs.Common.{arith, rules}
use Rattle.std.proofs.lemmas.List.{take_rest}
use Rattle.frames.specs.Text.{bytes_of}
use Rattle.frames.proofs.Decoded.{line_length}
use Rattle.frames.proofs.Letters.{decodes}
use Rattle.frames.proofs.Texts.{given_some, module_read}
use Rattle.frames.proofs.line.Line.module.Goals as goal

pub slice_bounds-result-count : goal.slice_bounds-result-count
slice_bounds-result-count c = omega (arith, line_length c.args.self.now.digits.now (decodes c.args.self.now))

pub slice_bounds-result-start : goal.slice_bounds-result-start
slice_bounds-result-start c = omega (arith, line_length c.args.self.now.digits.now (decodes c.args.self.now))

pub returns : goal.returns
returns c =
    let line = c.args.self.now.digits.now in
    rw (take_rest line 14) (module_read line (bytes_of line) c.field.result c.field-2.result c.in_ok-flags.flags c.field.ensures.value (given_some _ _ (search rules)) c.field-2.ensures.value)
