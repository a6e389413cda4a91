use Rattle.frames.proofs.Letters.{decodes}
use Rattle.frames.proofs.line.Line.field.Goals as goal

pub field-requires : goal.field-requires
field-requires c = record { bytes = decodes c.args.self.now; count = c.requires.count; width = c.requires.width }
