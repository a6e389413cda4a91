use Rattle.frames.proofs.Spelling.{reads_as}
use Rattle.frames.proofs.read.read_spelled.Goals as goal

pub returns : goal.returns
returns c = record { frame = c.read_any.ensures; spelled = reads_as c.args.text.now _ c.read_any.ensures }
