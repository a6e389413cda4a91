use Rattle.lines.proofs.Writing.{length_modules}
use Rattle.lines.proofs.has_room.Goals as goal

pub returns-then-head-len-clause-text : goal.returns-then-head-len-clause-text
returns-then-head-len-clause-text c = length_modules c.args.modules.now

pub returns-else-head-len-clause-text : goal.returns-else-head-len-clause-text
returns-else-head-len-clause-text c = length_modules c.args.modules.now
