use Rattle.std.proofs.Common.{sym}
use Rattle.reach.proofs.Ways.{told_open}
use Rattle.reach.proofs.loads.Loads.determine_reachable_modules_for_entry.Goals as goal

pub returns-then-is_open-clause-told : goal.returns-then-is_open-clause-told
returns-then-is_open-clause-told g c = told_open _ _ c.args.start.0 c.args.walker.now c.walk.new.self c.walk.result c.requires (sym c.if-is_open.ensures) c.from.ensures c.walk.ensures.toured
