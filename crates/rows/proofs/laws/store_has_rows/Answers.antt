use Rattle.rows.proofs.AnyContent.{store_rows}
use Rattle.rows.proofs.laws.store_has_rows.Goals as goal

pub returns-clause-rows : goal.returns-clause-rows
returns-clause-rows c = let s = c.args.store.now in store_rows s.size s.memory.now (record { small = s.small; room = s.room; ordered = s.ordered; modules = s.modules })
