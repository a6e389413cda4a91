use Rattle.rows.proofs.Edited.{taken_left}
use Rattle.rows.proofs.RowLayout.take_out.Goals as goal

pub returns-else-stands-clause-lists : goal.returns-else-stands-clause-lists
returns-else-stands-clause-lists c q small b h = taken_left c.args.row.now c.args.d.0 c.place-place.result c.stands.result q small (c.place-place.ensures q) c.stands.ensures c.if-stands.false b
