use Rattle.rows.proofs.Edited.{put_left}
use Rattle.rows.proofs.RowLayout.put.Goals as goal

pub returns-else-has_room-clause-lists : goal.returns-else-has_room-clause-lists
returns-else-has_room-clause-lists c q small few b h = put_left c.args.row.now c.args.d.0 c.place-place.result c.has_room.result q small (c.place-place.ensures q) c.has_room.ensures few c.if-has_room.false b
