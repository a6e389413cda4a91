use Rattle.std.proofs.Common.{◌%◌, false, arith}
use Rattle.sets.proofs.Bits.{bit_clear}
use Rattle.squares.proofs.Bits.{bits_written}
use Rattle.squares.proofs.clear.Goals as goal

pub returns-then-d-row : goal.returns-then-d-row
returns-then-d-row c within = bits_written c.args.row.now c.args.d _ false within (bit_clear _ (c.args.d % 64) (omega arith))
