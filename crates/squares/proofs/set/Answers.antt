use Rattle.std.proofs.Common.{◌%◌, true, arith}
use Rattle.sets.proofs.Bits.{bit_set}
use Rattle.squares.proofs.Bits.{bits_written}
use Rattle.squares.proofs.set.Goals as goal

pub returns-then-d-row : goal.returns-then-d-row
returns-then-d-row c within = bits_written c.args.row.now c.args.d _ true within (λ j _. bit_set _ (c.args.d % 64) (omega arith) j)
