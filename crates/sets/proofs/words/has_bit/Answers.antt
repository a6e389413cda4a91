use Rattle.std.proofs.Common.{◌^◌, ◌<◌, sym, rules}
use Rattle.sets.proofs.Bits.{bit_test, bit_past}
use Rattle.sets.proofs.words.has_bit.Goals as goal

pub returns-then-e-lt64 : goal.returns-then-e-lt64
returns-then-e-lt64 c = bit_test c.args.word c.args.e

pub returns-else-e-lt64 : goal.returns-else-e-lt64
returns-else-e-lt64 c = let fits : c.args.word < 2 ^ 64 = search rules in sym (bit_past 64 c.args.word c.args.e fits c.if-e-lt64.false)
