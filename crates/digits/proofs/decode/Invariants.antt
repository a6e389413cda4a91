use Rattle.std.proofs.Common.{◌≡◌, ◌%◌, length, vec_items}
use Rattle.digits.specs.Digits.{bytes_in}
use Rattle.digits.proofs.Bytes.{behind}
use Rattle.digits.proofs.decode.Given as goal

abbrev pub invariant-loop-rest : goal.invariant-loop-rest
invariant-loop-rest l = (behind (vec_items l.bytes) (bytes_in l.rest) ≡ bytes_in l.text) × (length l.rest % 2 ≡ 0)

abbrev pub decreases-loop-rest : goal.decreases-loop-rest
decreases-loop-rest l = length l.rest
