use Rattle.std.proofs.Common.{◌≡◌, length}
use Rattle.panelreport.proofs.read_export.Given as goal

abbrev pub invariant-loop : goal.invariant-loop
invariant-loop l = length l.buf ≡ 4096
