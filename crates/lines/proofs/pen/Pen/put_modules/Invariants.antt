use Rattle.std.proofs.Common.{◌≡◌, ◌+◌, ◌*◌, length, take}
use Rattle.digits.specs.Lay.{laid}
use Rattle.lines.specs.Lines.{modules_text}
use Rattle.lines.proofs.pen.Pen.put_modules.Given as goal

abbrev pub invariant-loop-m : goal.invariant-loop-m
invariant-loop-m l = record {
  at : l.self.at ≡ l.initial.self.at + 4 * l.m-index;
  out : l.self.out.now ≡ laid l.initial.self.out.now l.initial.self.at (modules_text (take l.m-index l.modules));
  long : length l.self.out.now ≡ length l.initial.self.out.now;
  lender : l.self.out.ghost_name ≡ l.initial.self.out.ghost_name;
}
