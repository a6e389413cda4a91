use Rattle.std.proofs.Common.{length, get_or, take, refl, ap, ◌∙◌, arith}
use Rattle.std.proofs.lemmas.List.{take_all, length-take-le}
use Rattle.digits.specs.Digits.{digits}
use Rattle.digits.specs.Lay.{laid}
use Rattle.digits.proofs.Laying.{laid_nothing}
use Rattle.lines.specs.Lines.{modules_text}
use Rattle.lines.proofs.Writing.{put_more, put_value, length_modules, modules_more}
use Rattle.lines.proofs.pen.Pen.put_modules.Goals as goal

pub loop-m-init : goal.loop-m-init
loop-m-init c = record { at = omega arith; out = laid_nothing c.put.new.self.out.now c.put.new.self.at; long = refl; lender = refl }

pub put-requires-in-loop-m : goal.put-requires-in-loop-m
put-requires-in-loop-m c = omega (arith, c.requires, c.loop-m.invariant.at, c.loop-m.invariant.long, c.put.ensures.at, c.put.ensures.long, c.loop-m-test.true)

pub loop-m-preserved : goal.loop-m-preserved
loop-m-preserved c =
    let ms = c.args.modules.now in
    let i = c.loop-m.m-index in
    let first = c.put.new.self in
    let inv = c.loop-m.invariant in
    let more = c.put-in-loop-m.ensures in
    let long = length_modules (take i ms) in
    let taken = length-take-le i ms (omega arith) in
    record {
      at = omega (arith, more.at, inv.at);
      out = put_value first.out.now c.loop-m.self.out.now c.put-in-loop-m.new.self.out.now first.at c.loop-m.self.at (modules_text (take i ms)) 4 c.from.result (get_or ms i (record { 0 = 0 })).0 (omega (arith, c.requires, c.put.ensures.at, c.put.ensures.long)) (omega (arith, inv.at, long, taken)) inv.out c.from.ensures more.out ∙ ap (laid first.out.now first.at) (modules_more ms i (record { 0 = 0 }) c.loop-m-test.true);
      long = more.long ∙ inv.long;
      lender = more.lender ∙ inv.lender;
    }

pub returns : goal.returns
returns c =
    let ms = c.args.modules.now in
    let before = c.args.self.now in
    let first = c.put.new.self in
    let inv = c.loop-m.invariant in
    record {
      out = put_more before.out.now first.out.now c.loop-m.self.out.now before.at first.at (digits 4 (length ms)) (modules_text ms) (omega (arith, c.requires)) c.put.ensures.at c.put.ensures.out (inv.out ∙ ap (λ l. laid first.out.now first.at (modules_text l)) (take_all c.loop-m.m-index ms c.loop-m-test.false));
      at = omega (arith, inv.at, c.put.ensures.at, c.loop-m-test.false, c.loop-m.auto.m-index-end);
      lender = inv.lender ∙ c.put.ensures.lender;
    }
