use Rattle.std.proofs.Common.{[], sym, arith, rules}
use Rattle.std.proofs.lemmas.Bool.{leb-true}
use Rattle.digits.specs.Digits.{digits}
use Rattle.lines.specs.Lines.{edit_line}
use Rattle.lines.proofs.Writing.{wrote_nothing, wrote_number, wrote_modules, written, length_edit}
use Rattle.lines.proofs.write_edit.Goals as goal

pub returns : goal.returns
returns c =
    let room = leb-true _ _ (sym c.if-not-has_room.ensures.room) in
    let out = c.args.out.now in
    let ms = c.args.moved.now in
    let long = length_edit ms in
    let none = wrote_nothing out c.new-pen.result c.new-pen.ensures.out c.new-pen.ensures.at in
    let w1 = wrote_number out [] 2 c.from.result 78 c.new-pen.result c.put.new.self none c.from.ensures c.put.ensures.out c.put.ensures.at in
    let w2 = wrote_modules out (digits 2 78) ms c.put.new.self c.put_modules.new.self w1 c.put_modules.ensures.out c.put_modules.ensures.at in
    let all = written out (edit_line ms) c.put_modules.new.self w2 (omega arith) in
    search rules
