use Rattle.std.proofs.Common.{[], ◌++◌, sym, arith, rules}
use Rattle.std.proofs.lemmas.Bool.{leb-true}
use Rattle.digits.specs.Digits.{digits}
use Rattle.lines.specs.Lines.{head_text, chunk_line}
use Rattle.lines.proofs.Writing.{wrote_nothing, wrote_number, wrote_modules, written, length_chunk}
use Rattle.lines.proofs.write_chunk.Goals as goal

pub returns : goal.returns
returns c =
    let room = leb-true _ _ (sym c.if-not-has_room.ensures.room) in
    let out = c.args.out.now in
    let k = c.args.chunk.now in
    let ms = c.args.roll.now in
    let long = length_chunk k ms in
    let t1 = digits 2 67 in
    let t2 = t1 ++ digits 4 k.chunk.0 in
    let t3 = t2 ++ digits 2 k.kind in
    let t4 = t3 ++ digits 16 k.set.0 in
    let none = wrote_nothing out c.new-pen.result c.new-pen.ensures.out c.new-pen.ensures.at in
    let w1 = wrote_number out [] 2 c.from.result 67 c.new-pen.result c.put.new.self none c.from.ensures c.put.ensures.out c.put.ensures.at in
    let w2 = wrote_number out t1 4 c.from-2.result k.chunk.0 c.put.new.self c.put-2.new.self w1 c.from-2.ensures c.put-2.ensures.out c.put-2.ensures.at in
    let w3 = wrote_number out t2 2 c.from-3.result k.kind c.put-2.new.self c.put-3.new.self w2 c.from-3.ensures c.put-3.ensures.out c.put-3.ensures.at in
    let w4 = wrote_number out t3 16 c.from-4.result k.set.0 c.put-3.new.self c.put-4.new.self w3 c.from-4.ensures c.put-4.ensures.out c.put-4.ensures.at in
    let w5 = wrote_number out t4 4 c.from-5.result k.rank c.put-4.new.self c.put-5.new.self w4 c.from-5.ensures c.put-5.ensures.out c.put-5.ensures.at in
    let w6 = wrote_modules out (head_text k) ms c.put-5.new.self c.put_modules.new.self w5 c.put_modules.ensures.out c.put_modules.ensures.at in
    let all = written out (chunk_line k ms) c.put_modules.new.self w6 (omega arith) in
    search rules
