use Rattle.std.proofs.Common.{[], ◌++◌, ◌∙◌, arith, rules}
use Rattle.digits.specs.Digits.{digits}
use Rattle.tables.specs.Refusals.{number_of}
use Rattle.lines.specs.Lines.{refusal_line}
use Rattle.lines.proofs.Writing.{wrote_nothing, wrote_number, written}
use Rattle.lines.proofs.write_refusal.Goals as goal

pub returns : goal.returns
returns c =
    let out = c.args.out.now in
    let why = number_of c.args.why in
    let t1 = digits 2 70 in
    let t2 = t1 ++ digits 2 why in
    let none = wrote_nothing out c.new-pen.result c.new-pen.ensures.out c.new-pen.ensures.at in
    let w1 = wrote_number out [] 2 c.from.result 70 c.new-pen.result c.put.new.self none c.from.ensures c.put.ensures.out c.put.ensures.at in
    let w2 = wrote_number out t1 2 c.from-3.result why c.put.new.self c.put-2.new.self w1 (c.from-3.ensures ∙ c.from-2.ensures) c.put-2.ensures.out c.put-2.ensures.at in
    let w3 = wrote_number out t2 8 c.from-4.result c.args.line c.put-2.new.self c.put-3.new.self w2 c.from-4.ensures c.put-3.ensures.out c.put-3.ensures.at in
    let all = written out (refusal_line c.args.why c.args.line) c.put-3.new.self w3 (omega arith) in
    search rules
