use Rattle.std.proofs.Common.{◌≤◌, length, vec_items, ◌∙◌, arith}
use Rattle.panels.proofs.Holding.{held_more, held_full}
use Rattle.panels.proofs.line.LineBuffer.hold.Goals as goal

pub returns-then-len-le-LINE_LIMIT : goal.returns-then-len-le-LINE_LIMIT
returns-then-len-le-LINE_LIMIT c line h =
    let few : length (vec_items c.args.self.now.bytes) ≤ 512 = omega (arith, c.len.ensures, c.args.self.now.bytes.ok.0) in
    c.push_reserved.ensures.items ∙ held_more (vec_items c.args.self.now.bytes) line c.args.byte h few

pub returns-else-len-le-LINE_LIMIT : goal.returns-else-len-le-LINE_LIMIT
returns-else-len-le-LINE_LIMIT c line h =
    let full : 513 ≤ length (vec_items c.args.self.now.bytes) = omega (arith, c.len.ensures, c.args.self.now.bytes.ok.0) in
    held_full (vec_items c.args.self.now.bytes) line c.args.byte h full
