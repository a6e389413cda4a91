use Rattle.std.proofs.Common.{arith}
use Rattle.std.proofs.lemmas.Bool.{eqb-true, leb-true}
use Rattle.frames.specs.Text.{bytes_of}
use Rattle.frames.proofs.Letters.{lettered_as}
use Rattle.frames.proofs.Texts.{rest_draws}
use Rattle.frames.proofs.line.Line.fields.Goals as goal

pub options-requires : goal.options-requires
options-requires c =
    let h = lettered_as c.args.self.now.digits.now c.args.self.now.letter 71 c.args.self.now.known c.in-G.is in
    eqb-true _ 4 h.count

pub module-requires : goal.module-requires
module-requires c =
    let h = lettered_as c.args.self.now.digits.now c.args.self.now.letter 77 c.args.self.now.known c.in-M.is in
    leb-true 7 _ h.count

pub import_record-requires : goal.import_record-requires
import_record-requires c =
    let h = lettered_as c.args.self.now.digits.now c.args.self.now.letter 82 c.args.self.now.known c.in-R.is in
    eqb-true _ 4 h.count

pub module_at-requires : goal.module_at-requires
module_at-requires c =
    let h = lettered_as c.args.self.now.digits.now c.args.self.now.letter 83 c.args.self.now.known c.in-S.is in
    omega (arith, eqb-true _ 3 h.count)

pub entry-requires : goal.entry-requires
entry-requires c =
    let h = lettered_as c.args.self.now.digits.now c.args.self.now.letter 69 c.args.self.now.known c.in-E.is in
    eqb-true _ 4 h.count

pub module_at-requires-in-L : goal.module_at-requires-in-L
module_at-requires-in-L c =
    let h = lettered_as c.args.self.now.digits.now c.args.self.now.letter 76 c.args.self.now.known c.in-L.is in
    omega (arith, eqb-true _ 5 h.count)

pub module_at-requires-in-L-2 : goal.module_at-requires-in-L-2
module_at-requires-in-L-2 c =
    let h = lettered_as c.args.self.now.digits.now c.args.self.now.letter 76 c.args.self.now.known c.in-L.is in
    omega (arith, eqb-true _ 5 h.count)

pub module_at-requires-in-U : goal.module_at-requires-in-U
module_at-requires-in-U c =
    let h = lettered_as c.args.self.now.digits.now c.args.self.now.letter 85 c.args.self.now.known c.in-U.is in
    omega (arith, eqb-true _ 5 h.count)

pub module_at-requires-in-U-2 : goal.module_at-requires-in-U-2
module_at-requires-in-U-2 c =
    let h = lettered_as c.args.self.now.digits.now c.args.self.now.letter 85 c.args.self.now.known c.in-U.is in
    omega (arith, eqb-true _ 5 h.count)

pub module_at-requires-in-I : goal.module_at-requires-in-I
module_at-requires-in-I c =
    let h = lettered_as c.args.self.now.digits.now c.args.self.now.letter 73 c.args.self.now.known c.in-I.is in
    omega (arith, eqb-true _ 3 h.count)

pub module_at-requires-in-X : goal.module_at-requires-in-X
module_at-requires-in-X c =
    let h = lettered_as c.args.self.now.digits.now c.args.self.now.letter 88 c.args.self.now.known c.in-X.is in
    omega (arith, eqb-true _ 3 h.count)

pub returns-in_default : goal.returns-in_default
returns-in_default c =
    rest_draws c.args.self.now.letter c.args.self.now.digits.now (bytes_of c.args.self.now.digits.now) (omega arith) (omega arith) (omega arith) (omega arith) (omega arith) (omega arith) (omega arith) (omega arith) (omega arith)
