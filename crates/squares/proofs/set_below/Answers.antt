use Rattle.std.proofs.Common.{◌∙◌, arith, rules}
use Rattle.std.proofs.lemmas.Iterator.{YieldsList-from_range}
use Rattle.std.proofs.lemmas.Iterator.Consumers.{count_from_yields_List, YieldsList-from_filter}
use Rattle.std.proofs.lemmas.List.Sums.{length-filter}
use Rattle.std.specs.List.{range_with_len}
use Rattle.squares.specs.Square.{bits_in}
use Rattle.squares.proofs.Bits.{degree_counted}
use Rattle.squares.proofs.set_below.Goals as goal

pub returns : goal.returns
returns c =
    let row = bits_in c.args.row.now in
    count_from_yields_List c.filter.result _ c.count.ensures.ran (YieldsList-from_filter _ row (YieldsList-from_range 0 c.args.size c.args.size (cc) (omega arith)) c.filter.ensures.closure (λ x r q k. search (rules)))
    ∙ length-filter row (range_with_len 0 c.args.size)
    ∙ degree_counted row c.args.size
