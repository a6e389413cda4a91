use Rattle.std.proofs.Common.{◌≡◌, length, sym, ap, ◌∙◌, arith, rules, tests}
use Rattle.std.specs.List.{list_any, range_with_len}
use Rattle.std.proofs.lemmas.List.{length-map}
use Rattle.std.proofs.lemmas.Iterator.{YieldsList-from_range}
use Rattle.std.proofs.lemmas.Iterator.Search.{any_from_yields_List}
use Rattle.exports.specs.Check.{apart_at}
use Rattle.exports.proofs.Checks.{of_entries}
use Rattle.exports.proofs.check.any_apart.Goals as goal

pub returns : goal.returns
returns c =
    let es = c.args.entries.now in
    let by_entries : c.any.result ≡ list_any (apart_at (of_entries es)) (range_with_len 0 (length es)) = any_from_yields_List (apart_at (of_entries es)) _ _ c.any.result c.any.ensures.ran (YieldsList-from_range 0 (length es) (length es) (search rules) (omega arith)) (λ x b q k. search (rules, tests)) in
    by_entries ∙ ap (λ n. list_any (apart_at (of_entries es)) (range_with_len 0 n)) (sym (length-map es _))
