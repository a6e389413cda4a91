use Rattle.std.proofs.Common.{◌≡◌, eqb, take, ◌∙◌, rules}
use Rattle.std.specs.List.{list_any}
use Rattle.exports.proofs.Checks.{at_entry, beside, elsewhere}
use Rattle.exports.proofs.check.is_apart.Goals as goal

pub returns-then-eq : goal.returns-then-eq
returns-then-eq c = beside c.args.entries.now c.args.e c.requires (search rules)

pub returns : goal.returns
returns c =
    let es = c.args.entries.now in
    let earlier : c.any_of.result ≡ list_any (λ x. eqb x.«module».0 (at_entry es c.args.e)) (take c.args.e es) = search rules in
    earlier ∙ elsewhere es c.args.e c.requires (search rules)
