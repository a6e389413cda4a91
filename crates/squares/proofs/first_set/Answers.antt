use Rattle.std.proofs.Common.{◌≡◌, ◌/◌, ◌%◌, ◌^◌, ◌<◌, ◌≤◌, length, get_or, sym, ap, ◌∙◌, subst, arith, rules}
use Rattle.std.specs.Option.{MatchOption}
use Rattle.stores.specs.Pairs.{below, NoneFrom, Smallest}
use Rattle.stores.proofs.Below.{none_below, first_below}
use Rattle.squares.specs.Square.{bits_in}
use Rattle.squares.proofs.Words.{none_in_word, none_past, first_is, none_before, none_on, before_both}
use Rattle.squares.proofs.first_set.Goals as goal

pub returns-in_err-left : goal.returns-in_err-left
returns-in_err-left c =
    let row = c.args.row.now in
    let past : length row ≤ c.loop-d.d / 64 = search rules in
    let none = none_on (bits_in row) c.args.from c.loop-d.d c.args.size c.loop-d.invariant.1 (λ k l. none_past row c.loop-d.d k past l) in
    subst (λ o. MatchOption o (NoneFrom (below c.args.size (bits_in row)) c.args.from) (λ d. (d < c.args.size) × Smallest (below c.args.size (bits_in row)) c.args.from d)) (sym c.from_residual.ensures) none

pub loop-d-preserved : goal.loop-d-preserved
loop-d-preserved c =
    let row = c.args.row.now in
    let d = c.loop-d.d in
    let word : get_or row (d / 64) 0 ≡ c.in_ok-left.field-0.now = search rules in (
      omega (arith, c.loop-d.invariant.0),
      before_both (bits_in row) c.args.from d _ c.loop-d.invariant.1 (λ k l h. none_in_word row d k (ap (λ w. w / 2 ^ (d % 64)) word ∙ c.if-left-ne0.false) l h),
    )

pub returns-then-first-size : goal.returns-then-first-size
returns-then-first-size c =
    let row = c.args.row.now in
    let d = c.loop-d.d in
    let left = c.in_ok-left.field-0.now / 2 ^ (d % 64) in
    let word : get_or row (d / 64) 0 ≡ c.in_ok-left.field-0.now = search rules in
    let fits : get_or row (d / 64) 0 < 2 ^ 64 = omega (arith, c.type_inv.row (d / 64)) in
    let is : left ≡ get_or row (d / 64) 0 / 2 ^ (d % 64) = ap (λ w. w / 2 ^ (d % 64)) (sym word) in
    let some : 0 < left = omega (arith, c.if-left-ne0.true) in
    let here = first_is row d left fits is some in
    let early = before_both (bits_in row) c.args.from d _ c.loop-d.invariant.1 (none_before row d left fits is some) in
    (c.if-first-size.true, first_below c.args.size (bits_in row) c.args.from _ (omega (arith, c.loop-d.invariant.0)) c.if-first-size.true here early)

pub returns-else-first-size : goal.returns-else-first-size
returns-else-first-size c =
    let row = c.args.row.now in
    let d = c.loop-d.d in
    let left = c.in_ok-left.field-0.now / 2 ^ (d % 64) in
    let word : get_or row (d / 64) 0 ≡ c.in_ok-left.field-0.now = search rules in
    let fits : get_or row (d / 64) 0 < 2 ^ 64 = omega (arith, c.type_inv.row (d / 64)) in
    let is : left ≡ get_or row (d / 64) 0 / 2 ^ (d % 64) = ap (λ w. w / 2 ^ (d % 64)) (sym word) in
    let some : 0 < left = omega (arith, c.if-left-ne0.true) in
    let early = before_both (bits_in row) c.args.from d _ c.loop-d.invariant.1 (none_before row d left fits is some) in
    none_below c.args.size (bits_in row) c.args.from (λ k l h. early k l (omega (arith, c.if-first-size.false)))
