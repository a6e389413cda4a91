use Rattle.std.proofs.Common.{true, false, sym, refl, ◌∙◌, rules}
use Rattle.std.proofs.lemmas.Bool.{eq-eqb, ne_eqb}
use Rattle.exports.proofs.Checks.{verdict_by}
use Rattle.tables.specs.View.{panel_of}
use Rattle.exports.proofs.Judging.{judged_by}
use Rattle.exports.proofs.check.judge.Goals as goal

pub returns-then-len-eq0 : goal.returns-then-len-eq0
returns-then-len-eq0 c =
    let e = verdict_by c.args.table.now true _ _ _ (eq-eqb _ 0 (sym c.len.ensures ∙ c.if-len-eq0.true)) refl refl refl in
    record { verdict = e; judged = judged_by (panel_of c.args.table.now) _ e }

pub returns-then-names_beyond : goal.returns-then-names_beyond
returns-then-names_beyond c =
    let e = verdict_by c.args.table.now false true _ _ (ne_eqb _ 0 (λ e. c.if-len-eq0.false (c.len.ensures ∙ e))) (sym c.if-names_beyond.ensures) refl refl in
    record { verdict = e; judged = judged_by (panel_of c.args.table.now) _ e }

pub returns-then-is_external : goal.returns-then-is_external
returns-then-is_external c =
    let e = verdict_by c.args.table.now false false true _ (ne_eqb _ 0 (λ e. c.if-len-eq0.false (c.len.ensures ∙ e))) (sym c.if-names_beyond.ensures) (sym c.if-is_external.ensures) refl in
    record { verdict = e; judged = judged_by (panel_of c.args.table.now) _ e }

pub returns-then-any_apart : goal.returns-then-any_apart
returns-then-any_apart c =
    let e = verdict_by c.args.table.now false false false true (ne_eqb _ 0 (λ e. c.if-len-eq0.false (c.len.ensures ∙ e))) (sym c.if-names_beyond.ensures) (sym c.if-is_external.ensures) (search rules) in
    record { verdict = e; judged = judged_by (panel_of c.args.table.now) _ e }

pub returns : goal.returns
returns c =
    let e = verdict_by c.args.table.now false false false false (ne_eqb _ 0 (λ e. c.if-len-eq0.false (c.len.ensures ∙ e))) (sym c.if-names_beyond.ensures) (sym c.if-is_external.ensures) (search rules) in
    record { verdict = e; judged = judged_by (panel_of c.args.table.now) _ e }
