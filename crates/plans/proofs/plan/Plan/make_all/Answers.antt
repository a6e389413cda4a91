use Rattle.std.proofs.Common.{◌≡◌, ℕ, ◌+◌, ◌<◌, List, [], ◌∷◌, ◌++◌, map, reverse, length, get_or, take, Ok, Err, Result, sym, refl, ap, ◌∙◌, subst, take_all}
use mathlib.Core.List.{reverse-cons}
use Rattle.std.proofs.lemmas.List.{map_push, take_more}
use Rattle.tables.specs.declared.refusal.Refusal.{Refusal}
use Rattle.reach.specs.Data.{names_in}
use Rattle.plans.specs.declared.plan.Edit.{Edit}
use Rattle.plans.specs.declared.plan.Plan.{Plan}
use Rattle.plans.specs.Accounts.{Accounts}
use Rattle.plans.specs.Book.{Call, linking, unlinking, including, excluding, Event, History, event_of}
use Rattle.plans.specs.Runs.{Asked, call_for, call_in}
use Rattle.plans.proofs.plan.Plan.make_all.Goals as goal

called : (c : Call) (r : Result ℕ Refusal) (names : List ℕ) → call_in (event_of c r names) ≡ c
called c (Ok k) names = refl
called c (Err why) names = refl

asked_more : (edits : List Edit) (i : ℕ) (y x : Edit) (t : History) (r : Result ℕ Refusal) (names : List ℕ) → i < length edits → get_or edits i y ≡ x → Asked (take i edits) t → Asked (take (i + 1) edits) (event_of (call_for x) r names ∷ t)
asked_more edits i y x t r names within read asked =
    let e = event_of (call_for x) r names in
    ap (map call_in) (reverse-cons e t)
    ∙ map_push call_in (reverse t) e
    ∙ ap (λ (l : List Call). l ++ call_in e ∷ []) asked
    ∙ ap (λ (c : Call). map call_for (take i edits) ++ c ∷ []) (called (call_for x) r names)
    ∙ sym (ap (map call_for) (take_more edits i y within ∙ ap (λ (z : Edit). take i edits ++ z ∷ []) read) ∙ map_push call_for (take i edits) x)

pub loop-e-preserved : goal.loop-e-preserved
loop-e-preserved g c p q h st =
    let before = c.loop-e.invariant p q h st in
    let s = g.S.DependencyStore in
    let x = get_or c.args.edits.now c.loop-e.e-index _ in
    let names = names_in c.edit.new.self.«data» in
    let e = event_of (call_for x) c.edit.result names in
    (e ∷ before.0, (asked_more c.args.edits.now c.loop-e.e-index _ _ before.0 c.edit.result names c.loop-e-test.true refl before.1.0, c.edit.ensures.lawful p q (before.0 ++ h) before.1.1))

pub returns : goal.returns
returns g c p q h st =
    let before = c.loop-e.invariant p q h st in
    (before.0, (subst (λ (xs : List Edit). Asked xs before.0) (take_all _ _ c.loop-e-test.false) before.1.0, before.1.1))
