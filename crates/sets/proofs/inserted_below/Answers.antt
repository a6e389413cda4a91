use Rattle.std.proofs.Common.{◌≡◌, ℕ, ◌+◌, min, Bool, true, false, ◌&&◌, ◌||◌, eqb, ltb, sym, refl, ap, ◌∙◌, arith}
use Rattle.std.proofs.lemmas.Bool.{le-ltb, lt-ltb}
use Rattle.std.proofs.lemmas.Bool.Decides.{nat_tests}
use Rattle.sets.proofs.inserted_below.Goals as goal

and_yes : (b : Bool) → (b && true) ≡ b
and_yes true = refl
and_yes false = refl

one_more : (k e : ℕ) → (ltb k e || eqb k e) ≡ ltb k (e + 1)
one_more k e = grind (arith, nat_tests)

narrowed : (k n : ℕ) → ltb k (min n 64) ≡ (ltb k n && ltb k 64)
narrowed k n = grind (arith, nat_tests)

pub loop-e-init : goal.loop-e-init
loop-e-init c = λ k. c.empty-set.ensures k ∙ sym (le-ltb k 0 (omega arith))

pub loop-e-preserved : goal.loop-e-preserved
loop-e-preserved c = λ k.
    let e = c.loop-e.e in
    let low : ltb e 64 ≡ true = lt-ltb e 64 (omega (arith, c.loop-e-test.true, c.min-e-end.ensures)) in
    c.insert.ensures k ∙ ap (λ (b : Bool). b || (eqb k e && ltb e 64)) (c.loop-e.invariant k) ∙ one_more_below k e low
  where
    one_more_below : (k e : ℕ) → ltb e 64 ≡ true → (ltb k e || (eqb k e && ltb e 64)) ≡ ltb k (e + 1)
    one_more_below k e low = ap (λ (b : Bool). ltb k e || (eqb k e && b)) low ∙ ap (λ (b : Bool). ltb k e || b) (and_yes (eqb k e)) ∙ one_more k e

pub returns : goal.returns
returns c = λ k.
    let e : c.loop-e.e ≡ min c.args.n 64 = omega (arith, c.loop-e-test.false, c.loop-e.auto.e-end, c.min-e-end.ensures) in
    c.loop-e.invariant k ∙ ap (ltb k) e ∙ narrowed k c.args.n
