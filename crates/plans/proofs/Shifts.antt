-- What an edit does to paths, and which sets differ after it.
use Rattle.std.proofs.Common.{◌≡◌, ℕ, ◌<◌, ◌≤◌, Bool, true, false, not, ◌&&◌, eqb, ltb, ◌⊎◌, length, sym, refl, ap, ◌∙◌, subst, inl, inr, ⊎_elim, arith}
use Rattle.std.proofs.lemmas.Bool.{both_ways, cases_eq, cases_lt, ne_eqb, cond-false, and_right}
use Rattle.tables.specs.Panel.{Panel, count, external}
use Rattle.tables.specs.Graph.{Graph, open_at, Path, start, Reaches}
use Rattle.tables.specs.Graph.Path.{here, on}
use Rattle.reach.specs.Exact.{Exact, Anew}
use Rattle.reach.specs.Moved.{unlike, differs}
use Rattle.exports.proofs.Below.{some_at, some_since}
use Rattle.reach.proofs.Passes.{unlike_cases, unlike_from, unlike_back}
use Rattle.reach.proofs.Ways.{ends_open, open_below}
use Rattle.plans.specs.Book.{Call, linking, unlinking, including, excluding, target, edited}
use Rattle.plans.specs.Lawful.{Moves}

-- two graphs that differ at most in pairs to t and in the mark of t
pub record Alike (t : ℕ) (g g' : Graph) : Type 0 where
  pub loads : (x y : ℕ) → (y ≡ t) ⊎ (g.loads x y ≡ g'.loads x y)
  pub included : (x : ℕ) → (x ≡ t) ⊎ (g.included x ≡ g'.included x)

turned : {t : ℕ} {g g' : Graph} → Alike t g g' → Alike t g' g
turned a = record {
  loads = λ x y. ⊎_elim inl (λ e. inr (sym e)) (a.loads x y);
  included = λ x. ⊎_elim inl (λ e. inr (sym e)) (a.included x);
}

alike : (c : Call) (g : Graph) → Alike (target c) g (edited c g)
alike (linking m d) g = record {
  loads = λ x y. ⊎_elim inl (λ q. inr (sym (cond-false (eqb x m && eqb y d) true (g.loads x y) (and_right (eqb x m) (eqb y d) (ne_eqb y d q))))) (cases_eq y d);
  included = λ x. inr refl;
}
alike (unlinking m d) g = record {
  loads = λ x y. ⊎_elim inl (λ q. inr (sym (cond-false (eqb x m && eqb y d) false (g.loads x y) (and_right (eqb x m) (eqb y d) (ne_eqb y d q))))) (cases_eq y d);
  included = λ x. inr refl;
}
alike (including m) g = record {
  loads = λ x y. inr refl;
  included = λ x. ⊎_elim inl (λ q. inr (sym (cond-false (eqb x m) true (g.included x) (ne_eqb x m q)))) (cases_eq x m);
}
alike (excluding m) g = record {
  loads = λ x y. inr refl;
  included = λ x. ⊎_elim inl (λ q. inr (sym (cond-false (eqb x m) false (g.included x) (ne_eqb x m q)))) (cases_eq x m);
}

module _ (p : Panel) where
  pub open_same : (g g' : Graph) (x : ℕ) → g.included x ≡ g'.included x → open_at p g x ≡ open_at p g' x
  open_same g g' x e = ap (λ b. ltb x (count p) && (not (external p x) && b)) e

  -- a path was there before, or one leads from t to its end
  led : (t : ℕ) (g g' : Graph) → Alike t g g' → {x y : ℕ} → Path p g' x y → Path p g x y ⊎ Path p g' t y
  led t g g' a (here {x} o) = ⊎_elim
      (λ q. inr (subst (λ k. Path p g' k x) q (here o)))
      (λ e. inl (here (open_same g g' x e ∙ o)))
      (a.included x)
  led t g g' a (on {x} {y} {z} o e w) = ⊎_elim
      (λ q. inr (subst (λ k. Path p g' k z) q (on o e w)))
      (λ s. ⊎_elim
      (λ q. inr (subst (λ k. Path p g' k z) q w))
      (λ r. ⊎_elim (λ v. inl (on (open_same g g' x s ∙ o) (r ∙ e) v)) inr (led t g g' a w))
      (a.loads x y))
      (a.included x)

-- what an edit moves is reached from its target before or after
pub reached_from : (p : Panel) (c : Call) (g : Graph) (y : ℕ) → Moves p g (edited c g) y → Path p g (target c) y ⊎ Path p (edited c g) (target c) y
reached_from p c g y m = ⊎_elim
    (λ h. ⊎_elim (λ w. absurd (h.1 (h.0.0, w))) inl (led p (target c) (edited c g) g (turned (alike c g)) h.0.1))
    (λ h. ⊎_elim (λ w. absurd (h.1 (h.0.0, w))) inr (led p (target c) g (edited c g) (alike c g) h.0.1))
    m.1

module _ (p : Panel) (before after : Graph) (old new : ℕ → ℕ → Bool) (eo : Exact p before old) (en : Exact p after new) where
  pub moved_only : (n y : ℕ) → differs n old new y ≡ true → Moves p before after y
  moved_only n y d =
      let r = some_at (λ e. unlike (old y e) (new y e)) n d in
      let e = r.0 in (
        e,
        ⊎_elim
            (λ h. inl (eo.only e y h.0, λ w. both_ways (new y e) h.1 (en.all e y w)))
            (λ h. inr (en.only e y h.1, λ w. both_ways (old y e) h.0 (eo.all e y w)))
            (unlike_cases (old y e) (new y e) r.2),
      )

  no_bit : (sets : ℕ → ℕ → Bool) (g : Graph) → Exact p g sets → (e y : ℕ) → (Reaches p g e y → ⊥) → sets y e ≡ false
  no_bit sets g ex e y n = elim (sets y e) as (λ b. sets y e ≡ b → b ≡ false) [ true ↦ λ q. absurd (n (ex.only e y q)) | false ↦ λ q. refl ] refl

  pub moved_all : (y : ℕ) → Moves p before after y → (differs (length p.entries) old new y ≡ true) × (y < count p)
  moved_all y m =
      let e = m.0 in
      ⊎_elim
      (λ h. (
        some_since (λ k. unlike (old y k) (new y k)) (length p.entries) e h.0.0 (unlike_from (old y e) (new y e) (eo.all e y h.0) (no_bit new after en e y h.1)),
        open_below p before y (ends_open p before h.0.1),
      ))
      (λ h. (
        some_since (λ k. unlike (old y k) (new y k)) (length p.entries) e h.0.0 (unlike_back (old y e) (new y e) (no_bit old before eo e y h.1) (en.all e y h.0)),
        open_below p after y (ends_open p after h.0.1),
      ))
      m.1

-- where the entries that are not concerned reach the same modules before and after, sets that were exact are exact again
pub exact_again : (p : Panel) (before after : Graph) (concern : ℕ → Bool) (old new : ℕ → ℕ → Bool)
    → ((e : ℕ) → e < length p.entries → concern e ≡ false → (y : ℕ) → (Path p before (start p e) y → Path p after (start p e) y) × (Path p after (start p e) y → Path p before (start p e) y))
    → Exact p before old → Anew (length p.entries) p after concern old new → Exact p after new
exact_again p before after concern old new spared eo a = record {
  only = λ e y h. ⊎_elim
      (λ (l : e < length p.entries). elim (concern e) as (λ b. concern e ≡ b → Reaches p after e y) [
        | true ↦ λ q. (l, a.only e y l q h)
        | false ↦ λ q. (l, (spared e l q y).0 (eo.only e y (sym (a.others e y (inr q)) ∙ h)).1)
      ] refl)
      (λ (l : length p.entries ≤ e). absurd (not_both e (eo.only e y (sym (a.others e y (inl l)) ∙ h)).0 l))
      (cases_lt e (length p.entries));
  all = λ e y r. elim (concern e) as (λ b. concern e ≡ b → new y e ≡ true) [
    | true ↦ λ q. a.all e y r.0 q r.1
    | false ↦ λ q. a.others e y (inr q) ∙ eo.all e y (r.0, (spared e r.0 q y).1 r.1)
  ] refl;
}
  where
    not_both : (e : ℕ) → e < length p.entries → length p.entries ≤ e → ⊥
    not_both e a b = omega arith
