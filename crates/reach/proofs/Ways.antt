-- Paths of a panel, and paths along its arcs.
use Rattle.std.proofs.Common.{◌≡◌, ℕ, zero, suc, ◌+◌, ◌-◌, ◌<◌, ◌≤◌, Bool, true, false, not, ◌&&◌, ltb, List, [], ◌∷◌, Some, None, Option, sym, refl, subst, ⊎_elim, arith}
use Rattle.std.proofs.lemmas.Bool.{both_ways, and_parts, and_from, ltb-true, lt-ltb, cond_both, cases_eq}
use Rattle.walks.specs.declared.walker.Walker.{Walker}
use Rattle.walks.specs.Walks.{has, Tour}
use Rattle.walks.specs.Walks as walks
use Rattle.walks.specs.Walks.Path.{here as stay, step}
use Rattle.walks.specs.Walkers.{size_of, taken_by, Fit, Walked}
use Rattle.walks.proofs.Reach.{has_head, has_tail, has_cases}
use Rattle.tables.specs.Panel.{Panel, count, external}
use Rattle.tables.specs.Graph.{Graph, open_at, Path}
use Rattle.tables.specs.Graph.Path.{here, on}
use Rattle.reach.specs.Moved.{passing}
use Rattle.reach.specs.Arcs.{leads, arcs_from}
use Rattle.reach.specs.Exact.{Told}

-- what passes, and what is passed

pub passes : (test : ℕ → Bool) (from k y : ℕ) → has (passing test from k) y ≡ true → test y ≡ true
passes test from zero y = λ h. absurd (both_ways false refl h)
passes test from (suc k) y =
    cond_both (test from) (from ∷ passing test (from + 1) k) (passing test (from + 1) k) (λ l. has l y ≡ true → test y ≡ true)
    (λ e h. ⊎_elim (λ q. subst (λ z. test z ≡ true) q e) (passes test (from + 1) k y) (has_cases from (passing test (from + 1) k) y h))
    (λ e. passes test (from + 1) k y)

pub holds : (test : ℕ → Bool) (from k y : ℕ) → from ≤ y → y < from + k → test y ≡ true → has (passing test from k) y ≡ true
holds test from zero y a b e = let z : ⊥ = omega arith in absurd z
holds test from (suc k) y a b e =
    cond_both (test from) (from ∷ passing test (from + 1) k) (passing test (from + 1) k) (λ l. has l y ≡ true)
    (λ f. ⊎_elim
    (λ q. subst (λ z. has (from ∷ passing test (from + 1) k) z ≡ true) q (has_head from (passing test (from + 1) k)))
    (λ q. has_tail from (passing test (from + 1) k) y (holds test (from + 1) k y (omega arith) (omega arith) e))
    (cases_eq from y))
    (λ f. ⊎_elim
    (λ q. absurd (both_ways (test y) (subst (λ z. test z ≡ false) q f) e))
    (λ q. holds test (from + 1) k y (omega arith) (omega arith) e)
    (cases_eq from y))

module _ (p : Panel) (g : Graph) where
  pub starts_open : {x y : ℕ} → Path p g x y → open_at p g x ≡ true
  starts_open (here o) = o
  starts_open (on o e w) = o

  pub ends_open : {x y : ℕ} → Path p g x y → open_at p g y ≡ true
  ends_open (here o) = o
  ends_open (on o e w) = ends_open w

  pub open_below : (x : ℕ) → open_at p g x ≡ true → x < count p
  open_below x o = ltb-true x (count p) (and_parts (ltb x (count p)) (not (external p x) && g.included x) o).0

  -- a path with one module more at its end
  pub further : {x y z : ℕ} → Path p g x y → g.loads y z ≡ true → open_at p g z ≡ true → Path p g x z
  further (here o) l z = on o l (here z)
  further (on o e w) l z = on o e (further w l z)

  -- what holds at the first module and carries over each step holds at the last
  pub carry : (P : ℕ → Type 0) (x : ℕ) → (open_at p g x ≡ true → P x) → ((y z : ℕ) → Path p g x y → P y → g.loads y z ≡ true → open_at p g z ≡ true → P z) → {z : ℕ} → Path p g x z → P z
  carry P x first more w = go (here (starts_open w)) (first (starts_open w)) w
    where
      go : {y z : ℕ} → Path p g x y → P y → Path p g y z → P z
      go before q (here o) = q
      go {y} before q (on {y = m} o l v) = go (further before l (starts_open v)) (more y m before q l (starts_open v)) v

  along : {x y : ℕ} → walks.Path (λ z. arcs_from p g z 0) x y → open_at p g x ≡ true → Path p g x y
  along stay o = here o
  along (step {x} {y} e w) o =
      let q = and_parts (ltb x (count p)) (g.loads x y && open_at p g y) (passes (leads p g x) 0 (count p - 0) y e) in
      let r = and_parts (g.loads x y) (open_at p g y) q.1 in
      on o r.0 (along w r.1)

  back : {x y : ℕ} → Path p g x y → walks.Path (λ z. arcs_from p g z 0) x y
  back (here o) = stay
  back (on {x} {y} o e w) =
      let l : y < count p = open_below y (starts_open w) in
      let i : x < count p = open_below x o in
      step (holds (leads p g x) 0 (count p - 0) y (omega arith) (omega arith) (and_from (ltb x (count p)) (g.loads x y && open_at p g y) (lt-ltb x (count p) i) (and_from (g.loads x y) (open_at p g y) e (starts_open w)))) (back w)

  pub from_tour : (x : ℕ) (taken : List ℕ) → open_at p g x ≡ true → Tour (λ z. arcs_from p g z 0) (x ∷ []) taken → Told p g x (has taken)
  from_tour x taken o t = record {
    only = λ y h.
        let r = t.reached y h in
        ⊎_elim (λ q. along (subst (λ z. walks.Path (λ z. arcs_from p g z 0) z y) (sym q) r.2) o) (λ e. absurd (both_ways false refl e)) (has_cases x [] r.0 r.1);
    all = λ y w. t.reaches y (x, has_head x [], back w);
  }

-- a walk that fits is made
walked : (n : ℕ) (arcs : ℕ → List ℕ) (roots : List ℕ) (before after : Walker) (r : Option ℕ) → Walked n arcs roots before after r → Fit n roots (size_of before) → Tour arcs roots (taken_by after)
walked n arcs roots before after None w f = absurd (w.0 f)
walked n arcs roots before after (Some k) w f = w.2

module _ (p : Panel) (g : Graph) (x : ℕ) (before after : Walker) (r : Option ℕ) (sized : size_of before ≡ count p) where
  pub told_open : {root : ℕ} → open_at p g x ≡ true → root ≡ x → Walked (count p) (λ z. arcs_from p g z 0) (root ∷ []) before after r → Told p g x (has (taken_by after))
  told_open o e w = from_tour p g x (taken_by after) o
      (walked (count p) (λ z. arcs_from p g z 0) (x ∷ []) before after r (subst (λ y. Walked (count p) (λ z. arcs_from p g z 0) (y ∷ []) before after r) e w) (record { in_range = (open_below p g x o, tt); sized = sized }))
