-- What a look for the next arc finds.
use Rattle.std.proofs.Common.{◌≡◌, ℕ, zero, suc, ◌+◌, ◌-◌, ◌<◌, ◌≤◌, Bool, true, false, ◌&&◌, ltb, [], ◌∷◌, refl, ap, ◌∙◌, add-zero, arith}
use Rattle.std.proofs.lemmas.Bool.{cond-true, cond-false, and_left, and_right, and_from, lt-ltb, le-ltb}
use Rattle.stores.specs.Pairs.{Smallest, NoneFrom}
use Rattle.tables.specs.Panel.{Panel, count}
use Rattle.tables.specs.Graph.{Graph, open_at}
use Rattle.reach.specs.Moved.{passing}
use Rattle.reach.specs.Arcs.{leads, arcs_from}

none_pass : (test : ℕ → Bool) (from k : ℕ) → ((j : ℕ) → from ≤ j → test j ≡ false) → passing test from k ≡ []
none_pass test from zero f = refl
none_pass test from (suc k) f =
    cond-false (test from) _ _ (f from (omega arith)) ∙ none_pass test (from + 1) k (λ j a. f j (omega arith))

none_pass_below : (test : ℕ → Bool) (from k : ℕ) → ((j : ℕ) → from ≤ j → j < from + k → test j ≡ false) → passing test from k ≡ []
none_pass_below test from zero f = refl
none_pass_below test from (suc k) f =
    cond-false (test from) _ _ (f from (omega arith) (omega arith)) ∙ none_pass_below test (from + 1) k (λ j a b. f j (omega arith) (omega arith))

first_pass : (test : ℕ → Bool) (d n : ℕ) → d < n → test d ≡ true → passing test d (n - d) ≡ d ∷ passing test (d + 1) (n - (d + 1))
first_pass test d n h e =
    let s : n - d ≡ suc (n - (d + 1)) = omega arith in
    ap (passing test d) s ∙ cond-true (test d) _ _ e

past : (test : ℕ → Bool) (from n : ℕ) → from < n → test from ≡ false → passing test from (n - from) ≡ passing test (from + 1) (n - (from + 1))
past test from n h e =
    let s : n - from ≡ suc (n - (from + 1)) = omega arith in
    ap (passing test from) s ∙ cond-false (test from) _ _ e

gap : (test : ℕ → Bool) (n g from : ℕ) → from + g ≤ n → ((j : ℕ) → from ≤ j → j < from + g → test j ≡ false) → passing test from (n - from) ≡ passing test (from + g) (n - (from + g))
gap test n zero from h f = simp add-zero
gap test n (suc g) from h f =
    let s : (from + 1) + g ≡ from + suc g = omega arith in
    past test from n (omega arith) (f from (omega arith) (omega arith)) ∙ gap test n g (from + 1) (omega arith) (λ j a b. f j (omega arith) (omega arith)) ∙ ap (λ k. passing test k (n - k)) s

upto : (test : ℕ → Bool) (n from d : ℕ) → from ≤ d → d ≤ n → ((j : ℕ) → from ≤ j → j < d → test j ≡ false) → passing test from (n - from) ≡ passing test d (n - d)
upto test n from d h l f =
    let s : from + (d - from) ≡ d = omega arith in
    gap test n (d - from) from (omega arith) (λ j a b. f j a (omega arith)) ∙ ap (λ k. passing test k (n - k)) s

module _ (p : Panel) (g : Graph) (x from : ℕ) where
  no_pair : (j : ℕ) → g.loads x j ≡ false → leads p g x j ≡ false
  no_pair j h = and_right (ltb x (count p)) (g.loads x j && open_at p g j) (and_left (g.loads x j) (open_at p g j) h)

  pub found : (d : ℕ) → x < count p → d < count p → Smallest (g.loads x) from d → open_at p g d ≡ true → arcs_from p g x from ≡ d ∷ arcs_from p g x (d + 1)
  found d i l s o =
      upto (leads p g x) (count p) from d s.0 (omega arith) (λ j a b. no_pair j (s.2 j a b))
      ∙ first_pass (leads p g x) d (count p) l (and_from (ltb x (count p)) (g.loads x d && open_at p g d) (lt-ltb x (count p) i) (and_from (g.loads x d) (open_at p g d) s.1 o))

  pub shut : (d : ℕ) → d < count p → Smallest (g.loads x) from d → open_at p g d ≡ false → arcs_from p g x from ≡ arcs_from p g x (d + 1)
  shut d l s o =
      upto (leads p g x) (count p) from d s.0 (omega arith) (λ j a b. no_pair j (s.2 j a b))
      ∙ past (leads p g x) d (count p) l (and_right (ltb x (count p)) (g.loads x d && open_at p g d) (and_right (g.loads x d) (open_at p g d) o))

  pub beyond : (d : ℕ) → count p ≤ d → Smallest (g.loads x) from d → arcs_from p g x from ≡ []
  beyond d l s = none_pass_below (leads p g x) from (count p - from) (λ j a b. no_pair j (s.2 j a (omega arith)))

  pub none : NoneFrom (g.loads x) from → arcs_from p g x from ≡ []
  none s = none_pass (leads p g x) from (count p - from) (λ j a. no_pair j (s j a))

  pub ended : count p ≤ from → arcs_from p g x from ≡ []
  ended h = let e : count p - from ≡ 0 = omega arith in ap (passing (leads p g x) from) e

  pub outside : count p ≤ x → arcs_from p g x from ≡ []
  outside h = none_pass (leads p g x) from (count p - from) (λ j a. and_left (ltb x (count p)) (g.loads x j && open_at p g j) (le-ltb x (count p) h))
