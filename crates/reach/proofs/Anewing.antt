-- Entry by entry, the sets tell the paths of the graph.
use Rattle.std.proofs.Common.{◌≡◌, ℕ, ◌+◌, ◌<◌, ◌≤◌, Bool, true, false, cond, ◌&&◌, eqb, ltb, List, map, length, get_or, sym, refl, ap, ◌∙◌, subst, inl, inr, ⊎_elim, arith}
use Rattle.std.proofs.lemmas.List.{get_or-map, length-map}
use Rattle.std.proofs.lemmas.Bool.{both_ways, cases_lt, cases_eq, cond-true, cond-false, and_left, and_right, and_from, eq-eqb, ne_eqb, lt-ltb, le-ltb}
use Rattle.tables.specs.Panel.{Panel, PanelEntry}
use Rattle.tables.specs.Graph.{Graph, Path, start}
use Rattle.tables.specs.View.{entry_of}
use Rattle.tables.specs.declared.module.EntryPoint.{EntryPoint}
use Rattle.reach.specs.Exact.{Told, Anew}

module _ (p : Panel) (g : Graph) (concern : ℕ → Bool) (k : ℕ) (old mid : ℕ → ℕ → Bool) (before : Anew k p g concern old mid) where
  -- an entry that is not concerned
  pub anew_passed : concern k ≡ false → Anew (k + 1) p g concern old mid
  anew_passed c = record {
    only = λ e y l h. ⊎_elim (λ (q : e ≡ k). absurd (both_ways (concern e) (ap concern q ∙ c) h)) (λ (q : e ≡ k → ⊥). before.only e y (omega arith) h) (cases_eq e k);
    all = λ e y l h. ⊎_elim (λ (q : e ≡ k). absurd (both_ways (concern e) (ap concern q ∙ c) h)) (λ (q : e ≡ k → ⊥). before.all e y (omega arith) h) (cases_eq e k);
    others = λ e y h. before.others e y (⊎_elim (λ l. inl (omega arith)) inr h);
  }

  -- an entry that is, with a walk from its module
  module _ (x n : ℕ) (marks : ℕ → Bool) (new : ℕ → ℕ → Bool) (c : concern k ≡ true) (at : start p k ≡ x) (told : Told p g x marks)
      (put : (y e : ℕ) → new y e ≡ cond (eqb e k && ltb y n) (marks y) (mid y e))
      (inside : (y : ℕ) → Path p g x y → y < n) (outside : (y : ℕ) → n ≤ y → mid y k ≡ false) where
    other : (e y : ℕ) → (e ≡ k → ⊥) → new y e ≡ mid y e
    other e y q = put y e ∙ cond-false (eqb e k && ltb y n) (marks y) (mid y e) (and_left (eqb e k) (ltb y n) (ne_eqb e k q))

    here : (y : ℕ) → y < n → new y k ≡ marks y
    here y l = put y k ∙ cond-true (eqb k k && ltb y n) (marks y) (mid y k) (and_from (eqb k k) (ltb y n) (eq-eqb k k refl) (lt-ltb y n l))

    beyond : (y : ℕ) → n ≤ y → new y k ≡ false
    beyond y l = put y k ∙ cond-false (eqb k k && ltb y n) (marks y) (mid y k) (and_right (eqb k k) (ltb y n) (le-ltb y n l)) ∙ outside y l

    only_here : (y : ℕ) → new y k ≡ true → Path p g (start p k) y
    only_here y h = subst (λ z. Path p g z y) (sym at)
        (⊎_elim (λ (l : y < n). told.only y (sym (here y l) ∙ h)) (λ (l : n ≤ y). absurd (both_ways (new y k) (beyond y l) h)) (cases_lt y n))

    all_here : (y : ℕ) → Path p g (start p k) y → new y k ≡ true
    all_here y w = let v : Path p g x y = subst (λ z. Path p g z y) at w in here y (inside y v) ∙ told.all y v

    pub anew_more : Anew (k + 1) p g concern old new
    anew_more = record {
      only = λ e y l h b. ⊎_elim
          (λ (q : e ≡ k). subst (λ i. Path p g (start p i) y) (sym q) (only_here y (subst (λ i. new y i ≡ true) q b)))
          (λ (q : e ≡ k → ⊥). before.only e y (omega arith) h (sym (other e y q) ∙ b))
          (cases_eq e k);
      all = λ e y l h w. ⊎_elim
          (λ (q : e ≡ k). subst (λ i. new y i ≡ true) (sym q) (all_here y (subst (λ i. Path p g (start p i) y) q w)))
          (λ (q : e ≡ k → ⊥). other e y q ∙ before.all e y (omega arith) h w)
          (cases_eq e k);
      others = λ e y h. ⊎_elim
          (λ (q : e ≡ k). ⊎_elim (λ (l : k + 1 ≤ e). let z : ⊥ = omega arith in absurd z) (λ f. absurd (both_ways (concern e) f (ap concern q ∙ c))) h)
          (λ (q : e ≡ k → ⊥). other e y q ∙ before.others e y (⊎_elim (λ (l : k + 1 ≤ e). inl (omega arith)) inr h))
          (cases_eq e k);
    }

-- the module of an entry, as the table has it
pub start_at : (entries : List EntryPoint) (e : ℕ) (d : EntryPoint) {es : List EntryPoint} → e < length entries → es ≡ entries → get_or (map (λ (z : PanelEntry). z.start) (map entry_of entries)) e 0 ≡ (get_or es e d).«module».0
start_at entries e d l same =
    get_or-map (λ (z : PanelEntry). z.start) (map entry_of entries) e (entry_of d) 0 (omega (arith, length-map entries entry_of))
    ∙ ap (λ (z : PanelEntry). z.start) (get_or-map entry_of entries e d (entry_of d) l ∙ ap (λ (es : List EntryPoint). entry_of (get_or es e d)) (sym same))
