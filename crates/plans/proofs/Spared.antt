-- Entries that an edit cannot concern reach the same modules before and after it.
use Rattle.std.proofs.Common.{◌≡◌, ℕ, Bool, true, false, not, ◌&&◌, eqb, ltb, ◌⊎◌, sym, ap, ◌∙◌, subst, inl, inr, ⊎_elim}
use Rattle.std.proofs.lemmas.Bool.{both_ways, cases_Bool, cases_eq, eqb-true, eq-eqb, ne_eqb, cond-true, cond-false, and_parts, and_from}
use Rattle.stores.specs.Pairs.{changed}
use Rattle.tables.specs.Panel.{Panel, count, external}
use Rattle.tables.specs.Graph.{Graph, open_at, Path}
use Rattle.tables.specs.Graph.Path.{here}
use Rattle.reach.proofs.Ways.{carry, further, ends_open}
use Rattle.plans.specs.Book.{linking, unlinking, including, excluding, edited, with_mark}
use Rattle.plans.proofs.Shifts.{open_same}

module _ (p : Panel) (g : Graph) (s : ℕ) where
  -- the same modules are reached from s by both
  abbrev pub SameEnds : Graph → Type 0
  SameEnds g' = (y : ℕ) → (Path p g s y → Path p g' s y) × (Path p g' s y → Path p g s y)

  module _ (m d : ℕ) where
    pair_cases : (y z : ℕ) → ((y ≡ m) × (z ≡ d)) ⊎ ((eqb y m && eqb z d) ≡ false)
    pair_cases y z = ⊎_elim
        (λ q. let r = and_parts (eqb y m) (eqb z d) q in inl (eqb-true y m r.0, eqb-true z d r.1))
        inr
        (cases_Bool (eqb y m && eqb z d))

    other_pair : (v : Bool) (y z : ℕ) → (eqb y m && eqb z d) ≡ false → changed true v g.loads m d y z ≡ g.loads y z
    other_pair v y z q = cond-false (eqb y m && eqb z d) v (g.loads y z) q

    -- to link concerns no entry that does not reach m, or reaches d already
    pub link_spares : (Path p g s m → ⊥) ⊎ Path p g s d → SameEnds (edited (linking m d) g)
    link_spares h y = (
      carry p g (λ z. Path p (edited (linking m d) g) s z) s (λ o. here o)
          (λ a b before q l o. further p (edited (linking m d) g) q (more a b l) o),
      carry p (edited (linking m d) g) (λ z. Path p g s z) s (λ o. here o)
          (λ a b before q l o. ⊎_elim
          (λ e. ⊎_elim (λ n. absurd (n (subst (λ k. Path p g s k) e.0 q))) (λ w. subst (λ k. Path p g s k) (sym e.1) w) h)
          (λ e. further p g q (sym (other_pair true a b e) ∙ l) o)
          (pair_cases a b)),
    )
      where
        more : (a b : ℕ) → g.loads a b ≡ true → changed true true g.loads m d a b ≡ true
        more a b l = ⊎_elim (λ q. cond-true (eqb a m && eqb b d) true (g.loads a b) q) (λ q. other_pair true a b q ∙ l) (cases_Bool (eqb a m && eqb b d))

    -- to unlink concerns no entry that does not reach both
    pub unlink_spares : (Path p g s m → ⊥) ⊎ (Path p g s d → ⊥) → SameEnds (edited (unlinking m d) g)
    unlink_spares h y = (
      carry p g (λ z. Path p (edited (unlinking m d) g) s z) s (λ o. here o)
          (λ a b before q l o. ⊎_elim
          (λ e. absurd (⊎_elim (λ n. n (subst (λ k. Path p g s k) e.0 before)) (λ n. n (subst (λ k. Path p g s k) e.1 (further p g before l o))) h))
          (λ e. further p (edited (unlinking m d) g) q (other_pair false a b e ∙ l) o)
          (pair_cases a b)),
      carry p (edited (unlinking m d) g) (λ z. Path p g s z) s (λ o. here o)
          (λ a b before q l o. further p g q (fewer a b l) o),
    )
      where
        fewer : (a b : ℕ) → changed true false g.loads m d a b ≡ true → g.loads a b ≡ true
        fewer a b l = ⊎_elim
            (λ q. absurd (both_ways (changed true false g.loads m d a b) (cond-true (eqb a m && eqb b d) false (g.loads a b) q) l))
            (λ q. sym (other_pair false a b q) ∙ l)
            (cases_Bool (eqb a m && eqb b d))

  module _ (x : ℕ) where
    other_open : (v : Bool) (z : ℕ) → (z ≡ x → ⊥) → open_at p (record { loads = g.loads; included = with_mark g.included x v }) z ≡ open_at p g z
    other_open v z q = open_same p (record { loads = g.loads; included = with_mark g.included x v }) g z (cond-false (eqb z x) v (g.included z) (ne_eqb z x q))

    shut : (z : ℕ) → z ≡ x → open_at p (edited (excluding x) g) z ≡ true → ⊥
    shut z q o =
        let r = and_parts (ltb z (count p)) (not (external p z) && with_mark g.included x false z) o in
        let t = and_parts (not (external p z)) (with_mark g.included x false z) r.1 in
        both_ways (with_mark g.included x false z) (cond-true (eqb z x) false (g.included z) (eq-eqb z x q)) t.1

    -- to exclude concerns no entry that does not reach x
    pub exclude_spares : (Path p g s x → ⊥) → SameEnds (edited (excluding x) g)
    exclude_spares n y = (
      carry p g (λ z. Path p (edited (excluding x) g) s z) s
          (λ o. here (other_open false s (λ q. n (subst (λ k. Path p g s k) q (here o))) ∙ o))
          (λ a b before q l o. further p (edited (excluding x) g) q l (other_open false b (λ e. n (subst (λ k. Path p g s k) e (further p g before l o))) ∙ o)),
      carry p (edited (excluding x) g) (λ z. Path p g s z) s
          (λ o. here (was s o))
          (λ a b before q l o. further p g q l (was b o)),
    )
      where
        was : (z : ℕ) → open_at p (edited (excluding x) g) z ≡ true → open_at p g z ≡ true
        was z o = ⊎_elim (λ e. absurd (shut z e o)) (λ e. sym (other_open false z e) ∙ o) (cases_eq z x)

    -- to include concerns no entry that reaches x already, and none that neither starts at x nor reaches a module that loads x
    pub include_spares : Path p g s x ⊎ ((s ≡ x → ⊥) × ((m : ℕ) → g.loads m x ≡ true → Path p g s m → ⊥)) → SameEnds (edited (including x) g)
    include_spares h y = (
      carry p g (λ z. Path p (edited (including x) g) s z) s
          (λ o. here (opened s o))
          (λ a b before q l o. further p (edited (including x) g) q l (opened b o)),
      carry p (edited (including x) g) (λ z. Path p g s z) s
          (λ o. ⊎_elim
          (λ e. here (⊎_elim (λ w. ap (open_at p g) e ∙ ends_open p g w) (λ n. absurd (n.0 e)) h))
          (λ e. here (sym (other_open true s e) ∙ o))
          (cases_eq s x))
          (λ a b before q l o. ⊎_elim
          (λ e. ⊎_elim
          (λ w. subst (λ k. Path p g s k) (sym e) w)
          (λ n. absurd (n.1 a (subst (λ k. g.loads a k ≡ true) e l) q))
          h)
          (λ e. further p g q l (sym (other_open true b e) ∙ o))
          (cases_eq b x)),
    )
      where
        opened : (z : ℕ) → open_at p g z ≡ true → open_at p (edited (including x) g) z ≡ true
        opened z o = ⊎_elim
            (λ e.
            let r = and_parts (ltb z (count p)) (not (external p z) && g.included z) o in
            let t = and_parts (not (external p z)) (g.included z) r.1 in
            and_from (ltb z (count p)) (not (external p z) && with_mark g.included x true z) r.0
            (and_from (not (external p z)) (with_mark g.included x true z) t.0 (cond-true (eqb z x) true (g.included z) (eq-eqb z x e))))
            (λ e. other_open true z e ∙ o)
            (cases_eq z x)
