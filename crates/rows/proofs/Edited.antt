-- A row after `put` and `take_out`, by the tests that they make.
use Rattle.std.proofs.Common.{◌≡◌, ℕ, ◌-◌, ◌<◌, ◌≤◌, Bool, true, false, not, ◌&&◌, eqb, ltb, List, length, get_or, set, take, drop, refl, sym, ◌∙◌, subst, lit≤, ⊎_elim, arith}
use borrow.Rule.Slice.PartMut.{put_mid}
use Rattle.std.specs.List.{RotatedLeft, RotatedRight}
use Rattle.std.proofs.lemmas.Bool.{cases_eq, cases_Bool, eq-eqb, ne_eqb, eqb-true, eqb-false, ltb-true, lt-ltb, and_parts, and_from, not-true, not_from_false, both_ways}
use Rattle.stores.specs.Cells.{IsRow}
use Rattle.stores.specs.Pairs.{HasRoom, with_number}
use Rattle.stores.proofs.Written.{others_as}
use Rattle.rows.specs.Rows.{ascending, listed, Parts}
use Rattle.rows.proofs.Ascending.{listed_tells}
use Rattle.rows.proofs.Shifted.{room, place_before, found_at, put_in, taken_out}

-- a number that is there may be put in, one that is not may be taken out: nothing changes
with_as : (v : Bool) (f : ℕ → Bool) (d : ℕ) → f d ≡ v → (b : ℕ) → f b ≡ with_number v f d b
with_as v f d e b =
    ⊎_elim
    (λ (s : b ≡ d). let t : eqb b d ≡ true = eq-eqb b d s in rw t (subst (λ (k : ℕ). f k ≡ v) (sym s) e))
    (λ (ne : b ≡ d → ⊥). let t : eqb b d ≡ false = ne_eqb b d ne in rw t refl)
    (cases_eq b d)

below_end : (d : ℕ) → d < 512 → d ≤ 65535
below_end d h = omega arith

in_row_of : (old : List ℕ) (p : ℕ) → length old ≡ 65 → p < 64 → p < length old
in_row_of old p e h = omega arith

module _ (old : List ℕ) (d p : ℕ) (t : Bool) (q : IsRow 65 ascending old) (small : d < 512) (parts : Parts old d p) where
  module _ (test : t ≡ (eqb (length old) 65 && (ltb p 64 && (eqb (get_or old 63 0) 65535 && not (eqb (get_or old p 0) d))))) where
    pub put_tested : t ≡ true → (ys : List ℕ) → length ys ≡ length (take (length old - p) (drop p old))
        → RotatedRight (take (length old - p) (drop p old)) ys (length (take (length old - p) (drop p old))) 1
        → (ascending (set (put_mid p (length old - p) old ys) p d) ≡ true) × ((b : ℕ) → b < 512 → listed (set (put_mid p (length old - p) old ys) p d) b ≡ with_number true (listed old) d b)
    put_tested holds ys same turned =
        let a = and_parts _ _ (sym test ∙ holds) in
        let b = and_parts _ _ a.1 in
        let e = and_parts _ _ b.1 in
        put_in 512 old d p (lit≤ tt) small q.long q.order parts (eqb-true _ _ e.0) (eqb-false _ _ (not-true _ e.1)) ys (length old - p) refl same turned

    -- a row that has room, and is left as it is, has d
    left_listed : HasRoom (listed old) → t ≡ false → listed old d ≡ true
    unfolding HasRoom
    left_listed few fails =
        let free = room 512 old d p (lit≤ tt) small q.long q.order parts refl few in
        let within = place_before 512 old d p (lit≤ tt) small q.long q.order parts (subst (λ (k : ℕ). d ≤ k) (sym free) (below_end d small)) in
        ⊎_elim
        (λ (s : get_or old p 0 ≡ d). (listed_tells old d).1 (p, in_row_of old p q.long within, s))
        (λ (ne : get_or old p 0 ≡ d → ⊥). absurd (both_ways t fails (test ∙ and_from _ _ (eq-eqb _ _ q.long) (and_from _ _ (lt-ltb _ _ within) (and_from _ _ (eq-eqb _ _ free) (not_from_false _ (ne_eqb _ _ ne)))))))
        (cases_eq (get_or old p 0) d)

    pub put_left : HasRoom (listed old) → t ≡ false → (b : ℕ) → listed old b ≡ with_number true (listed old) d b
    put_left few fails = with_as true (listed old) d (left_listed few fails)

  module _ (test : t ≡ (eqb (length old) 65 && (ltb p 65 && eqb (get_or old p 0) d))) where
    pub taken_tested : t ≡ true → (ys : List ℕ) → length ys ≡ length (take (length old - p) (drop p old))
        → RotatedLeft (take (length old - p) (drop p old)) ys (length (take (length old - p) (drop p old))) 1
        → (ascending (set (put_mid p (length old - p) old ys) 64 65535) ≡ true) × ((b : ℕ) → b < 512 → listed (set (put_mid p (length old - p) old ys) 64 65535) b ≡ with_number false (listed old) d b)
    taken_tested holds ys same turned =
        let a = and_parts _ _ (sym test ∙ holds) in
        let b = and_parts _ _ a.1 in
        taken_out 512 old d p (lit≤ tt) small q.long q.order parts (ltb-true _ _ b.0) (eqb-true _ _ b.1) ys (length old - p) refl same turned

    pub taken_left : t ≡ false → (b : ℕ) → listed old b ≡ with_number false (listed old) d b
    taken_left fails = with_as false (listed old) d (⊎_elim
        (λ (there : listed old d ≡ true). let at = found_at 512 old d p (lit≤ tt) small q.long q.order parts there in absurd (both_ways t fails (test ∙ and_from _ _ (eq-eqb _ _ q.long) (and_from _ _ (lt-ltb _ _ at.0) (eq-eqb _ _ at.1)))))
        (λ (f : listed old d ≡ false). f)
        (cases_Bool (listed old d)))

-- the same, for the search: each clause by the row that is left
module _ (old ys : List ℕ) (d p : ℕ) (q : IsRow 65 ascending old) (small : d < 512) (parts : Parts old d p) (same : length ys ≡ length (take (length old - p) (drop p old))) where
  module _ (test : (eqb (length old) 65 && (ltb p 64 && (eqb (get_or old 63 0) 65535 && not (eqb (get_or old p 0) d)))) ≡ true) (turned : RotatedRight (take (length old - p) (drop p old)) ys (length (take (length old - p) (drop p old))) 1) where
    pub put_row : ascending (set (put_mid p (length old - p) old ys) p d) ≡ true
    put_row = (put_tested old d p true q small parts (sym test) refl ys same turned).0

    pub put_lists : (b : ℕ) → b < 512 → listed (set (put_mid p (length old - p) old ys) p d) b ≡ with_number true (listed old) d b
    put_lists = (put_tested old d p true q small parts (sym test) refl ys same turned).1

    pub put_others : (b : ℕ) → b < 512 → (b ≡ d → ⊥) → listed (set (put_mid p (length old - p) old ys) p d) b ≡ listed old b
    put_others = others_as _ _ true d put_lists

  module _ (test : (eqb (length old) 65 && (ltb p 65 && eqb (get_or old p 0) d)) ≡ true) (turned : RotatedLeft (take (length old - p) (drop p old)) ys (length (take (length old - p) (drop p old))) 1) where
    pub taken_row : ascending (set (put_mid p (length old - p) old ys) 64 65535) ≡ true
    taken_row = (taken_tested old d p true q small parts (sym test) refl ys same turned).0

    pub taken_lists : (b : ℕ) → b < 512 → listed (set (put_mid p (length old - p) old ys) 64 65535) b ≡ with_number false (listed old) d b
    taken_lists = (taken_tested old d p true q small parts (sym test) refl ys same turned).1
