-- A row after one number is put in or taken out.
use Rattle.std.proofs.Common.{◌≡◌, ℕ, ◌+◌, ◌-◌, ◌<◌, ◌≤◌, true, false, eqb, List, ◌++◌, length, get_or, set, take, drop, refl, sym, ap, ◌∙◌, inl, inr, ⊎_elim, arith, get_or-set_other, get_or-set_same, length-set}
use borrow.Rule.Slice.PartMut.{put_mid}
use Rattle.std.specs.List.{RotatedLeft, RotatedRight}
use Rattle.std.proofs.lemmas.Bool.{cases_eq, cases_lt, eq-eqb, ne_eqb}
use Rattle.std.proofs.lemmas.Bool.Decides.{same_from_decides}
use Rattle.std.proofs.lemmas.List.{get_or_append_left, get_or-append_right, get_or-take, get_or-drop, length-take, length-drop, length-append}
use Rattle.stores.specs.Pairs.{degree, with_number}
use Rattle.rows.specs.Rows.{ascending, listed, Parts}
use Rattle.rows.proofs.Ascending.{After, Number, ascends_tells, listed_tells, refuted, behind, numbers, last_ends, level, strict, many}

-- d stands at place p now, and what stood from there on one place further
pub record Inserted (old new : List ℕ) (d p : ℕ) : Type 0 where
  pub long : length new ≡ 65
  pub low : (i : ℕ) → i < p → get_or new i 0 ≡ get_or old i 0
  pub here : get_or new p 0 ≡ d
  pub above : (i : ℕ) → p ≤ i → i < 64 → get_or new (i + 1) 0 ≡ get_or old i 0

-- what stood behind place p stands one place nearer, and END at the end
pub record Removed (old new : List ℕ) (p : ℕ) : Type 0 where
  pub long : length new ≡ 65
  pub low : (i : ℕ) → i < p → get_or new i 0 ≡ get_or old i 0
  pub above : (i : ℕ) → p ≤ i → i < 64 → get_or new i 0 ≡ get_or old (i + 1) 0
  pub closed : get_or new 64 0 ≡ 65535

after_at : (a b c d : ℕ) → a ≡ c → b ≡ d → After c d → After a b
after_at a b c d e f h = rw (e, f) h

number_at : (a b : ℕ) → a ≡ b → Number b → Number a
number_at a b e h = rw e h

-- the part of a row from place p on, written
module _ (old ys : List ℕ) (p k : ℕ) (long : length old ≡ 65) (within : p < 65) (part : k ≡ length old - p) (same : length ys ≡ length (take k (drop p old))) where
  many_ys : length ys ≡ 65 - p
  many_ys = omega (arith, length-take k (drop p old), length-drop p old)

  long_part : length (put_mid p k old ys) ≡ 65
  long_part = omega (arith, many_ys, length-append (take p old) (ys ++ drop k (drop p old)), length-append ys (drop k (drop p old)), length-take p old, length-drop k (drop p old), length-drop p old)

  pub low_part : (i : ℕ) → i < p → get_or (put_mid p k old ys) i 0 ≡ get_or old i 0
  low_part i h = get_or_append_left (take p old) (ys ++ drop k (drop p old)) 0 i (omega (arith, length-take p old)) ∙ get_or-take p old i 0 h

  pub high_part : (i : ℕ) → p ≤ i → i < 65 → get_or (put_mid p k old ys) i 0 ≡ get_or ys (i - p) 0
  high_part i h l = get_or-append_right (take p old) (ys ++ drop k (drop p old)) p i 0 (omega (arith, length-take p old)) h ∙ get_or_append_left ys (drop k (drop p old)) 0 (i - p) (omega (arith, many_ys))

  old_part : (i : ℕ) → i < k → get_or (take k (drop p old)) i 0 ≡ get_or old (p + i) 0
  old_part i h = get_or-take k (drop p old) i 0 h ∙ get_or-drop p old i 0

  inserted : (d : ℕ) → RotatedRight (take k (drop p old)) ys (length (take k (drop p old))) 1 → Inserted old (set (put_mid p k old ys) p d) d p
  inserted d turned = record {
    long = length-set (put_mid p k old ys) p d ∙ long_part;
    low = λ i h. get_or-set_other (put_mid p k old ys) p i d 0 (λ e. omega arith) ∙ low_part i h;
    here = get_or-set_same (put_mid p k old ys) p d 0 (omega (arith, long_part));
    above = λ i h l. get_or-set_other (put_mid p k old ys) p (i + 1) d 0 (λ e. omega arith) ∙ high_part (i + 1) (omega arith) (omega arith)
        ∙ turned.1 (i + 1 - p) 0 (omega arith) (omega (arith, length-take k (drop p old), length-drop p old)) ∙ old_part (i + 1 - p - 1) (omega arith) ∙ ap (λ (j : ℕ). get_or old j 0) (omega arith);
  }

  removed : RotatedLeft (take k (drop p old)) ys (length (take k (drop p old))) 1 → Removed old (set (put_mid p k old ys) 64 65535) p
  removed turned = record {
    long = length-set (put_mid p k old ys) 64 65535 ∙ long_part;
    low = λ i h. get_or-set_other (put_mid p k old ys) 64 i 65535 0 (λ e. omega arith) ∙ low_part i h;
    above = λ i h l. get_or-set_other (put_mid p k old ys) 64 i 65535 0 (λ e. omega arith) ∙ high_part i h (omega arith)
        ∙ turned.0 (i - p) 0 (omega (arith, length-take k (drop p old), length-drop p old)) ∙ old_part (i - p + 1) (omega arith) ∙ ap (λ (j : ℕ). get_or old j 0) (omega arith);
    closed = get_or-set_same (put_mid p k old ys) 64 65535 0 (omega (arith, long_part));
  }

module _ (n : ℕ) (old : List ℕ) (d p : ℕ) (small : n ≤ 512) (inside : d < n) (long : length old ≡ 65) (row : ascending old ≡ true) (parts : Parts old d p) where
  last_free : n ≤ get_or old 64 0
  last_free = omega (arith, last_ends old long row)

  -- fewer than 64 numbers leave the 64th cell free
  pub room : n ≡ 512 → degree (listed old) n < 64 → get_or old 63 0 ≡ 65535
  room all few = ⊎_elim
      (λ (l : get_or old 63 0 < 512). let m = many old long row n 64 small (omega arith) (λ j h. let v = level old long row j 63 (omega arith) (omega arith) in omega arith) in absurd (omega arith))
      (λ (e : get_or old 63 0 ≡ 65535). e)
      (numbers old long row 63 (omega arith))

  -- a number at or above d in the 64th cell is behind the place of d
  pub place_before : d ≤ get_or old 63 0 → p < 64
  place_before h = ⊎_elim (λ (l : p < 64). l) (λ (g : 64 ≤ p). let l = parts.low 63 (omega arith) in absurd (omega arith)) (cases_lt p 64)

  pub found_at : listed old d ≡ true → (p < 65) × (get_or old p 0 ≡ d)
  found_at there =
      let w = (listed_tells old d).0 there in
      let m : w.0 < 65 = omega (arith, w.1) in
      let g : p ≤ w.0 = ⊎_elim (λ (l : w.0 < p). let z = parts.low w.0 l in omega (arith, w.2)) (λ q. q) (cases_lt w.0 p) in
      let v = level old long row p w.0 g m in
      let high = parts.high p (omega arith) (omega arith) in
      (omega arith, omega (arith, w.2))

  module _ (free : get_or old 63 0 ≡ 65535) (other : get_or old p 0 ≡ d → ⊥) where
    within_row : p < 64
    within_row = place_before (omega arith)

    above_d : (i : ℕ) → p ≤ i → i < 65 → d < get_or old i 0
    above_d i h l =
        let high = parts.high p (omega arith) (omega (arith, within_row)) in
        let up = level old long row p i h l in
        let ne : get_or old p 0 ≡ d → ⊥ = other in
        grind arith

    module _ (new : List ℕ) (h : Inserted old new d p) where
      insert_follow : (i : ℕ) → i < 64 → After (get_or new i 0) (get_or new (i + 1) 0)
      insert_follow i l =
          ⊎_elim
          (λ (a : i + 1 < p). after_at _ _ _ _ (h.low i (omega arith)) (h.low (i + 1) a) (behind old long row i (i + 1) (omega arith) (omega arith)))
          (λ (a : p ≤ i + 1). ⊎_elim
          (λ (b : i < p). let e : i + 1 ≡ p = omega arith in let z = parts.low i b in inl (omega (arith, h.low i b, ap (λ (j : ℕ). get_or new j 0) e, h.here)))
          (λ (b : p ≤ i). ⊎_elim
          (λ (e : i ≡ p). let z = above_d i b (omega arith) in inl (omega (arith, ap (λ (j : ℕ). get_or new j 0) e, h.here, h.above i b l)))
          (λ (ne : i ≡ p → ⊥).
          let q : p < i = grind arith in
          let e : i - 1 + 1 ≡ i = omega arith in
          after_at _ _ _ _ (ap (λ (j : ℕ). get_or new j 0) (sym e) ∙ h.above (i - 1) (omega arith) (omega arith)) (h.above i b l) (behind old long row (i - 1) i (omega arith) (omega arith)))
          (cases_eq i p))
          (cases_lt i p))
          (cases_lt (i + 1) p)

      insert_number : (i : ℕ) → i < 65 → Number (get_or new i 0)
      insert_number i l =
          ⊎_elim
          (λ (a : i < p). number_at _ _ (h.low i a) (numbers old long row i l))
          (λ (a : p ≤ i). ⊎_elim
          (λ (e : i ≡ p). number_at _ _ (ap (λ (j : ℕ). get_or new j 0) e ∙ h.here) (inl (omega arith)))
          (λ (ne : i ≡ p → ⊥).
          let q : p < i = grind arith in
          let e : i - 1 + 1 ≡ i = omega arith in
          number_at _ _ (ap (λ (j : ℕ). get_or new j 0) (sym e) ∙ h.above (i - 1) (omega arith) (omega arith)) (numbers old long row (i - 1) (omega arith)))
          (cases_eq i p))
          (cases_lt i p)

      insert_ascends : ascending new ≡ true
      insert_ascends = (ascends_tells new).1 (record { follow = insert_follow; number = insert_number; closed = h.above 63 (omega (arith, within_row)) (omega arith) ∙ free })

      insert_lists : (b : ℕ) → b < n → listed new b ≡ with_number true (listed old) d b
      insert_lists b below =
          ⊎_elim
          (λ (e : b ≡ d). let t : eqb b d ≡ true = eq-eqb b d e in rw t ((listed_tells new b).1 (p, omega (arith, h.long, within_row), h.here ∙ sym e)))
          (λ (ne : b ≡ d → ⊥).
          let t : eqb b d ≡ false = ne_eqb b d ne in
          rw t (same_from_decides _ _ (listed_tells new b) (
            (λ o.
                let w = (listed_tells old b).0 o in
                let m : w.0 < 65 = omega (arith, w.1) in
                ⊎_elim
                (λ (l : w.0 < p). (w.0, omega (arith, h.long), h.low w.0 l ∙ w.2))
                (λ (g : p ≤ w.0). ⊎_elim
                (λ (l : w.0 < 64). (w.0 + 1, omega (arith, h.long), h.above w.0 g l ∙ w.2))
                (λ (z : 64 ≤ w.0). let e : w.0 ≡ 64 = omega arith in let v = ap (λ (j : ℕ). get_or old j 0) e in absurd (omega (arith, last_free, w.2)))
                (cases_lt w.0 64))
                (cases_lt w.0 p)),
            (λ w.
                let m : w.0 < 65 = omega (arith, w.1, h.long) in
                (listed_tells old b).1 (⊎_elim
                (λ (l : w.0 < p). (w.0, omega arith, sym (h.low w.0 l) ∙ w.2))
                (λ (g : p ≤ w.0). ⊎_elim
                (λ (e : w.0 ≡ p). absurd (ne (sym w.2 ∙ ap (λ (j : ℕ). get_or new j 0) e ∙ h.here)))
                (λ (q : w.0 ≡ p → ⊥). let l : p < w.0 = grind arith in let e : w.0 - 1 + 1 ≡ w.0 = omega arith in (w.0 - 1, omega arith, sym (h.above (w.0 - 1) (omega arith) (omega arith)) ∙ ap (λ (j : ℕ). get_or new j 0) e ∙ w.2))
                (cases_eq w.0 p))
                (cases_lt w.0 p))),
          )))
          (cases_eq b d)

    -- the row after the part from the place of d on was turned by one, and d written there
    module _ (ys : List ℕ) (k : ℕ) (part : k ≡ length old - p) (same : length ys ≡ length (take k (drop p old))) where
      pub put_in : RotatedRight (take k (drop p old)) ys (length (take k (drop p old))) 1
          → (ascending (set (put_mid p k old ys) p d) ≡ true) × ((b : ℕ) → b < n → listed (set (put_mid p k old ys) p d) b ≡ with_number true (listed old) d b)
      put_in turned = let h = inserted old ys p k long (omega (arith, within_row)) part same d turned in (insert_ascends (set (put_mid p k old ys) p d) h, insert_lists (set (put_mid p k old ys) p d) h)

  module _ (within : p < 65) (here : get_or old p 0 ≡ d) where
    module _ (new : List ℕ) (h : Removed old new p) where
      to_end : (a : ℕ) → Number a → After a 65535
      to_end a l = ⊎_elim (λ (s : a < 512). inl (omega arith)) (λ (e : a ≡ 65535). inr (e, refl)) l

      remove_follow : (i : ℕ) → i < 64 → After (get_or new i 0) (get_or new (i + 1) 0)
      remove_follow i l =
          ⊎_elim
          (λ (z : i + 1 < 64). ⊎_elim
          (λ (a : i + 1 < p). after_at _ _ _ _ (h.low i (omega arith)) (h.low (i + 1) a) (behind old long row i (i + 1) (omega arith) (omega arith)))
          (λ (a : p ≤ i + 1). ⊎_elim
          (λ (b : i < p). after_at _ _ _ _ (h.low i b) (h.above (i + 1) a z) (behind old long row i (i + 1 + 1) (omega arith) (omega arith)))
          (λ (b : p ≤ i). after_at _ _ _ _ (h.above i b l) (h.above (i + 1) a z) (behind old long row (i + 1) (i + 1 + 1) (omega arith) (omega arith)))
          (cases_lt i p))
          (cases_lt (i + 1) p))
          (λ (z : 64 ≤ i + 1).
          let e : i + 1 ≡ 64 = omega arith in
          ⊎_elim
          (λ (b : i < p). after_at _ _ _ _ (h.low i b) (ap (λ (j : ℕ). get_or new j 0) e ∙ h.closed) (to_end _ (numbers old long row i (omega arith))))
          (λ (b : p ≤ i). after_at _ _ _ _ (h.above i b l) (ap (λ (j : ℕ). get_or new j 0) e ∙ h.closed) (to_end _ (numbers old long row (i + 1) (omega arith))))
          (cases_lt i p))
          (cases_lt (i + 1) 64)

      remove_number : (i : ℕ) → i < 65 → Number (get_or new i 0)
      remove_number i l =
          ⊎_elim
          (λ (z : i < 64). ⊎_elim
          (λ (a : i < p). number_at _ _ (h.low i a) (numbers old long row i l))
          (λ (a : p ≤ i). number_at _ _ (h.above i a z) (numbers old long row (i + 1) (omega arith)))
          (cases_lt i p))
          (λ (z : 64 ≤ i). let e : i ≡ 64 = omega arith in number_at _ _ (ap (λ (j : ℕ). get_or new j 0) e ∙ h.closed) (inr refl))
          (cases_lt i 64)

      remove_ascends : ascending new ≡ true
      remove_ascends = (ascends_tells new).1 (record { follow = remove_follow; number = remove_number; closed = h.closed })

      remove_lists : (b : ℕ) → b < n → listed new b ≡ with_number false (listed old) d b
      remove_lists b below =
          let ends : (j : ℕ) → 64 ≤ j → j < 65 → get_or new j 0 ≡ 65535 = λ j y z. let e : j ≡ 64 = omega arith in ap (λ (i : ℕ). get_or new i 0) e ∙ h.closed in
          ⊎_elim
          (λ (e : b ≡ d).
          let t : eqb b d ≡ true = eq-eqb b d e in
          rw t (refuted _ (λ o.
          let w = (listed_tells new b).0 o in
          let m : w.0 < 65 = omega (arith, w.1, h.long) in
          ⊎_elim
          (λ (l : w.0 < p). let z = parts.low w.0 l in omega (arith, h.low w.0 l, w.2))
          (λ (g : p ≤ w.0). ⊎_elim
          (λ (l : w.0 < 64). let z = strict old long row p (w.0 + 1) (omega arith) (omega arith) (omega (arith, here)) in omega (arith, h.above w.0 g l, w.2, here))
          (λ (z : 64 ≤ w.0). omega (arith, ends w.0 z m, w.2))
          (cases_lt w.0 64))
          (cases_lt w.0 p))))
          (λ (ne : b ≡ d → ⊥).
          let t : eqb b d ≡ false = ne_eqb b d ne in
          rw t (same_from_decides _ _ (listed_tells new b) (
            (λ o.
                let w = (listed_tells old b).0 o in
                let m : w.0 < 65 = omega (arith, w.1) in
                ⊎_elim
                (λ (l : w.0 < p). (w.0, omega (arith, h.long), h.low w.0 l ∙ w.2))
                (λ (g : p ≤ w.0). ⊎_elim
                (λ (e : w.0 ≡ p). absurd (ne (sym w.2 ∙ ap (λ (j : ℕ). get_or old j 0) e ∙ here)))
                (λ (q : w.0 ≡ p → ⊥). let l : p < w.0 = grind arith in let e : w.0 - 1 + 1 ≡ w.0 = omega arith in (w.0 - 1, omega (arith, h.long), h.above (w.0 - 1) (omega arith) (omega arith) ∙ ap (λ (j : ℕ). get_or old j 0) e ∙ w.2))
                (cases_eq w.0 p))
                (cases_lt w.0 p)),
            (λ w.
                let m : w.0 < 65 = omega (arith, w.1, h.long) in
                (listed_tells old b).1 (⊎_elim
                (λ (l : w.0 < p). (w.0, omega arith, sym (h.low w.0 l) ∙ w.2))
                (λ (g : p ≤ w.0). ⊎_elim
                (λ (l : w.0 < 64). (w.0 + 1, omega arith, sym (h.above w.0 g l) ∙ w.2))
                (λ (z : 64 ≤ w.0). absurd (omega (arith, ends w.0 z m, w.2)))
                (cases_lt w.0 64))
                (cases_lt w.0 p))),
          )))
          (cases_eq b d)

    -- the row after the part from the place of d on was turned back by one, and END written last
    pub taken_out : (ys : List ℕ) (k : ℕ) → k ≡ length old - p → length ys ≡ length (take k (drop p old))
        → RotatedLeft (take k (drop p old)) ys (length (take k (drop p old))) 1
        → (ascending (set (put_mid p k old ys) 64 65535) ≡ true) × ((b : ℕ) → b < n → listed (set (put_mid p k old ys) 64 65535) b ≡ with_number false (listed old) d b)
    taken_out ys k part same turned = let h = removed old ys p k long within part same turned in (remove_ascends (set (put_mid p k old ys) 64 65535) h, remove_lists (set (put_mid p k old ys) 64 65535) h)
