-- Spans that lie one after another: where they end, what they cut, and one more of them.
use Rattle.std.proofs.Common.{◌≡◌, ℕ, zero, suc, ◌+◌, ◌-◌, ◌<◌, ◌≤◌, true, ◌&&◌, eqb, leb, List, [], ◌∷◌, ◌++◌, map, length, get_or, take, drop, sym, refl, ap, ◌∙◌, subst, arith}
use Rattle.std.proofs.lemmas.Bool.{eqb-true, eq-eqb, leb-true, le-leb, and_parts, and_from}
use Rattle.std.proofs.lemmas.List.{length-map, get_or-map, length-append, length-take, length-drop, drop-append-le, take-append-le, take_all, drop_all}
use Rattle.tables.specs.declared.module.Span.{Span}
use Rattle.tables.specs.Spans.{cut, tiled}

pub tiled_le : (from : ℕ) (ss : List Span) (to : ℕ) → tiled from ss to ≡ true → from ≤ to
tiled_le from [] to h = let e = eqb-true from to h in omega arith
tiled_le from (s ∷ ss) to h =
    let p = and_parts (eqb s.start from) (leb from s.end && tiled s.end ss to) h in
    let q = and_parts (leb from s.end) (tiled s.end ss to) p.1 in
    omega (arith, leb-true from s.end q.0, tiled_le s.end ss to q.1)

-- a span lies within the whole
pub record Within (s : Span) (to : ℕ) : Type 0 where
  pub ordered : s.start ≤ s.end
  pub ends : s.end ≤ to

pub tiled_within : (from : ℕ) (ss : List Span) (to k : ℕ) (d : Span) → tiled from ss to ≡ true → k < length ss → Within (get_or ss k d) to
tiled_within from [] to k d h l = absurd (omega arith)
tiled_within from (s ∷ ss) to zero d h l =
    let p = and_parts (eqb s.start from) (leb from s.end && tiled s.end ss to) h in
    let q = and_parts (leb from s.end) (tiled s.end ss to) p.1 in
    let e = eqb-true s.start from p.0 in
    let f = leb-true from s.end q.0 in
    let g = tiled_le s.end ss to q.1 in
    record { ordered = omega arith; ends = g }
tiled_within from (s ∷ ss) to (suc k) d h l =
    let p = and_parts (eqb s.start from) (leb from s.end && tiled s.end ss to) h in
    let q = and_parts (leb from s.end) (tiled s.end ss to) p.1 in
    tiled_within s.end ss to k d q.1 (omega arith)

-- the same of what names a span in a list
pub item_within : {A : Type 0} (span : A → Span) (xs : List A) (to k : ℕ) (x : A) → tiled 0 (map span xs) to ≡ true → k < length xs → x ≡ get_or xs k x → Within (span x) to
item_within span xs to k x t l e =
    let w = tiled_within 0 (map span xs) to k (span x) t (rw length-map l) in
    subst (λ s. Within s to) (get_or-map span xs k x (span x) l ∙ ap span (sym e)) w

-- a list that goes on has the same parts
pub cut_kept : {A : Type 0} (xs ys : List A) (s : Span) → Within s (length xs) → cut (xs ++ ys) s ≡ cut xs s
cut_kept xs ys s w =
    let a : s.start ≤ length xs = omega (arith, w.ordered, w.ends) in
    let b : s.end - s.start ≤ length (drop s.start xs) = omega (arith, length-drop s.start xs, w.ends) in
    ap (take (s.end - s.start)) (drop-append-le s.start xs ys a) ∙ take-append-le (s.end - s.start) (drop s.start xs) ys b

pub length_cut : {A : Type 0} (xs : List A) (s : Span) → Within s (length xs) → length (cut xs s) + s.start ≡ s.end
length_cut xs s w = omega (arith, length-take (s.end - s.start) (drop s.start xs), length-drop s.start xs, w.ordered, w.ends)

-- the part from a list's end on to the end of the longer list
pub cut_new : {A : Type 0} (xs ys : List A) → cut (xs ++ ys) (record { start = length xs; end = length (xs ++ ys) }) ≡ ys
cut_new xs ys =
    let a : length xs ≤ length xs = omega arith in
    let e : length (xs ++ ys) - length xs ≡ length ys = omega (arith, length-append xs ys) in
    ap (take (length (xs ++ ys) - length xs)) (drop-append-le (length xs) xs ys a ∙ ap (λ l. l ++ ys) (drop_all (length xs) xs a))
    ∙ take_all (length (xs ++ ys) - length xs) ys (omega arith)

-- the end of the last span moved on
pub cut_more : {A : Type 0} (xs : List A) (y : A) (from : ℕ) → from ≤ length xs → cut (xs ++ y ∷ []) (record { start = from; end = length xs + 1 }) ≡ cut xs (record { start = from; end = length xs }) ++ y ∷ []
cut_more xs y from h =
    let e : length (drop from xs ++ y ∷ []) ≤ length xs + 1 - from = omega (arith, length-append (drop from xs) (y ∷ []), length-drop from xs) in
    let f : length (drop from xs) ≤ length xs - from = omega (arith, length-drop from xs) in
    ap (take (length xs + 1 - from)) (drop-append-le from xs (y ∷ []) h) ∙ take_all _ _ e ∙ ap (λ l. l ++ y ∷ []) (sym (take_all _ _ f))

pub tiled_push : (from : ℕ) (ss : List Span) (mid to : ℕ) → mid ≤ to → tiled from ss mid ≡ true → tiled from (ss ++ (record { start = mid; end = to }) ∷ []) to ≡ true
tiled_push from [] mid to h t =
    let e = eqb-true from mid t in
    and_from (eqb mid from) (leb from to && eqb to to) (eq-eqb mid from (sym e)) (and_from (leb from to) (eqb to to) (le-leb from to (omega arith)) (eq-eqb to to refl))
tiled_push from (s ∷ ss) mid to h t =
    let p = and_parts (eqb s.start from) (leb from s.end && tiled s.end ss mid) t in
    let q = and_parts (leb from s.end) (tiled s.end ss mid) p.1 in
    and_from (eqb s.start from) _ p.0 (and_from (leb from s.end) _ q.0 (tiled_push s.end ss mid to h q.1))

-- the first of the spans, and the others
pub record First (from : ℕ) (s : Span) (ss : List Span) (to : ℕ) : Type 0 where
  pub starts : s.start ≡ from
  pub ordered : from ≤ s.end
  pub rest : tiled s.end ss to ≡ true
  pub ends : s.end ≤ to

pub tiled_first : (from : ℕ) (s : Span) (ss : List Span) (to : ℕ) → tiled from (s ∷ ss) to ≡ true → First from s ss to
tiled_first from s ss to h =
    let p = and_parts (eqb s.start from) (leb from s.end && tiled s.end ss to) h in
    let q = and_parts (leb from s.end) (tiled s.end ss to) p.1 in
    record { starts = eqb-true s.start from p.0; ordered = leb-true from s.end q.0; rest = q.1; ends = tiled_le s.end ss to q.1 }

pub tiled_cons : (from : ℕ) (s : Span) (ss : List Span) (to : ℕ) → s.start ≡ from → from ≤ s.end → tiled s.end ss to ≡ true → tiled from (s ∷ ss) to ≡ true
tiled_cons from s ss to a b r = and_from (eqb s.start from) (leb from s.end && tiled s.end ss to) (eq-eqb s.start from a) (and_from (leb from s.end) (tiled s.end ss to) (le-leb from s.end b) r)

pub first_within : (from : ℕ) (s : Span) (ss : List Span) (to n : ℕ) → First from s ss to → to ≤ n → Within s n
first_within from s ss to n f h = record { ordered = omega (arith, f.starts, f.ordered); ends = omega (arith, f.ends) }
