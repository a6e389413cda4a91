-- What the steps of a walk keep.
use Rattle.std.proofs.Common.{◌≡◌, ℕ, zero, suc, ◌+◌, ◌-◌, ◌<◌, ◌≤◌, Bool, true, false, cond, ◌||◌, eqb, List, [], ◌∷◌, ◌++◌, length, get_or, take, set, replicate, sym, refl, ap, ◌∙◌, subst, ⊎_elim, add-zero, arith}
use Rattle.std.proofs.Math.Bool.{or-false}
use Rattle.std.proofs.lemmas.List.{append-nil, append_assoc, take_all, take_more, take_more_set, take-set, length-take-le, length-append, length-set, length-replicate, get_or-replicate, get_or_past, get_or-set_same, get_or-set_other}
use Rattle.std.proofs.lemmas.List.Folds.{list_any-append}
use Rattle.std.proofs.lemmas.List.Sums.{sum_by-set, count_by-le-length}
use Rattle.std.specs.List.{count_by}
use Rattle.std.proofs.lemmas.Bool.{true≢false, eq-eqb, ne_eqb, cases_eq, cases_lt, or_right}
use Rattle.walks.specs.Walks.{has, Walk, Marked}
use Rattle.walks.specs.Walks.Walk.{done, skip, enter}

-- membership

pub has_push : (t : List ℕ) (x y : ℕ) → has (t ++ x ∷ []) y ≡ (has t y || eqb x y)
has_push t x y = list_any-append (λ z. eqb z y) t (x ∷ []) ∙ ap (λ b. has t y || b) (or-false (eqb x y))

-- what is not marked

-- The sum of w over the places, counted from i, that are not marked.
abbrev pub owing : (ℕ → ℕ) → ℕ → List Bool → ℕ
owing w i [] = 0
owing w i (true ∷ ms) = owing w (i + 1) ms
owing w i (false ∷ ms) = w i + owing w (i + 1) ms

pub owing_mark : (w : ℕ → ℕ) (i : ℕ) (ms : List Bool) (k : ℕ) → k < length ms → get_or ms k false ≡ false → owing w i ms ≡ w (i + k) + owing w i (set ms k true)
owing_mark w i [] k h e = omega arith
owing_mark w i (true ∷ ms) zero h e = absurd (true≢false e)
owing_mark w i (false ∷ ms) zero h e = simp add-zero
owing_mark w i (true ∷ ms) (suc k) h e =
    let s : (i + 1) + k ≡ i + suc k = omega arith in
    let l : k < length ms = omega arith in
    owing_mark w (i + 1) ms k l e ∙ ap (λ j. w j + owing w (i + 1) (set ms k true)) s
owing_mark w i (false ∷ ms) (suc k) h e =
    let s : (i + 1) + k ≡ i + suc k = omega arith in
    let l : k < length ms = omega arith in
    omega (arith, owing_mark w (i + 1) ms k l e, ap w s)

-- a walk over two lists, one after the other

pub split : (arcs : ℕ → List ℕ) (xs ys : List ℕ) {t u : List ℕ} → Walk arcs (xs ++ ys) t u → (v : List ℕ) × (Walk arcs xs t v) × (Walk arcs ys v u)
split arcs [] ys {t} w = (t, done, w)
split arcs (x ∷ xs) ys (skip m w) = let r = split arcs xs ys w in (r.0, skip m r.1, r.2)
split arcs (x ∷ xs) ys (enter m a w) = let r = split arcs xs ys w in (r.0, enter m a r.1, r.2)

-- The targets that a stack of frames still has to come, the last frame's first.
abbrev pub pending : (ℕ → ℕ → List ℕ) → List (ℕ × ℕ) → List ℕ
pending rest [] = []
pending rest (f ∷ fs) = pending rest fs ++ rest f.0 f.1

pub pending_push : (rest : ℕ → ℕ → List ℕ) (fs : List (ℕ × ℕ)) (f : ℕ × ℕ) → pending rest (fs ++ f ∷ []) ≡ rest f.0 f.1 ++ pending rest fs
pending_push rest [] f = sym (append-nil (rest f.0 f.1))
pending_push rest (g ∷ fs) f = ap (λ p. p ++ rest g.0 g.1) (pending_push rest fs f) ∙ append_assoc (rest f.0 f.1) (pending rest fs) (rest g.0 g.1)

-- what the marks tell

pub blank : (n : ℕ) → Marked n [] (replicate n false)
blank n = record {
  long = length-replicate n false;
  tell = λ k. ⊎_elim
      (λ (h : k < n). get_or-replicate n k false false h)
      (λ (h : n ≤ k). get_or_past (replicate n false) k false (omega (arith, length-replicate n false)))
      (cases_lt k n);
  count = none n;
}
  where
    none : (m : ℕ) → count_by (λ b. b) (replicate m false) ≡ 0
    none zero = refl
    none (suc m) = none m

pub blank_is : {n k : ℕ} {t : List ℕ} {ms : List Bool} → t ≡ [] → ms ≡ replicate n false → k ≡ n → Marked k t ms
blank_is {n} {k} {t} {ms} o e l =
    subst (λ i. Marked i t ms) (sym l) (subst (λ x. Marked n x ms) (sym o) (subst (Marked n []) (sym e) (blank n)))

module _ {n : ℕ} {t : List ℕ} {ms : List Bool} (m : Marked n t ms) (y : ℕ) (h : y < n) (e : get_or ms y false ≡ false) where
  inside : y < length ms
  inside = omega (arith, m.long)

  counted : count_by (λ b. b) (set ms y true) ≡ length t + 1
  counted = omega (arith, m.count, sum_by-set (λ b. cond b 1 0) ms y true false inside, ap {B = ℕ} (λ b. cond b 1 0) e)

  pub room : length t < n
  room = omega (arith, counted, count_by-le-length (λ b. b) (set ms y true), length-set ms y true, m.long)

  pub mark : Marked n (t ++ y ∷ []) (set ms y true)
  mark = record {
    long = length-set ms y true ∙ m.long;
    tell = λ k. ⊎_elim
        (λ q. ap (λ j. get_or (set ms y true) j false) q ∙ get_or-set_same ms y true false inside ∙ sym (has_push t y k ∙ or_right (has t k) (eqb y k) (eq-eqb y k (sym q))))
        (λ q. get_or-set_other ms y k true false q ∙ m.tell k ∙ sym (has_push t y k ∙ ap (λ b. has t k || b) (ne_eqb y k (λ z. q (sym z))) ∙ or-false (has t k)))
        (cases_eq k y);
    count = counted ∙ sym (length-append t (y ∷ []));
  }

pub mark_is : {n : ℕ} {t t' : List ℕ} {ms ms' : List Bool} {y : ℕ} {b : Bool} → Marked n t ms → y < n → b ≡ get_or ms y b → b ≡ false → t' ≡ t ++ y ∷ [] → ms' ≡ set ms y true → Marked n t' ms'
mark_is {n} {t} {t'} {ms} {ms'} {y} m h e f o q =
    let free = subst (λ c. c ≡ get_or ms y c) f e in
    subst (λ x. Marked n x ms') (sym o) (subst (Marked n (t ++ y ∷ [])) (sym q) (mark m y h (sym free)))

-- What a walk from `root`, with `before` taken before, keeps true: t is taken, and a walk over the targets `still` ends it.
pub record Going (rest : ℕ → ℕ → List ℕ) (root : ℕ) (before t still : List ℕ) : Type 0 where
  pub goes : (u : List ℕ) → Walk (λ x. rest x 0) still t u → Walk (λ x. rest x 0) (root ∷ []) before u

-- What is left to do: each arc of a node that is not taken, each arc to come on the stack, each frame.
abbrev pub left : (ℕ → ℕ → List ℕ) → List Bool → List (ℕ × ℕ) → ℕ
left rest ms fs = owing (λ x. 1 + length (rest x 0)) 0 ms + (length (pending rest fs) + length fs)

module _ {rest : ℕ → ℕ → List ℕ} {root : ℕ} {before : List ℕ} where
  pub begun : Going rest root before before (root ∷ [])
  begun = record { goes = λ u w. w }

  pub ended : {t : List ℕ} {fs : List (ℕ × ℕ)} → Going rest root before t (pending rest fs) → fs ≡ [] → Walk (λ x. rest x 0) (root ∷ []) before t
  ended {t} {fs} s e = s.goes t (subst (λ gs. Walk (λ x. rest x 0) (pending rest gs) t t) (sym e) done)

-- a try to take y, with the frames fs on the stack
module _ (rest : ℕ → ℕ → List ℕ) {n : ℕ} {os : List ℕ} {ms : List Bool} (m : Marked n os ms) (fs : List (ℕ × ℕ)) (y : ℕ) where
  pub tried : {root : ℕ} {before os' : List ℕ} {fs' : List (ℕ × ℕ)} → Going rest root before os (y ∷ pending rest fs) → os' ≡ cond (get_or ms y false) os (os ++ y ∷ []) → fs' ≡ cond (get_or ms y false) fs (fs ++ (y, 0) ∷ []) → Going rest root before os' (pending rest fs')
  tried {root} {before} {os'} s p q = subst (λ gs. Going rest root before os' (pending rest gs)) (sym q) (subst (λ t. Going rest root before t (pending rest (cond (get_or ms y false) fs (fs ++ (y, 0) ∷ [])))) (sym p) (on (get_or ms y false) (sym (m.tell y))))
    where
      on : (b : Bool) → has os y ≡ b → Going rest root before (cond b os (os ++ y ∷ [])) (pending rest (cond b fs (fs ++ (y, 0) ∷ [])))
      on true e = record { goes = λ u w. s.goes u (skip e w) }
      on false e = record {
        goes = λ u w.
            let r = split (λ z. rest z 0) (rest y 0) (pending rest fs) (subst (λ p. Walk (λ z. rest z 0) p (os ++ y ∷ []) u) (pending_push rest fs (y, 0)) w) in
            s.goes u (enter e r.1 r.2);
      }

  pub tried_less : {ms' : List Bool} {fs' : List (ℕ × ℕ)} {k : ℕ} → y < n → ms' ≡ cond (get_or ms y false) ms (set ms y true) → fs' ≡ cond (get_or ms y false) fs (fs ++ (y, 0) ∷ []) → left rest ms fs < k → left rest ms' fs' < k
  tried_less {ms'} {k = k} h p q l = subst (λ gs. left rest ms' gs < k) (sym q) (subst (λ x. left rest x (cond (get_or ms y false) fs (fs ++ (y, 0) ∷ [])) < k) (sym p) (on (get_or ms y false) refl))
    where
      on : (b : Bool) → get_or ms y false ≡ b → left rest (cond b ms (set ms y true)) (cond b fs (fs ++ (y, 0) ∷ [])) < k
      on true e = l
      on false e =
          let o = owing_mark (λ x. 1 + length (rest x 0)) 0 ms y (omega (arith, m.long)) e in
          let z : 0 + y ≡ y = omega arith in
          omega (arith, l, o, ap (λ j. length (rest j 0)) z, ap length (pending_push rest fs (y, 0)), length-append (rest y 0) (pending rest fs), length-append fs ((y, 0) ∷ []))

-- f is the last of the n frames
pub record Top (fs : List (ℕ × ℕ)) (n : ℕ) (f : ℕ × ℕ) : Type 0 where
  pub long : n ≡ length fs
  pub some : 0 < n
  pub last : f ≡ get_or fs (n - 1) f

pub top_of : {fs : List (ℕ × ℕ)} {n : ℕ} {f : ℕ × ℕ} → n ≡ length fs → 0 < n → f ≡ get_or fs (n - 1) f → Top fs n f
top_of l h e = record { long = l; some = h; last = e }

module _ {fs : List (ℕ × ℕ)} {n : ℕ} {f : ℕ × ℕ} (top : Top fs n f) where
  within : n - 1 < length fs
  within = omega (arith, top.long, top.some)

  all_but : (n - 1) + 1 ≡ length fs
  all_but = omega (arith, top.long, top.some)

  opened : fs ≡ take (n - 1) fs ++ f ∷ []
  opened = sym (take_all ((n - 1) + 1) fs (omega (arith, all_but))) ∙ take_more fs (n - 1) f within ∙ ap (λ g. take (n - 1) fs ++ g ∷ []) (sym top.last)

  altered : (g : ℕ × ℕ) → set fs (n - 1) g ≡ take (n - 1) fs ++ g ∷ []
  altered g = sym (take_all ((n - 1) + 1) (set fs (n - 1) g) (omega (arith, all_but, length-set fs (n - 1) g))) ∙ take_more_set fs (n - 1) g within

module _ (rest : ℕ → ℕ → List ℕ) {fs : List (ℕ × ℕ)} {n : ℕ} {f : ℕ × ℕ} (top : Top fs n f) where
  open_pending : pending rest fs ≡ rest f.0 f.1 ++ pending rest (take (n - 1) fs)
  open_pending = ap (pending rest) (opened top) ∙ pending_push rest (take (n - 1) fs) f

  -- the last frame has no target still to come, and gs are the others
  module _ (e : rest f.0 f.1 ≡ []) {gs : List (ℕ × ℕ)} (others : gs ≡ take (n - 1) (set fs (n - 1) f)) where
    same : gs ≡ take (n - 1) fs
    same = others ∙ take-set fs (n - 1) f

    empty : pending rest fs ≡ pending rest gs
    empty = open_pending ∙ ap (λ q. q ++ pending rest (take (n - 1) fs)) e ∙ ap (pending rest) (sym same)

    pub popped : {root : ℕ} {before t : List ℕ} → Going rest root before t (pending rest fs) → Going rest root before t (pending rest gs)
    popped {root} {before} {t} s = subst (Going rest root before t) empty s

    pub popped_left : (ms : List Bool) → left rest ms gs < left rest ms fs
    popped_left ms = omega (arith, ap length empty, ap length same, length-take-le (n - 1) fs (omega (arith, within top)), top.long, top.some)

  -- the last frame hands out its next target y, and b is the cursor after it
  module _ (b y : ℕ) (e : rest f.0 f.1 ≡ y ∷ rest f.0 b) where
    handing : pending rest fs ≡ y ∷ pending rest (set fs (n - 1) (f.0, b))
    handing =
        open_pending ∙ ap (λ q. q ++ pending rest (take (n - 1) fs)) e
        ∙ ap (λ q. y ∷ q) (sym (ap (pending rest) (altered top (f.0, b)) ∙ pending_push rest (take (n - 1) fs) (f.0, b)))

    pub handed : {root : ℕ} {before t : List ℕ} → Going rest root before t (pending rest fs) → Going rest root before t (y ∷ pending rest (set fs (n - 1) (f.0, b)))
    handed {root} {before} {t} s = subst (Going rest root before t) handing s

    pub handed_left : (ms : List Bool) → left rest ms (set fs (n - 1) (f.0, b)) < left rest ms fs
    handed_left ms = omega (arith, ap length handing, length-set fs (n - 1) (f.0, b))

    -- the same of a frame that is told to be so
    pub handed_as : {root : ℕ} {before t : List ℕ} {g : ℕ × ℕ} → g ≡ (f.0, b) → Going rest root before t (pending rest fs) → Going rest root before t (y ∷ pending rest (set fs (n - 1) g))
    handed_as {root} {before} {t} e s = subst (λ h. Going rest root before t (y ∷ pending rest (set fs (n - 1) h))) (sym e) (handed s)

    pub handed_left_as : {g : ℕ × ℕ} → g ≡ (f.0, b) → (ms : List Bool) → left rest ms (set fs (n - 1) g) < left rest ms fs
    handed_left_as e ms = subst (λ h. left rest ms (set fs (n - 1) h) < left rest ms fs) (sym e) (handed_left ms)
