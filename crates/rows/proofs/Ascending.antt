-- What ascending rows list.
use Rattle.std.proofs.Common.{◌≡◌, ℕ, zero, suc, ◌+◌, ◌<◌, ◌≤◌, Bool, true, false, cond, ◌||◌, eqb, ltb, ◌⊎◌, List, length, get_or, Decides, refl, sym, ap, ◌∙◌, subst, inl, inr, ⊎_elim, arith}
use Rattle.std.proofs.lemmas.Bool.{cases_eq, cases_lt, eq-eqb, ne_eqb, cases_Bool, le-ltb, lt-ltb}
use Rattle.std.proofs.lemmas.Bool.Decides.{nat_tests, same_from_decides, Decides-eqb, Decides-ltb, Decides-and, Decides-or, Decides-like, Decides-by_or, Decides-below_and, Decides-below_or}
use Rattle.std.proofs.lemmas.List.{get_or_default}
use Rattle.stores.specs.Pairs.{degree}
use Rattle.stores.proofs.Written.{degree_cong}
use Rattle.rows.specs.Rows.{every, follows, in_range, ascending, listed, Parts, OfModules, RowsAreOfModules}

abbrev pub After : ℕ → ℕ → Type 0
After a b = (a < b) ⊎ ((a ≡ 65535) × (b ≡ 65535))

after_decides : (a b : ℕ) → Decides (follows a b) (After a b)
after_decides a b = Decides-or _ _ (Decides-ltb a b) (Decides-and _ _ (Decides-eqb a 65535) (Decides-eqb b 65535))

abbrev pub Number : ℕ → Type 0
Number x = (x < 512) ⊎ (x ≡ 65535)

-- what the test of a row says
pub record Ascends (xs : List ℕ) : Type 0 where
  pub follow : (i : ℕ) → i < 64 → After (get_or xs i 0) (get_or xs (i + 1) 0)
  pub number : (i : ℕ) → i < 65 → Number (get_or xs i 0)
  pub closed : get_or xs 64 0 ≡ 65535

follow_tells : (xs : List ℕ) (n : ℕ) → Decides (every n (λ i. follows (get_or xs i 0) (get_or xs (i + 1) 0))) ((i : ℕ) → i < n → After (get_or xs i 0) (get_or xs (i + 1) 0))
follow_tells xs n = Decides-below_and (λ i. follows (get_or xs i 0) (get_or xs (i + 1) 0)) (λ i. After (get_or xs i 0) (get_or xs (i + 1) 0)) (λ k. every k (λ i. follows (get_or xs i 0) (get_or xs (i + 1) 0))) (λ i. after_decides _ _) refl (λ _. refl) n

number_tells : (xs : List ℕ) (n : ℕ) → Decides (every n (λ i. in_range (get_or xs i 0))) ((i : ℕ) → i < n → Number (get_or xs i 0))
number_tells xs n = Decides-below_and (λ i. in_range (get_or xs i 0)) (λ i. Number (get_or xs i 0)) (λ k. every k (λ i. in_range (get_or xs i 0))) (λ i. Decides-or _ _ (Decides-ltb _ 512) (Decides-eqb _ 65535)) refl (λ _. refl) n

pub ascends_tells : (xs : List ℕ) → Decides (ascending xs) (Ascends xs)
unfolding ascending
ascends_tells xs = Decides-like (ascending xs)
    (λ w. record { follow = w.0; number = w.1.0; closed = w.1.1 })
    (λ a. (a.follow, (a.number, a.closed)))
    (Decides-and _ _ (follow_tells xs 64) (Decides-and _ _ (number_tells xs 65) (Decides-eqb (get_or xs 64 0) 65535)))

after_trans : (a b c : ℕ) → After a b → After b c → After a c
after_trans a b c h k = ⊎_elim (λ (l : a < b). ⊎_elim (λ (m : b < c). inl (omega arith)) (λ m. inl (omega (arith, m.0, m.1))) k) (λ l. ⊎_elim (λ (m : b < c). inl (omega (arith, l.0, l.1))) (λ m. inr (l.0, m.1)) k) h

far : (x : ℕ → ℕ) → ((i : ℕ) → i < 64 → After (x i) (x (i + 1))) → (i j : ℕ) → i < j → j < 65 → After (x i) (x j)
far x h i zero a b = inl (omega arith)
far x h i (suc j) a b =
    let y : j + 1 ≡ suc j = omega arith in
    let up : After (x j) (x (suc j)) = subst (λ (k : ℕ). After (x j) (x k)) y (h j (omega arith)) in
    ⊎_elim
    (λ (c : i < j). after_trans _ _ _ (far x h i j c (omega arith)) up)
    (λ (c : j ≤ i). let z : j ≡ i = omega arith in subst (λ (k : ℕ). After (x k) (x (suc j))) z up)
    (cases_lt i j)

pub listed_tells : (xs : List ℕ) (d : ℕ) → Decides (listed xs d) ((i : ℕ) × (i < length xs) × (get_or xs i 0 ≡ d))
listed_tells xs d = Decides-like (listed xs d)
    (λ w. (w.0, w.1, w.2 0))
    (λ w. (w.0, w.1, λ e. get_or_default xs w.0 e 0 w.1 ∙ w.2))
    (Decides-by_or (λ x. eqb x d) (λ x. x ≡ d) (λ ys. listed ys d) (λ x. Decides-eqb x d) refl (λ _ _. refl) xs)

pub refuted : (t : Bool) → (t ≡ true → ⊥) → t ≡ false
refuted t h = ⊎_elim (λ (e : t ≡ true). absurd (h e)) (λ f. f) (cases_Bool t)

-- whether d is among the first k numbers
abbrev among : ℕ → (ℕ → ℕ) → ℕ → Bool
among zero x d = false
among (suc k) x d = eqb (x k) d || among k x d

among_tells : (k : ℕ) (x : ℕ → ℕ) (d : ℕ) → Decides (among k x d) ((i : ℕ) × (i < k) × (x i ≡ d))
among_tells k x d = Decides-below_or (λ i. eqb (x i) d) (λ i. x i ≡ d) (λ n. among n x d) (λ i. Decides-eqb (x i) d) refl (λ _. refl) k

degree_insert : (f g : ℕ → Bool) (v n : ℕ) → ((b : ℕ) → g b ≡ (eqb v b || f b)) → f v ≡ false → degree g n ≡ cond (ltb v n) 1 0 + degree f n
degree_insert f g v zero h fresh = let q : ltb v 0 ≡ false = le-ltb v 0 (omega arith) in rw q refl
degree_insert f g v (suc n) h fresh =
    let ih = degree_insert f g v n h fresh in
    let step = h n in
    ⊎_elim
    (λ (e : v ≡ n).
    let t : eqb v n ≡ true = eq-eqb v n e in
    let fn : f n ≡ false = subst (λ (k : ℕ). f k ≡ false) e fresh in
    let l : ltb v n ≡ false = le-ltb v n (omega arith) in
    let m : ltb v (suc n) ≡ true = lt-ltb v (suc n) (omega arith) in
    rw (step, t, fn, m) (let i = rw l at ih in omega arith))
    (λ (ne : v ≡ n → ⊥).
    let t : eqb v n ≡ false = ne_eqb v n ne in
    let same : ltb v (suc n) ≡ ltb v n = grind (arith, nat_tests) in
    rw (step, t, same) (omega arith))
    (cases_eq v n)

degree_none : (x : ℕ → ℕ) (n : ℕ) → degree (among 0 x) n ≡ 0
degree_none x zero = refl
degree_none x (suc n) = let ih : degree (among 0 x) n ≡ 0 = degree_none x n in omega arith

-- ascending numbers below n are as many as they are
degree_among : (n : ℕ) (x : ℕ → ℕ) (k : ℕ) → ((j : ℕ) → j < k → x j < n) → ((i j : ℕ) → i < j → j < k → x i < x j) → degree (among k x) n ≡ k
degree_among n x zero small rise = degree_none x n
degree_among n x (suc k) small rise =
    let ih = degree_among n x k (λ j p. small j (omega arith)) (λ i j p q. rise i j p (omega arith)) in
    let fresh : among k x (x k) ≡ false = refuted (among k x (x k)) (λ t. let w = (among_tells k x (x k)).0 t in let up : x w.0 < x k = rise w.0 k w.1 (omega arith) in omega (arith, w.2)) in
    let grow = degree_insert (among k x) (among (suc k) x) (x k) n (λ b. refl) fresh in
    let inside : ltb (x k) n ≡ true = lt-ltb (x k) n (small k (omega arith)) in
    grow ∙ rw inside (omega arith)

-- a number that is there adds none
absorbed : (k : ℕ) (x : ℕ → ℕ) (b : ℕ) → among k x (x k) ≡ true → among (suc k) x b ≡ among k x b
absorbed k x b there = ⊎_elim
    (λ (e : x k ≡ b). let t : eqb (x k) b ≡ true = eq-eqb (x k) b e in let m : among k x b ≡ true = subst (λ (v : ℕ). among k x v ≡ true) e there in rw (t, m) refl)
    (λ (ne : x k ≡ b → ⊥). let t : eqb (x k) b ≡ false = ne_eqb (x k) b ne in rw t refl)
    (cases_eq (x k) b)

one_more : (t : Bool) (a b : ℕ) → a ≡ cond t 1 0 + b → a ≤ 1 + b
one_more true a b e = omega arith
one_more false a b e = omega arith

-- k numbers are k at most
degree_at_most : (x : ℕ → ℕ) (k n : ℕ) → degree (among k x) n ≤ k
degree_at_most x zero n = let e = degree_none x n in omega arith
degree_at_most x (suc k) n =
    let ih = degree_at_most x k n in
    ⊎_elim
    (λ (t : among k x (x k) ≡ true). let e = degree_cong (among (suc k) x) (among k x) n (λ b _. absorbed k x b t) in omega arith)
    (λ (f : among k x (x k) ≡ false). let e = degree_insert (among k x) (among (suc k) x) (x k) n (λ b. refl) f in let l = one_more (ltb (x k) n) _ _ e in omega arith)
    (cases_Bool (among k x (x k)))

degree_mono : (f g : ℕ → Bool) (n : ℕ) → ((b : ℕ) → f b ≡ true → g b ≡ true) → degree f n ≤ degree g n
degree_mono f g zero h = omega arith
degree_mono f g (suc n) h =
    let ih = degree_mono f g n h in
    ⊎_elim
    (λ (e : f n ≡ true). let k = h n e in rw (e, k) (omega arith))
    (λ (e : f n ≡ false). ⊎_elim (λ (k : g n ≡ true). rw (e, k) (omega arith)) (λ (k : g n ≡ false). rw (e, k) (omega arith)) (cases_Bool (g n)))
    (cases_Bool (f n))

module _ (xs : List ℕ) (long : length xs ≡ 65) (row : ascending xs ≡ true) where
  pub behind : (i j : ℕ) → i < j → j < 65 → After (get_or xs i 0) (get_or xs j 0)
  behind = far (λ i. get_or xs i 0) ((ascends_tells xs).0 row).follow

  pub numbers : (i : ℕ) → i < 65 → Number (get_or xs i 0)
  numbers = ((ascends_tells xs).0 row).number

  pub last_ends : get_or xs 64 0 ≡ 65535
  last_ends = ((ascends_tells xs).0 row).closed

  pub level : (i j : ℕ) → i ≤ j → j < 65 → get_or xs i 0 ≤ get_or xs j 0
  level i j a b = ⊎_elim
      (λ (l : i < j). ⊎_elim (λ (s : get_or xs i 0 < get_or xs j 0). omega arith) (λ s. omega (arith, s.0, s.1)) (behind i j l b))
      (λ (g : j ≤ i). let e : i ≡ j = omega arith in subst (λ (k : ℕ). get_or xs i 0 ≤ get_or xs k 0) e (omega arith))
      (cases_lt i j)

  pub strict : (i j : ℕ) → i < j → j < 65 → get_or xs i 0 < 65535 → get_or xs i 0 < get_or xs j 0
  strict i j a b c = ⊎_elim (λ (s : get_or xs i 0 < get_or xs j 0). s) (λ s. omega (arith, s.0, s.1)) (behind i j a b)

  -- numbers below n at the row's beginning count
  pub many : (n k : ℕ) → n ≤ 512 → k ≤ 65 → ((j : ℕ) → j < k → get_or xs j 0 < n) → k ≤ degree (listed xs) n
  many n k small few below =
      let e = degree_among n (λ i. get_or xs i 0) k below (λ i j a b. strict i j a (omega arith) (let l = below i (omega arith) in omega arith)) in
      let m = degree_mono (among k (λ i. get_or xs i 0)) (listed xs) n (λ b t. let w = (among_tells k (λ i. get_or xs i 0) b).0 t in (listed_tells xs b).1 (w.0, omega (arith, w.1), w.2)) in
      omega arith

  pub counted : (n p : ℕ) → n ≤ 512 → Parts xs n p → degree (listed xs) n ≡ p
  counted n p small parts =
      degree_cong (listed xs) (among p (λ i. get_or xs i 0)) n (λ b below.
      same_from_decides _ _ (listed_tells xs b) (
        (λ t. let w = (among_tells p (λ i. get_or xs i 0) b).0 t in (w.0, omega (arith, w.1, parts.few), w.2)),
        (λ w. (among_tells p (λ i. get_or xs i 0) b).1 (w.0, ⊎_elim (λ (l : w.0 < p). l) (λ (g : p ≤ w.0). let high = parts.high w.0 g (omega (arith, w.1)) in omega (arith, w.2)) (cases_lt w.0 p), w.2)),
      ))
      ∙ degree_among n (λ i. get_or xs i 0) p parts.low (λ i j a b. strict i j a (omega (arith, parts.few)) (let l = parts.low i (omega arith) in omega arith))

  -- no number from d on is listed before the place of d
  pub before_next : (d p k : ℕ) → Parts xs d p → d ≤ k → (p < 65 → k < get_or xs p 0) → listed xs k ≡ false
  before_next d p k parts low first = refuted (listed xs k) (λ t.
      let w = (listed_tells xs k).0 t in
      ⊎_elim
      (λ (l : w.0 < p). let z = parts.low w.0 l in omega (arith, w.2))
      (λ (g : p ≤ w.0). let z = level p w.0 g (omega (arith, w.1)) in let f = first (omega (arith, w.1)) in omega (arith, w.2))
      (cases_lt w.0 p))

  -- where no number from place k on is below n, there are k at most
  few_before : (n k : ℕ) → k ≤ 65 → ((i : ℕ) → k ≤ i → i < 65 → n ≤ get_or xs i 0) → degree (listed xs) n ≤ k
  few_before n k within high =
      let e = degree_cong (listed xs) (among k (λ i. get_or xs i 0)) n (λ b below.
      same_from_decides _ _ (listed_tells xs b) (
        (λ t. let w = (among_tells k (λ i. get_or xs i 0) b).0 t in (w.0, omega (arith, w.1), w.2)),
        (λ w. (among_tells k (λ i. get_or xs i 0) b).1 (w.0, ⊎_elim (λ (l : w.0 < k). l) (λ (g : k ≤ w.0). let z = high w.0 g (omega (arith, w.1)) in absurd (omega (arith, w.2))) (cases_lt w.0 k), w.2)),
      )) in
      let l = degree_at_most (λ i. get_or xs i 0) k n in
      omega arith

  of_modules : OfModules 512 xs
  of_modules = record {
    few = few_before 512 64 (omega arith) (λ i g l. let z : i ≡ 64 = omega arith in let v = ap (λ (j : ℕ). get_or xs j 0) z in omega (arith, last_ends));
    small = λ d t ne. let w = (listed_tells xs d).0 t in ⊎_elim (λ (l : get_or xs w.0 0 < 512). omega (arith, w.2)) (λ (e : get_or xs w.0 0 ≡ 65535). absurd (ne (sym w.2 ∙ e))) (numbers w.0 (omega (arith, w.1)));
    fills = λ i j e a b. let l = level i j a b in ⊎_elim (λ (s : get_or xs j 0 < 512). omega arith) (λ (f : get_or xs j 0 ≡ 65535). f) (numbers j b);
    closed = last_ends;
  }

pub rows_are_of_modules : RowsAreOfModules
rows_are_of_modules row h = of_modules row h.long h.order
