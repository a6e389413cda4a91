-- What the numbers before a row's stop are.
use Rattle.std.specs.Prelude.{◌≡◌, ℕ, zero, suc, ◌+◌, ◌<◌, ◌≤◌, Bool, true, false, cond, ◌&&◌, leb, ◌⊎◌, List, Decides, nat_eq, nat_le, nat_lt, refl}
use Rattle.std.proofs.Common.{sym, subst, inl, inr, ⊎_elim, arith}
use Rattle.std.proofs.lemmas.Bool.{cases_lt, le-ltb, lt-ltb, le-leb, lt-leb, ltb-true, and_parts}
use Rattle.std.proofs.lemmas.Bool.Decides.{Decides-below_or, Decides-eqb}
use Rattle.rows.specs.AnyContent.{stop, some, among, in_row, listed_in, row_length}

-- what a stop is
pub record Stops (n : ℕ) (x : ℕ → ℕ) (i f low s : ℕ) : Type 0 where
  pub from : i ≤ s
  pub few : s ≤ i + f
  pub small : (j : ℕ) → i ≤ j → j < s → x j < n
  pub rise : (j : ℕ) → i ≤ j → j + 1 < s → x j < x (j + 1)
  pub first : i < s → low ≤ x i

pub stop_in : (n : ℕ) (x : ℕ → ℕ) (i f low : ℕ) → low ≤ x i → x i < n → stop n x i (suc f) low ≡ stop n x (suc i) f (suc (x i))
unfolding stop
stop_in n x i f low a b = let p : leb low (x i) ≡ true = le-leb low (x i) a in let q : nat_lt (x i) n ≡ true = lt-ltb (x i) n b in rw (p, q)

pub stop_out : (n : ℕ) (x : ℕ → ℕ) (i f low : ℕ) → (x i < low) ⊎ (n ≤ x i) → stop n x i (suc f) low ≡ i
unfolding stop
stop_out n x i f low = ⊎_elim
    (λ a. let p : leb low (x i) ≡ false = lt-leb low (x i) a in rw p)
    (λ b. let q : nat_lt (x i) n ≡ false = le-ltb (x i) n b in rw q (elim (nat_le low (x i)) as (λ (t : Bool). cond (t && false) (stop n x (suc i) f (suc (x i))) i ≡ i) [ true ↦ refl | false ↦ refl ]))

pub stop_none : (n : ℕ) (x : ℕ → ℕ) (i low : ℕ) → stop n x i 0 low ≡ i
unfolding stop
stop_none n x i low = refl

at_first : (x : ℕ → ℕ) (i j : ℕ) (P : ℕ → Type 0) → i ≡ j → P (x i) → P (x j)
at_first x i j P e p = subst (λ (k : ℕ). P (x k)) e p

pub stops : (n : ℕ) (x : ℕ → ℕ) (f i low : ℕ) → Stops n x i f low (stop n x i f low)
stops n x zero i low = subst (Stops n x i zero low) (sym (stop_none n x i low)) (record { from = omega arith; few = omega arith; small = λ j a b. omega arith; rise = λ j a b. omega arith; first = λ a. omega arith })
stops n x (suc f) i low =
    ⊎_elim
    (λ (a : low ≤ x i). ⊎_elim
    (λ (b : x i < n).
    let h = stops n x f (suc i) (suc (x i)) in
    subst (Stops n x i (suc f) low) (sym (stop_in n x i f low a b)) (record {
      from = omega (arith, h.from);
      few = omega (arith, h.few);
      small = λ j p q. ⊎_elim (λ (e : i < j). h.small j (omega arith) q) (λ (e : j ≤ i). let z : i ≡ j = omega arith in at_first x i j (λ v. v < n) z b) (cases_lt i j);
      rise = λ j p q. ⊎_elim
          (λ (e : i < j). h.rise j (omega arith) q)
          (λ (e : j ≤ i).
          let z : i ≡ j = omega arith in
          let y : suc i ≡ j + 1 = omega arith in
          let l : x i < x (suc i) = h.first (omega arith) in
          subst (λ (k : ℕ). x j < x k) y (at_first x i j (λ v. v < x (suc i)) z l))
          (cases_lt i j);
      first = λ _. a;
    }))
    (λ (b : n ≤ x i). outside n x f i low (inr b))
    (cases_lt (x i) n))
    (λ (a : x i < low). outside n x f i low (inl a))
    (swap_cases (x i) low)
  where
    swap_cases : (p q : ℕ) → (q ≤ p) ⊎ (p < q)
    swap_cases p q = ⊎_elim inr inl (cases_lt p q)

    outside : (n : ℕ) (x : ℕ → ℕ) (f i low : ℕ) → (x i < low) ⊎ (n ≤ x i) → Stops n x i (suc f) low (stop n x i (suc f) low)
    outside n x f i low h = subst (Stops n x i (suc f) low) (sym (stop_out n x i f low h)) (record { from = omega arith; few = omega arith; small = λ j a b. omega arith; rise = λ j a b. omega arith; first = λ a. omega arith })

pub among_tells : (k : ℕ) (x : ℕ → ℕ) (d : ℕ) → Decides (among k x d) ((i : ℕ) × (i < k) × (x i ≡ d))
unfolding among
among_tells k x d = Decides-below_or (λ i. nat_eq (x i) d) (λ i. x i ≡ d) (λ n. some n (λ i. nat_eq (x i) d)) (λ i. Decides-eqb (x i) d) refl (λ _. refl) k

pub rows_within : (n : ℕ) (xs : List ℕ) (a b : ℕ) → listed_in n xs a b ≡ true → (a < n) × (b < n)
unfolding listed_in
rows_within n xs a b h =
    let p = and_parts _ _ h in
    let w = (among_tells (row_length n xs a) (in_row xs a) b).0 p.1 in
    let s = (stops n (in_row xs a) 64 0 0).small w.0 (omega arith) w.1 in
    (ltb-true a n p.0, omega (arith, w.2))
