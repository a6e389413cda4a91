-- The pairs of rows of cells, after one row is written.
use Rattle.std.proofs.Common.{◌≡◌, ℕ, zero, suc, ◌+◌, ◌-◌, ◌*◌, ◌<◌, ◌≤◌, Bool, true, false, ◌&&◌, eqb, ltb, List, ◌++◌, length, take, drop, replicate, slice_range, sym, refl, ap, ◌∙◌, subst, ⊎_elim, arith}
use borrow.Rule.Slice.PartMut.{put_mid}
use Rattle.std.proofs.Math.Nat.{mul-le-mul_left, mul-suc}
use Rattle.std.proofs.lemmas.List.{take-append-le, take-replicate, drop-replicate, length-replicate, length-take, length-take-le, length-drop}
use Rattle.std.proofs.lemmas.Bool.{cases_Bool, cases_eq, cases_lt, eq-eqb, ne_eqb, le-ltb, lt-ltb}
use Rattle.std.proofs.lemmas.Slice.{between_is, between-put_mid, take-put_mid_below, drop-put_mid}
use Rattle.stores.specs.Cells.{row_of, pairs_in, IsRow, Rewritten}
use Rattle.stores.specs.Pairs.{changed, degree, with_number, HasRoom}

-- a row ends before a later one begins
pub rows_apart : (per a b : ℕ) → a < b → per * a + per ≤ per * b
rows_apart per a b h = let e : per * suc a ≡ per * a + per = mul-suc per a in let l : per * suc a ≤ per * b = mul-le-mul_left per (omega arith) in omega arith

pub degree_cong : (f g : ℕ → Bool) (n : ℕ) → ((b : ℕ) → b < n → f b ≡ g b) → degree f n ≡ degree g n
degree_cong f g zero h = refl
degree_cong f g (suc n) h = let e = h n (omega arith) in let i : degree f n ≡ degree g n = degree_cong f g n (λ b q. h b (omega arith)) in rw (e, i)

-- where none from n on is listed, there are no more below a later number
pub degree_beyond : (f : ℕ → Bool) (n k : ℕ) → ((b : ℕ) → n ≤ b → b < n + k → f b ≡ false) → degree f (n + k) ≡ degree f n
degree_beyond f n zero none = ap (degree f) (omega arith)
degree_beyond f n (suc k) none =
    let e : n + suc k ≡ suc (n + k) = omega arith in
    let t : f (n + k) ≡ false = none (n + k) (omega arith) (omega arith) in
    let s : degree f (suc (n + k)) ≡ degree f (n + k) = rw t (omega arith) in
    ap (degree f) e ∙ s ∙ degree_beyond f n k (λ b low high. none b low (omega arith))

module _ {X : Type 0} (listed : List X → ℕ → Bool) (per n : ℕ) where
  pub pairs_row : (xs : List X) (m d : ℕ) → m < n → d < n → pairs_in listed per n xs m d ≡ listed (row_of per xs m) d
  pairs_row xs m d hm hd = let p : ltb m n ≡ true = lt-ltb m n hm in let q : ltb d n ≡ true = lt-ltb d n hd in rw (p, q)

  pub degree_row : (xs : List X) (m : ℕ) → m < n → degree (listed (row_of per xs m)) n ≡ degree (pairs_in listed per n xs m) n
  degree_row xs m hm = degree_cong _ _ n (λ b hb. sym (pairs_row xs m b hm hb))

  pub degree_listed : (xs : List X) (m : ℕ) → m < n → n ≤ 512 → ((b : ℕ) → b < 512 → listed (row_of per xs m) b ≡ true → b < n) → degree (listed (row_of per xs m)) 512 ≡ degree (pairs_in listed per n xs m) n
  degree_listed xs m hm small modules =
      let row = listed (row_of per xs m) in
      let e : n + (512 - n) ≡ 512 = omega arith in
      let none : (b : ℕ) → n ≤ b → b < n + (512 - n) → row b ≡ false = λ b low high. ⊎_elim (λ (t : row b ≡ true). let l = modules b (omega arith) t in absurd (omega arith)) (λ f. f) (cases_Bool (row b)) in
      sym (ap (degree row) e) ∙ degree_beyond row n (512 - n) none ∙ degree_row xs m hm

  -- where no row lists a number below n, there is no pair
  pub none_listed : (xs : List X) → ((m d : ℕ) → m < n → d < n → listed (row_of per xs m) d ≡ false) → (a b : ℕ) → pairs_in listed per n xs a b ≡ false
  none_listed xs none a b =
      ⊎_elim
      (λ (ha : a < n). ⊎_elim
      (λ (hb : b < n). pairs_row xs a b ha hb ∙ none a b ha hb)
      (λ (hb : n ≤ b). let q : ltb b n ≡ false = le-ltb b n hb in rw q (elim (ltb a n) as (λ (t : Bool). (t && false) ≡ false) [ true ↦ refl | false ↦ refl ]))
      (cases_lt b n))
      (λ (ha : n ≤ a). let p : ltb a n ≡ false = le-ltb a n ha in rw p)
      (cases_lt a n)

pub part_is : {X : Type 0} (per : ℕ) (xs : List X) (m first k : ℕ) → first ≡ per * m → k ≡ per → take k (drop first xs) ≡ row_of per xs m
part_is per xs m first k begins part = subst (λ (f : ℕ). take k (drop first xs) ≡ slice_range xs f (f + per)) begins (ap (λ (j : ℕ). take j (drop first xs)) (omega arith))

pub has_room : (f : ℕ → Bool) (k : ℕ) → degree f 512 ≡ k → k < 64 → HasRoom f
unfolding HasRoom
has_room f k e few = subst (λ (j : ℕ). j < 64) (sym e) few

pub below_all : (n b : ℕ) → n ≤ 512 → b < n → b < 512
below_all n b small below = omega arith

-- the k cells from first on are the row of m
pub row_is : {X : Type 0} (per n : ℕ) (xs : List X) (m first k : ℕ) → m < n → per * n ≤ length xs → first ≡ per * m → k ≡ per
    → (ordered : List X → Bool) → ((a : ℕ) → a < n → ordered (row_of per xs a) ≡ true) → IsRow per ordered (take k (drop first xs))
row_is per n xs m first k row room begins part ordered old = record {
  long = let l = rows_apart per m n row in omega (arith, length-take k (drop first xs), length-drop first xs);
  order = ap ordered (part_is per xs m first k begins part) ∙ old m row;
}

-- what holds of all numbers holds of the others
pub others_as : (f g : ℕ → Bool) (v : Bool) (d : ℕ) → ((b : ℕ) → b < 512 → g b ≡ with_number v f d b) → (b : ℕ) → b < 512 → (b ≡ d → ⊥) → g b ≡ f b
others_as f g v d lists b h ne = let t : eqb b d ≡ false = ne_eqb b d ne in lists b h ∙ rw t refl

-- xs with the row of m, its k cells from first on, written as ys
module _ {X : Type 0} (per n : ℕ) (xs ys : List X) (m first k : ℕ) (row : m < n) (room : per * n ≤ length xs) (begins : first ≡ per * m) (part : k ≡ per) (same : length ys ≡ length (take k (drop first xs))) where
  start : first ≤ length xs
  start = let l = rows_apart per m n row in omega arith

  long : length ys ≡ k
  long = let l = rows_apart per m n row in omega (arith, length-take k (drop first xs), length-drop first xs)

  past_kept : drop (per * n) (put_mid first k xs ys) ≡ drop (per * n) xs
  past_kept = let l = rows_apart per m n row in drop-put_mid first k xs ys (per * n) (omega arith) start long

  row_written : row_of per (put_mid first k xs ys) m ≡ ys
  row_written = subst (λ (f : ℕ). slice_range (put_mid first k xs ys) f (f + per) ≡ ys) begins (between-put_mid first k xs ys (first + per) start (omega (arith, long)))

  row_kept : (a : ℕ) → (a ≡ m → ⊥) → row_of per (put_mid first k xs ys) a ≡ row_of per xs a
  row_kept a ne =
      let new = put_mid first k xs ys in
      ⊎_elim
      (λ (h : a < m).
      let l = rows_apart per a m h in
      between_is new (per * a) (per * a + per) ∙ ap (drop (per * a)) (take-put_mid_below first k xs ys (per * a + per) (omega arith) start) ∙ sym (between_is xs (per * a) (per * a + per)))
      (λ (h : m ≤ a).
      let after : m < a = grind arith in
      let l = rows_apart per m a after in
      ap (take (per * a + per - per * a)) (drop-put_mid first k xs ys (per * a) (omega arith) start long))
      (cases_lt a m)

  -- what held of each row holds of each, where it holds of the new one
  pub rows_kept : (test : List X → Bool) → ((a : ℕ) → a < n → test (row_of per xs a) ≡ true) → test ys ≡ true → (a : ℕ) → a < n → test (row_of per (put_mid first k xs ys) a) ≡ true
  rows_kept test old this a ha =
      ⊎_elim
      (λ (e : a ≡ m). ap test (ap (row_of per (put_mid first k xs ys)) e ∙ row_written) ∙ this)
      (λ (ne : a ≡ m → ⊥). ap test (row_kept a ne) ∙ old a ha)
      (cases_eq a m)

  -- the same of the numbers that a row lists, where d alone may have come
  pub modules_kept : (listed : List X → ℕ → Bool) (d : ℕ) → d < n → ((b : ℕ) → b < 512 → (b ≡ d → ⊥) → listed ys b ≡ listed (take k (drop first xs)) b)
      → ((a b : ℕ) → a < n → b < 512 → listed (row_of per xs a) b ≡ true → b < n) → (a b : ℕ) → a < n → b < 512 → listed (row_of per (put_mid first k xs ys) a) b ≡ true → b < n
  modules_kept listed d hd others old a b ha hb there =
      ⊎_elim
      (λ (e : a ≡ m). ⊎_elim
      (λ (f : b ≡ d). omega arith)
      (λ (ne : b ≡ d → ⊥).
      old m b row hb (ap (λ (r : List X). listed r b) (sym (part_is per xs m first k begins part)) ∙ sym (others b hb ne) ∙ ap (λ (r : List X). listed r b) (sym (ap (row_of per (put_mid first k xs ys)) e ∙ row_written)) ∙ there))
      (cases_eq b d))
      (λ (ne : a ≡ m → ⊥). old a b ha hb (ap (λ (r : List X). listed r b) (sym (row_kept a ne)) ∙ there))
      (cases_eq a m)

  -- one number of the row has the value v now: one pair changed
  pairs_written : (listed : List X → ℕ → Bool) (v : Bool) (d : ℕ) → d < n → ((b : ℕ) → b < n → listed ys b ≡ with_number v (listed (take k (drop first xs))) d b)
      → (a b : ℕ) → pairs_in listed per n (put_mid first k xs ys) a b ≡ changed true v (pairs_in listed per n xs) m d a b
  pairs_written listed v d hd lists a b =
      ⊎_elim
      (λ (e : a ≡ m). subst (λ (r : ℕ). pairs_in listed per n (put_mid first k xs ys) r b ≡ changed true v (pairs_in listed per n xs) m d r b) (sym e) this_row)
      (λ (ne : a ≡ m → ⊥).
      let t : eqb a m ≡ false = ne_eqb a m ne in
      let kept : row_of per (put_mid first k xs ys) a ≡ row_of per xs a = row_kept a ne in
      rw (t, kept))
      (cases_eq a m)
    where
      this_row : pairs_in listed per n (put_mid first k xs ys) m b ≡ changed true v (pairs_in listed per n xs) m d m b
      this_row =
          let t : eqb m m ≡ true = eq-eqb m m refl in
          let p : ltb m n ≡ true = lt-ltb m n row in
          ⊎_elim
          (λ (hb : b < n).
          let q : ltb b n ≡ true = lt-ltb b n hb in
          let w : listed (row_of per (put_mid first k xs ys) m) b ≡ with_number v (listed (row_of per xs m)) d b =
          ap (λ (r : List X). listed r b) row_written ∙ lists b hb ∙ ap (λ (r : List X). with_number v (listed r) d b) (part_is per xs m first k begins part) in
          rw (t, p, q, w))
          (λ (hb : n ≤ b).
          let q : ltb b n ≡ false = le-ltb b n hb in
          let far : eqb b d ≡ false = ne_eqb b d (λ e. omega arith) in
          rw (t, p, q, far))
          (cases_lt b n)

  pub rewritten : (listed : List X → ℕ → Bool) (v : Bool) (d : ℕ) → d < n → ((b : ℕ) → b < n → listed ys b ≡ with_number v (listed (take k (drop first xs))) d b)
      → Rewritten listed per n (λ old. changed true v old m d) xs (put_mid first k xs ys)
  rewritten listed v d hd lists = record { pairs = pairs_written listed v d hd lists; past = past_kept }

-- the cells of n rows, filled
pub blank_cells : {X : Type 0} (per r n : ℕ) (xs ys : List X) (v x : X) → r ≡ per → x ≡ v → per * n ≤ length xs → ys ≡ replicate (length (take (r * n) xs)) x → ys ≡ replicate (per * n) v
blank_cells per r n xs ys v x e f room filled =
    let le : r * n ≤ length xs = subst (λ (p : ℕ). p * n ≤ length xs) (sym e) room in
    let l : length (take (r * n) xs) ≡ per * n = length-take-le (r * n) xs le ∙ ap (λ (p : ℕ). p * n) e in
    filled ∙ rw (l, f) refl

-- the rows where the first cells are ys, all blank
module _ {X : Type 0} (per n : ℕ) (v : X) (ys rest : List X) (blank : ys ≡ replicate (per * n) v) where
  pub row_blank : (m : ℕ) → m < n → row_of per (ys ++ rest) m ≡ replicate per v
  row_blank m row =
      let l = rows_apart per m n row in
      let e = per * m + per in
      between_is (ys ++ rest) (per * m) e
      ∙ ap (drop (per * m)) (take-append-le e ys rest (omega (arith, ap length blank, length-replicate (per * n) v)) ∙ ap (take e) blank ∙ take-replicate e (per * n) v l)
      ∙ drop-replicate (per * m) e v
      ∙ ap (λ (k : ℕ). replicate k v) (omega arith)
