-- In rows that are in order, a row of any content ends where the modules do.
use Rattle.std.proofs.Common.{◌≡◌, ℕ, zero, suc, ◌+◌, ◌-◌, ◌*◌, ◌<◌, ◌≤◌, true, false, ◌&&◌, ltb, List, length, drop, get_or, sym, refl, ap, ◌∙◌, subst, ⊎_elim, arith}
use Rattle.std.proofs.lemmas.Bool.{cases_lt, le-ltb, lt-ltb, ltb-true, and_parts, and_from}
use Rattle.std.proofs.lemmas.Bool.Decides.{same_from_decides}
use Rattle.std.proofs.lemmas.List.{get_or-take, get_or-drop, length-take, length-drop}
use Rattle.stores.specs.Cells.{row_of}
use Rattle.stores.proofs.Written.{rows_apart}
use Rattle.rows.specs.Rows.{ascending, listed, OfModules}
use Rattle.rows.specs.AnyContent.{rows_of, in_row, stop, row_length, among, listed_in, InOrder, SamePairs}
use Rattle.rows.specs.RowFacts.{stops, stop_in, among_tells}
use Rattle.rows.proofs.Ascending.{listed_tells, level, strict, last_ends, rows_are_of_modules}

-- a module's number, in a row that is in order, stands before the stop
before_stop : (n : ℕ) (x : ℕ → ℕ) → ((i j : ℕ) → i ≤ j → j < 65 → x i ≤ x j) → ((i j : ℕ) → i < j → j < 65 → x i < n → x i < x j)
    → (f i low : ℕ) → i + f ≤ 65 → (x i < n → low ≤ x i) → (j : ℕ) → i ≤ j → j < i + f → x j < n → j < stop n x i f low
before_stop n x level rise zero i low few above j a b small = absurd (omega arith)
before_stop n x level rise (suc f) i low few above j a b small =
    let here : x i < n = (let l = level i j a (omega arith) in omega arith) in
    let on : stop n x i (suc f) low ≡ stop n x (suc i) f (suc (x i)) = stop_in n x i f low (above here) here in
    subst (λ (s : ℕ). j < s) (sym on)
    (⊎_elim
    (λ (l : i < j). before_stop n x level rise f (suc i) (suc (x i)) (omega arith) (λ _. let r = rise i (suc i) (omega arith) (omega arith) here in omega arith) j (omega arith) (omega arith) small)
    (λ (g : j ≤ i). let s = (stops n x f (suc i) (suc (x i))).from in omega arith)
    (cases_lt i j))

module _ (n : ℕ) (xs : List ℕ) (h : InOrder n xs) (m : ℕ) (row : m < n) where
  long : length (row_of 65 xs m) ≡ 65
  long = let l = rows_apart 65 m n row in omega (arith, h.room, length-take (65 * m + 65 - 65 * m) (drop (65 * m) xs), length-drop (65 * m) xs)

  same_number : (i : ℕ) → i < 65 → get_or (row_of 65 xs m) i 0 ≡ in_row xs m i
  same_number i l = get_or-take (65 * m + 65 - 65 * m) (drop (65 * m) xs) i 0 (omega arith) ∙ get_or-drop (65 * m) xs i 0

  order : ascending (row_of 65 xs m) ≡ true
  order = h.ordered m row

  rows_level : (i j : ℕ) → i ≤ j → j < 65 → in_row xs m i ≤ in_row xs m j
  rows_level i j a b = let l = level (row_of 65 xs m) long order i j a b in omega (arith, same_number i (omega arith), same_number j b)

  rows_rise : (i j : ℕ) → i < j → j < 65 → in_row xs m i < n → in_row xs m i < in_row xs m j
  rows_rise i j a b c =
      let e = same_number i (omega arith) in
      let l = strict (row_of 65 xs m) long order i j a b (omega (arith, h.small)) in
      omega (arith, same_number j b)

  ends : in_row xs m 64 ≡ 65535
  ends = sym (same_number 64 (omega arith)) ∙ last_ends (row_of 65 xs m) long order

  among_listed : (d : ℕ) → among (row_length n xs m) (in_row xs m) d ≡ (ltb d n && listed (row_of 65 xs m) d)
  among_listed d =
      let s = stops n (in_row xs m) 64 0 0 in
      same_from_decides _ _ (among_tells (row_length n xs m) (in_row xs m) d) (
        (λ t.
            let p = and_parts _ _ t in
            let below : d < n = ltb-true d n p.0 in
            let w = (listed_tells (row_of 65 xs m) d).0 p.1 in
            let inside : w.0 < 65 = omega (arith, w.1, long) in
            let e : in_row xs m w.0 ≡ d = sym (same_number w.0 inside) ∙ w.2 in
            let before : w.0 < 64 = ⊎_elim (λ (l : w.0 < 64). l) (λ (g : 64 ≤ w.0). let z : w.0 ≡ 64 = omega arith in let v = ap (in_row xs m) z in absurd (omega (arith, ends, h.small))) (cases_lt w.0 64) in
            (w.0, before_stop n (in_row xs m) rows_level rows_rise 64 0 0 (omega arith) (λ _. omega arith) w.0 (omega arith) (omega arith) (omega arith), e)),
        (λ w.
            let few : w.0 < 64 = omega (arith, w.1, s.few) in
            let below : d < n = (let l = s.small w.0 (omega arith) w.1 in omega (arith, w.2)) in
            and_from _ _ (lt-ltb d n below) ((listed_tells (row_of 65 xs m) d).1 (w.0, omega (arith, long), same_number w.0 (omega arith) ∙ w.2))),
      )

pub same_pairs : (n : ℕ) (xs : List ℕ) → InOrder n xs → SamePairs n xs
unfolding listed_in
same_pairs n xs h =
    let size : rows_of n xs ≡ n = omega (arith, h.small, h.room) in
    record {
      size = size;
      pairs = λ a b. ap (λ (k : ℕ). listed_in k xs a b) size ∙ ⊎_elim
          (λ (l : a < n). let t : ltb a n ≡ true = lt-ltb a n l in let e = among_listed n xs h a l b in rw (t, e) refl)
          (λ (g : n ≤ a). let t : ltb a n ≡ false = le-ltb a n g in rw t refl)
          (cases_lt a n);
    }

pub store_rows : (n : ℕ) (xs : List ℕ) → InOrder n xs → (m : ℕ) → m < n → OfModules n (row_of 65 xs m)
store_rows n xs h m row =
    let r = rows_are_of_modules (row_of 65 xs m) (record { long = long n xs h m row; order = h.ordered m row }) in
    record { few = r.few; small = λ d t ne. h.modules m d row (r.small d t ne) t; fills = r.fills; closed = r.closed }
