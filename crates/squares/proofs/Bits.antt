-- A row of bits after one write, and how many of its bits are set.
use Rattle.std.proofs.Common.{◌≡◌, ℕ, zero, suc, ◌+◌, ◌/◌, ◌%◌, ◌<◌, Bool, false, cond, eqb, List, length, get_or, set, count_by, sym, refl, ap, ◌∙◌, ⊎_elim, add-one, arith, get_or-set_other, get_or-set_same}
use Rattle.std.specs.List.{range_with_len}
use Rattle.std.proofs.lemmas.List.Sums.{sum_by-cons}
use Rattle.std.proofs.lemmas.Bool.{cases_eq, ne_eqb}
use Rattle.std.proofs.lemmas.Bool.Decides.{nat_tests}
use Rattle.stores.specs.Pairs.{degree, with_number}
use Rattle.sets.specs.Bits.{bit}
use Rattle.squares.specs.Square.{bits_in}

-- one word written, whose bits are as told: one number changed
pub bits_written : (ws : List ℕ) (d v : ℕ) (val : Bool) → d / 64 < length ws
    → ((j : ℕ) → j < 64 → bit v j ≡ cond (eqb j (d % 64)) val (bit (get_or ws (d / 64) 0) j))
    → (b : ℕ) → bits_in (set ws (d / 64) v) b ≡ with_number val (bits_in ws) d b
unfolding bits_in
bits_written ws d v val within bits b =
    ⊎_elim
    (λ (e : b / 64 ≡ d / 64).
    let g : get_or (set ws (d / 64) v) (b / 64) 0 ≡ v = ap (λ (p : ℕ). get_or (set ws (d / 64) v) p 0) e ∙ get_or-set_same ws (d / 64) v 0 within in
    let j : b % 64 < 64 = omega arith in
    let w = bits (b % 64) j in
    let o : get_or ws (d / 64) 0 ≡ get_or ws (b / 64) 0 = ap (λ (p : ℕ). get_or ws p 0) (sym e) in
    let same : eqb (b % 64) (d % 64) ≡ eqb b d = grind (arith, nat_tests) in
    rw (g, w, o, same) refl)
    (λ (ne : b / 64 ≡ d / 64 → ⊥).
    let g : get_or (set ws (d / 64) v) (b / 64) 0 ≡ get_or ws (b / 64) 0 = get_or-set_other ws (d / 64) (b / 64) v 0 ne in
    let far : eqb b d ≡ false = ne_eqb b d (λ e. omega arith) in
    rw (g, far) refl)
    (cases_eq (b / 64) (d / 64))

-- counted from a on
degree_from : (row : ℕ → Bool) (n a : ℕ) → degree row (a + n) ≡ degree row a + count_by row (range_with_len a n)
degree_from row zero a = let e : a + 0 ≡ a = omega arith in ap (degree row) e ∙ omega arith
degree_from row (suc n) a =
    let e : a + suc n ≡ a + 1 + n = omega arith in
    let ih = degree_from row n (a + 1) in
    let s : degree row (a + 1) ≡ cond (row a) 1 0 + degree row a = rw add-one refl in
    let t : count_by row (range_with_len a (suc n)) ≡ cond (row a) 1 0 + count_by row (range_with_len (a + 1) n) = sum_by-cons (λ (x : ℕ). cond (row x) 1 0) a (range_with_len (a + 1) n) in
    ap (degree row) e ∙ omega arith

pub degree_counted : (row : ℕ → Bool) (n : ℕ) → count_by row (range_with_len 0 n) ≡ degree row n
degree_counted row n = let e = degree_from row n 0 in let z : 0 + n ≡ n = omega arith in let s = ap (degree row) z in omega arith
