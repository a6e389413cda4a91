-- In a store the words of a square are those of its rows.
use Rattle.std.proofs.Common.{◌≡◌, ℕ, ◌+◌, ◌-◌, ◌*◌, ◌/◌, ◌%◌, ◌<◌, ◌≤◌, Bool, false, ◌&&◌, ltb, List, drop, get_or, refl, sym, ap, ◌∙◌, ⊎_elim, arith}
use Rattle.std.proofs.lemmas.Bool.{cases_lt, le-ltb}
use Rattle.std.proofs.lemmas.List.{get_or-take, get_or-drop}
use Rattle.sets.specs.Bits.{bit}
use Rattle.stores.specs.Cells.{row_of}
use Rattle.squares.specs.Square.{bits_in}
use Rattle.squares.specs.AnyContent.{Stored, SamePairs, place, side_of, pairs_in}

same_word : (words : List ℕ) (m d : ℕ) → d < 512 → get_or (row_of 8 words m) (d / 64) 0 ≡ get_or words (place m d) 0
same_word words m d h = get_or-take (8 * m + 8 - 8 * m) (drop (8 * m) words) (d / 64) 0 (omega arith) ∙ get_or-drop (8 * m) words (d / 64) 0

same_bit : (words : List ℕ) (m d : ℕ) → d < 512 → bit (get_or words (place m d) 0) (d % 64) ≡ bits_in (row_of 8 words m) d
unfolding bits_in
same_bit words m d h = ap (λ (w : ℕ). bit w (d % 64)) (sym (same_word words m d h))

same_pair : (n : ℕ) (words : List ℕ) (a b : ℕ) → n ≤ 512 → pairs_in n words a b ≡ (ltb a n && (ltb b n && bits_in (row_of 8 words a) b))
unfolding pairs_in
same_pair n words a b small =
    ⊎_elim
    (λ (l : b < n). ap (λ (t : Bool). ltb a n && (ltb b n && t)) (same_bit words a b (omega arith)))
    (λ (g : n ≤ b). let t : ltb b n ≡ false = le-ltb b n g in rw t refl)
    (cases_lt b n)

pub same_pairs : (n : ℕ) (words : List ℕ) → Stored n words → SamePairs n words
same_pairs n words h =
    let size : side_of n words ≡ n = omega (arith, h.small, h.room) in
    record { size = size; pairs = λ a b. ap (λ (k : ℕ). pairs_in k words a b) size ∙ same_pair n words a b h.small }
