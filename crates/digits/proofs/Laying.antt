-- A text laid into a buffer one element after another.
use Rattle.std.proofs.Common.{◌≡◌, ℕ, ◌+◌, ◌<◌, ◌≤◌, List, [], ◌∷◌, ◌++◌, length, get_or, take, drop, set, sym, ap, ◌∙◌, append_assoc, arith}
use Rattle.std.proofs.lemmas.List.{take-append-drop, length-append, length-take-le, set_at, take_at, take_all, take_more, drop_at, drop-drop, drop_more}
use Rattle.digits.specs.Lay.{laid}

-- the first i elements of the text are laid
abbrev pub laid_part : List ℕ → ℕ → List ℕ → ℕ → List ℕ
laid_part out at text i = take at out ++ (take i text ++ drop (at + i) out)

pub part_none : (out : List ℕ) (at : ℕ) (text : List ℕ) → out ≡ laid_part out at text 0
part_none out at text =
    let e : at ≡ at + 0 = omega arith in
    sym (take-append-drop at out) ∙ ap (λ m. take at out ++ drop m out) e

pub part_more : (out : List ℕ) (at : ℕ) (text : List ℕ) (i : ℕ) → at + i < length out → i < length text → set (laid_part out at text i) (at + i) (get_or text i 0) ≡ laid_part out at text (i + 1)
part_more out at text i room more =
    let front : List ℕ = take at out ++ take i text in
    let long : length front ≡ at + i = omega (arith, length-append (take at out) (take i text), length-take-le at out (omega arith), length-take-le i text (omega arith)) in
    let on : at + i + 1 ≡ at + (i + 1) = omega arith in
    let one : List ℕ = get_or text i 0 ∷ [] in
    ap (λ l. set l (at + i) (get_or text i 0)) (sym (append_assoc (take at out) (take i text) (drop (at + i) out)) ∙ ap (λ l. front ++ l) (drop_more out (at + i) 0 room))
    ∙ set_at front (get_or out (at + i) 0) (drop (at + i + 1) out) (get_or text i 0) (at + i) long
    ∙ ap (λ m. front ++ (get_or text i 0 ∷ drop m out)) on
    ∙ append_assoc (take at out) (take i text) (get_or text i 0 ∷ drop (at + (i + 1)) out)
    ∙ ap (λ l. take at out ++ l) (sym (append_assoc (take i text) one (drop (at + (i + 1)) out)))
    ∙ ap (λ l. take at out ++ (l ++ drop (at + (i + 1)) out)) (sym (take_more text i 0 more))

pub part_all : (out : List ℕ) (at : ℕ) (text : List ℕ) (i : ℕ) → i ≡ length text → laid_part out at text i ≡ laid out at text
part_all out at text i e =
    ap (λ m. laid_part out at text m) e ∙ ap (λ l. take at out ++ (l ++ drop (at + length text) out)) (take_all (length text) text (omega arith))

pub laid_nothing : (out : List ℕ) (at : ℕ) → out ≡ laid out at []
laid_nothing out at = part_none out at []

-- one text laid after another is both laid as one
pub laid_more : (out : List ℕ) (start : ℕ) (first second : List ℕ) (n : ℕ) → start ≤ length out → n ≡ start + length first → laid (laid out start first) n second ≡ laid out start (first ++ second)
laid_more out start first second n room e =
    let m : ℕ = start + length first in
    let front : List ℕ = take start out ++ first in
    let long : length front ≡ n = omega (arith, length-append (take start out) first, length-take-le start out room) in
    let same : laid out start first ≡ front ++ drop m out = sym (append_assoc (take start out) first (drop m out)) in
    let on : m + length second ≡ start + length (first ++ second) = omega (arith, length-append first second) in
    ap (λ l. laid l n second) same
    ∙ ap (λ l. l ++ (second ++ drop (n + length second) (front ++ drop m out))) (take_at front (drop m out) n long)
    ∙ ap (λ l. front ++ (second ++ l)) (sym (drop-drop (length second) n (front ++ drop m out)) ∙ ap (drop (length second)) (drop_at front (drop m out) n long) ∙ drop-drop (length second) m out)
    ∙ append_assoc (take start out) first (second ++ drop (m + length second) out)
    ∙ ap (λ l. take start out ++ l) (sym (append_assoc first second (drop (m + length second) out)))
    ∙ ap (λ k. take start out ++ ((first ++ second) ++ drop k out)) on

-- a text laid from the beginning on
pub laid_first : (out text : List ℕ) → laid out 0 text ≡ text ++ drop (length text) out
laid_first out text = let e : 0 + length text ≡ length text = omega arith in ap (λ k. text ++ drop k out) e
