-- A line that is held to one byte past the limit is read as the whole line is.
use Rattle.std.proofs.Common.{◌≡◌, ℕ, ◌<◌, ◌≤◌, Bool, true, cond, leb, List, [], ◌∷◌, ◌++◌, length, take, Some, None, Ok, Err, Option, Result, sym, ap, ◌∙◌, subst, ⊎_elim, arith}
use Rattle.std.proofs.lemmas.List.{length-take, take_all, take-append-le, length_push}
use Rattle.std.proofs.lemmas.Bool.{cases_lt, lt-leb, and_right}
use Rattle.digits.specs.Digits.{bytes_in}
use Rattle.frames.specs.Stages.{takes, moved_by}
use Rattle.frames.specs.Text.{Said, line_bytes, letter, fits, fields, frame_under}
use Rattle.tables.specs.declared.refusal.Refusal.{Refusal}
use Rattle.tables.specs.declared.refusal.Refusal.TheVariants.{MalformedLine, UnknownFrame, OutOfStage}
use Rattle.panels.specs.Reads.{Read, refusal_of, with_frame, line_refusal, line_after}

pub held_more : (held line : List ℕ) (b : ℕ) → held ≡ take 513 line → length held ≤ 512 → held ++ b ∷ [] ≡ take 513 (line ++ b ∷ [])
held_more held line b h few =
    let n : length (take 513 line) ≤ 512 = subst (λ (l : List ℕ). length l ≤ 512) h few in
    let short : length line ≤ 512 = omega (arith, length-take 513 line) in
    ap (λ (l : List ℕ). l ++ b ∷ []) (h ∙ take_all 513 line (omega arith)) ∙ sym (take_all 513 (line ++ b ∷ []) (omega (arith, length_push line b)))

pub held_full : (held line : List ℕ) (b : ℕ) → held ≡ take 513 line → 513 ≤ length held → held ≡ take 513 (line ++ b ∷ [])
held_full held line b h full =
    let n : 513 ≤ length (take 513 line) = subst (λ (l : List ℕ). 513 ≤ length l) h full in
    h ∙ sym (take-append-le 513 line (b ∷ []) (omega (arith, length-take 513 line)))

-- a line past the limit is no line of digits
too_long : (line : List ℕ) → 512 < length line → line_bytes line ≡ None
too_long line h = ap (λ b. cond b (bytes_in line) None) (and_right (leb 1 (length line)) (leb (length line) 512) (lt-leb (length line) 512 h))

abbrev read_as : (ℕ → Bool) → List ℕ → Option (List ℕ) → Result Said Refusal
read_as allowed line o = elim o [
  | Some bytes ↦ cond (fits (letter bytes) (length bytes)) (cond (allowed (letter bytes)) (fields (letter bytes) line bytes) (Err OutOfStage)) (Err UnknownFrame)
  | None ↦ Err MalformedLine
]

malformed : (allowed : ℕ → Bool) (line : List ℕ) → 512 < length line → frame_under allowed line ≡ Err MalformedLine
malformed allowed line h = ap (read_as allowed line) (too_long line h)

abbrev refusal_by : Read → Result Said Refusal → Option Refusal
refusal_by s r = elim r [ Ok f ↦ refusal_of f s | Err why ↦ Some why ]

abbrev after_by : Read → List ℕ → Result Said Refusal → Read
after_by s line r = elim r [ Ok f ↦ with_frame f (moved_by s.reader line true) s | Err why ↦ s ]

module _ (s : Read) (line : List ℕ) where
  cut_long : 512 < length line → 512 < length (take 513 line)
  cut_long h = omega (arith, length-take 513 line)

  pub whole_refusal : line_refusal s (take 513 line) ≡ line_refusal s line
  whole_refusal =
      ⊎_elim
      (λ (long : 512 < length line). ap (refusal_by s) (malformed (takes s.reader) (take 513 line) (cut_long long)) ∙ sym (ap (refusal_by s) (malformed (takes s.reader) line long)))
      (λ (short : length line ≤ 512). ap (line_refusal s) (take_all 513 line (omega arith)))
      (cases_lt 512 (length line))

  pub whole_after : line_after s (take 513 line) ≡ line_after s line
  whole_after =
      ⊎_elim
      (λ (long : 512 < length line). ap (after_by s (take 513 line)) (malformed (takes s.reader) (take 513 line) (cut_long long)) ∙ sym (ap (after_by s line) (malformed (takes s.reader) line long)))
      (λ (short : length line ≤ 512). ap (line_after s) (take_all 513 line (omega arith)))
      (cases_lt 512 (length line))
