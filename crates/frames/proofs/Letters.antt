-- What is known of a line from its letter.
use Rattle.std.proofs.Common.{◌≡◌, ℕ, ◌/◌, ◌≤◌, Bool, true, false, cond, ◌&&◌, leb, List, [], length, is_some, Some, None, Ok, Err, Option, Result, unwrap_or, sym, refl, ap, ◌∙◌, subst, arith}
use Rattle.std.proofs.lemmas.Bool.{leb-true, and_parts, cond-true, cond-false}
use Rattle.digits.specs.Digits.{bytes_in}
use Rattle.tables.specs.declared.refusal.Refusal.{Refusal}
use Rattle.tables.specs.declared.refusal.Refusal.TheVariants.{MalformedLine, UnknownFrame, OutOfStage}
use Rattle.frames.specs.Text.{Said, bytes_of, line_bytes, letter, field, fits, fields, frame_under, letter_of}
use Rattle.frames.specs.Stages.{takes, after, moved_by}
use Rattle.frames.specs.Lines.{Opens}
use Rattle.frames.specs.declared.stage.Reader.{Reader}
use Rattle.frames.specs.declared.line.Line.{Line}
use Rattle.frames.proofs.Decoded.{line_length, first_byte}

pub record Lettered (line : List ℕ) (c : ℕ) : Type 0 where
  pub decodes : is_some (bytes_in line) ≡ true
  pub count : fits c (length (bytes_of line)) ≡ true

abbrev letter_in : Option (List ℕ) → Result ℕ Refusal
letter_in o = elim o [ Some bytes ↦ cond (fits (letter bytes) (length bytes)) (Ok (letter bytes)) (Err UnknownFrame) | None ↦ Err MalformedLine ]

abbrev frame_in : (ℕ → Bool) → List ℕ → Option (List ℕ) → Result Said Refusal
frame_in allowed line o = elim o [
  | Some bytes ↦ cond (fits (letter bytes) (length bytes)) (cond (allowed (letter bytes)) (fields (letter bytes) line bytes) (Err OutOfStage)) (Err UnknownFrame)
  | None ↦ Err MalformedLine
]

passed : (b : Bool) (x c : ℕ) → cond b (Ok x) (Err UnknownFrame) ≡ Ok c → (b ≡ true) × (x ≡ c)
passed true x c e = (refl, cc)
passed false x c e = let ok_err : ◌≡◌ {A = ℕ} 0 1 = cc in absurd (omega arith)

abbrev Found : Option (List ℕ) → ℕ → Type 0
Found o c = (is_some o ≡ true) × (fits c (length (unwrap_or o [])) ≡ true)

found : (t : Bool) (o : Option (List ℕ)) (c : ℕ) → letter_in (cond t o None) ≡ Ok c → Found o c
found false o c e = let ok_err : ◌≡◌ {A = ℕ} 0 1 = cc in absurd (omega arith)
found true None c e = let ok_err : ◌≡◌ {A = ℕ} 0 1 = cc in absurd (omega arith)
found true (Some bytes) c e =
    let p = passed (fits (letter bytes) (length bytes)) (letter bytes) c e in
    (refl, ap (λ d. fits d (length bytes)) (sym p.1) ∙ p.0)

pub lettered : (line : List ℕ) (c : ℕ) → letter_of line ≡ Ok c → Lettered line c
lettered line c e =
    let f = found (leb 1 (length line) && leb (length line) 512) (bytes_in line) c e in
    record { decodes = f.0; count = f.1 }

framed_in : (allowed : ℕ → Bool) (line : List ℕ) (t : Bool) (o : Option (List ℕ)) (c : ℕ) → letter_in (cond t o None) ≡ Ok c → frame_in allowed line (cond t o None) ≡ cond (allowed c) (fields c line (unwrap_or o [])) (Err OutOfStage)
framed_in allowed line false o c e = let ok_err : ◌≡◌ {A = ℕ} 0 1 = cc in absurd (omega arith)
framed_in allowed line true None c e = let ok_err : ◌≡◌ {A = ℕ} 0 1 = cc in absurd (omega arith)
framed_in allowed line true (Some bytes) c e =
    let p = passed (fits (letter bytes) (length bytes)) (letter bytes) c e in
    ap (λ b. cond b (cond (allowed (letter bytes)) (fields (letter bytes) line bytes) (Err OutOfStage)) (Err UnknownFrame)) p.0
    ∙ ap (λ d. cond (allowed d) (fields d line bytes) (Err OutOfStage)) p.1

-- a line with a letter says what its fields say, where the letter is allowed
pub framed : (allowed : ℕ → Bool) (line : List ℕ) (c : ℕ) → letter_of line ≡ Ok c → frame_under allowed line ≡ cond (allowed c) (fields c line (bytes_of line)) (Err OutOfStage)
framed allowed line c e = framed_in allowed line (leb 1 (length line) && leb (length line) 512) (bytes_in line) c e

stopped : (b : Bool) (x : ℕ) (z : Result Said Refusal) (why : Refusal) → cond b (Ok x) (Err UnknownFrame) ≡ Err why → cond b z (Err UnknownFrame) ≡ Err why
stopped true x z why e = let ok_err : ◌≡◌ {A = ℕ} 0 1 = cc in absurd (omega arith)
stopped false x z why e = cc

refused_in : (allowed : ℕ → Bool) (line : List ℕ) (o : Option (List ℕ)) (why : Refusal) → letter_in o ≡ Err why → frame_in allowed line o ≡ Err why
refused_in allowed line (Some bytes) why e =
    stopped (fits (letter bytes) (length bytes)) (letter bytes) (cond (allowed (letter bytes)) (fields (letter bytes) line bytes) (Err OutOfStage)) why e
refused_in allowed line None why e = cc

-- a line without a letter is refused for the same reason
pub refused : (allowed : ℕ → Bool) (line : List ℕ) (why : Refusal) → letter_of line ≡ Err why → frame_under allowed line ≡ Err why
refused allowed line why e = refused_in allowed line (line_bytes line) why e

pub lettered_as : (line : List ℕ) (c k : ℕ) → letter_of line ≡ Ok c → c ≡ k → Lettered line k
lettered_as line c k e is = lettered line k (e ∙ ap Ok is)

malformed_in : (o : Option (List ℕ)) → is_some o ≡ false → letter_in o ≡ Err MalformedLine
malformed_in None e = refl
malformed_in (Some bytes) e = let true_false : ◌≡◌ {A = ℕ} 0 1 = cc in absurd (omega arith)

pub malformed : (line : List ℕ) → is_some (line_bytes line) ≡ false → letter_of line ≡ Err MalformedLine
malformed line e = malformed_in (line_bytes line) e

well_in : (t : Bool) (o : Option (List ℕ)) → is_some (cond t o None) ≡ true → (t ≡ true) × (is_some o ≡ true) × (cond t o None ≡ Some (unwrap_or o []))
well_in true (Some bytes) e = (refl, refl, refl)
well_in true None e = let false_true : ◌≡◌ {A = ℕ} 0 1 = cc in absurd (omega arith)
well_in false o e = let false_true : ◌≡◌ {A = ℕ} 0 1 = cc in absurd (omega arith)

pub record Well (line : List ℕ) : Type 0 where
  pub some : 1 ≤ length (bytes_of line)
  pub decodes : is_some (bytes_in line) ≡ true
  pub half : length line / 2 ≡ length (bytes_of line)
  pub says : letter_of line ≡ cond (fits (letter (bytes_of line)) (length (bytes_of line))) (Ok (letter (bytes_of line))) (Err UnknownFrame)

pub well : (line : List ℕ) → is_some (line_bytes line) ≡ true → Well line
well line e =
    let p = well_in (leb 1 (length line) && leb (length line) 512) (bytes_in line) e in
    let long = leb-true 1 (length line) (and_parts (leb 1 (length line)) (leb (length line) 512) p.0).0 in
    let twice = line_length line p.1 in
    record { some = omega arith; decodes = p.1; half = omega arith; says = ap letter_in p.2 }

pub decodes : (line : Line) → is_some (bytes_in line.digits.now) ≡ true
decodes line = (lettered line.digits.now line.letter line.known).decodes

module _ (line : List ℕ) (c : ℕ) (known : is_some (line_bytes line) ≡ true) (is : c ≡ field (bytes_of line) 0 1) where
  first_is : c ≡ letter (bytes_of line)
  first_is = is ∙ first_byte (bytes_of line) (well line known).some

  test_is : fits c (length line / 2) ≡ fits (letter (bytes_of line)) (length (bytes_of line))
  test_is = ap (λ n. fits c n) (well line known).half ∙ ap (λ d. fits d (length (bytes_of line))) first_is

  pub letter_passes : fits c (length line / 2) ≡ true → Ok c ≡ letter_of line
  letter_passes e = ap Ok first_is ∙ sym ((well line known).says ∙ cond-true _ _ _ (sym test_is ∙ e))

  pub letter_fails : fits c (length line / 2) ≡ false → Err UnknownFrame ≡ letter_of line
  letter_fails e = sym ((well line known).says ∙ cond-false _ _ _ (sym test_is ∙ e))

-- an accepted line moves the reader by its letter
pub moves : (r : Reader) (line : List ℕ) (c : ℕ) → letter_of line ≡ Ok c → moved_by r line true ≡ after r c
moves r line c e = ap (λ l. elim l [ Ok d ↦ after r d | Err why ↦ r ]) e

pub opens : (text : List ℕ) (line : Line) → line.digits.now ≡ text → Opens text (Ok line)
opens text line same = subst (λ t. Opens t (Ok line)) same (framed (λ _. true) line.digits.now line.letter line.known, λ r. framed (takes r) line.digits.now line.letter line.known, λ r. moves r line.digits.now line.letter line.known)

pub shut : (text : List ℕ) (r : Result Line Refusal) (why : Refusal) → r ≡ Err why → letter_of text ≡ Err why → Opens text r
shut text r why is e = subst (Opens text) (sym is) (refused (λ _. true) text why e, λ q. refused (takes q) text why e)
