-- Lines laid part after part.
use Rattle.std.proofs.Common.{◌≡◌, ℕ, ◌+◌, ◌*◌, ◌<◌, ◌≤◌, List, [], ◌∷◌, ◌++◌, length, get_or, take, Some, sym, refl, ap, ◌∙◌, arith}
use Rattle.std.proofs.lemmas.List.{length-append, take_more, flat_map_more}
use Rattle.std.proofs.lemmas.Bool.{le-leb, cond-true}
use Rattle.digits.specs.Digits.{digits}
use Rattle.digits.specs.Lay.{laid}
use Rattle.digits.proofs.Hex.{length_digits}
use Rattle.digits.proofs.Laying.{laid_more, laid_first, laid_nothing}
use Rattle.tables.specs.declared.index.ModuleIdx.{ModuleIdx}
use Rattle.lines.specs.Lines.{modules_text, edit_line, chunk_line, Written}
use Rattle.lines.specs.declared.ChunkLine.{ChunkLine}
use Rattle.lines.specs.declared.pen.Pen.{Pen}

-- the buffer after a further part
pub put_more : (out before after : List ℕ) (start n : ℕ) (first second : List ℕ) → start ≤ length out → n ≡ start + length first → before ≡ laid out start first → after ≡ laid before n second → after ≡ laid out start (first ++ second)
put_more out before after start n first second room at b a = a ∙ ap (λ l. laid l n second) b ∙ laid_more out start first second n room at

pub length_modules : (ms : List ModuleIdx) → length (modules_text ms) ≡ 4 * length ms
length_modules [] = refl
length_modules (m ∷ ms) = omega (arith, length-append (digits 4 m.0) (modules_text ms), length_digits 4 m.0, length_modules ms)

pub modules_more : (ms : List ModuleIdx) (i : ℕ) (d : ModuleIdx) → i < length ms → modules_text (take i ms) ++ digits 4 (get_or ms i d).0 ≡ modules_text (take (i + 1) ms)
modules_more ms i d h = flat_map_more (λ m. digits 4 m.0) [] (take i ms) (get_or ms i d) ∙ ap modules_text (sym (take_more ms i d h))

pub written_all : (text before after : List ℕ) (n : ℕ) → length text ≤ length before → n ≡ length text → after ≡ laid before 0 text → Written text before (Some n) after
written_all text before after n room is e =
    record {
      told = ap Some is ∙ sym (cond-true _ _ _ (le-leb _ _ room));
      after = e ∙ laid_first before text ∙ sym (cond-true _ _ _ (le-leb _ _ room));
    }

-- the same, where the further part is the digits of a number
pub put_value : (out before after : List ℕ) (start n : ℕ) (first : List ℕ) (k v w : ℕ) → start ≤ length out → n ≡ start + length first → before ≡ laid out start first → v ≡ w → after ≡ laid before n (digits k v) → after ≡ laid out start (first ++ digits k w)
put_value out before after start n first k v w room at b e a =
    put_more out before after start n first (digits k w) room at b (a ∙ ap (λ u. laid before n (digits k u)) e)

-- a pen that wrote a text from the beginning on
pub record Wrote (before text : List ℕ) (p : Pen) : Type 0 where
  pub out : p.out.now ≡ laid before 0 text
  pub at : p.at ≡ length text

pub wrote_nothing : (before : List ℕ) (p : Pen) → p.out.now ≡ before → p.at ≡ 0 → Wrote before [] p
wrote_nothing before p o a = record { out = o ∙ laid_nothing before 0; at = a }

pub wrote_more : (before text more : List ℕ) (n : ℕ) (p q : Pen) → Wrote before text p → q.out.now ≡ laid p.out.now p.at more → q.at ≡ p.at + n → n ≡ length more → Wrote before (text ++ more) q
wrote_more before text more n p q w o a l =
    record {
      out = put_more before p.out.now q.out.now 0 p.at text more (omega arith) (omega (arith, w.at)) w.out o;
      at = omega (arith, a, w.at, l, length-append text more);
    }

pub wrote_number : (before text : List ℕ) (k v w : ℕ) (p q : Pen) → Wrote before text p → v ≡ w → q.out.now ≡ laid p.out.now p.at (digits k v) → q.at ≡ p.at + k → Wrote before (text ++ digits k w) q
wrote_number before text k v w p q b e o a = wrote_more before text (digits k w) k p q b (o ∙ ap (λ u. laid p.out.now p.at (digits k u)) e) a (sym (length_digits k w))

pub wrote_modules : (before text : List ℕ) (ms : List ModuleIdx) (p q : Pen) → Wrote before text p → q.out.now ≡ laid p.out.now p.at (digits 4 (length ms) ++ modules_text ms) → q.at ≡ p.at + (4 + 4 * length ms) → Wrote before (text ++ (digits 4 (length ms) ++ modules_text ms)) q
wrote_modules before text ms p q b o a = wrote_more before text (digits 4 (length ms) ++ modules_text ms) (4 + 4 * length ms) p q b o a (omega (arith, length-append (digits 4 (length ms)) (modules_text ms), length_digits 4 (length ms), length_modules ms))

pub written : (before text : List ℕ) (p : Pen) → Wrote before text p → length text ≤ length before → Written text before (Some p.at) p.out.now
written before text p w room = written_all text before p.out.now p.at room w.at w.out

pub length_edit : (ms : List ModuleIdx) → length (edit_line ms) ≡ 6 + 4 * length ms
length_edit ms = omega (arith, length_modules ms)

pub length_chunk : (c : ChunkLine) (ms : List ModuleIdx) → length (chunk_line c ms) ≡ 32 + 4 * length ms
length_chunk c ms = omega (arith, length_modules ms)
