-- What each byte of the input does, by the line that it belongs to.
use Rattle.std.specs.Prelude.{◌≡◌, ℕ, cond, List, [], ◌∷◌, ◌++◌, is_ok, Ok, Result}
use Rattle.exports.specs.declared.export.BuildError.{BuildError}
use Rattle.panels.specs.declared.session.Session.{Session}
use Rattle.panels.specs.Held.{Holds}
use Rattle.panels.specs.Reads.{read_of, first_read, line_refusal, line_after, more, Answer}

-- nothing has come
pub record Begun (s : Session) : Type 0 where
  pub first : read_of s.intake ≡ first_read
  pub empty : Holds [] s.held
  pub none : s.lines ≡ 0

-- the line is at its end: it is answered as a whole, counted, and a new one begins
pub record Ended (line : List ℕ) (s : Session) (r : Result (Unit {0}) BuildError) (left : Session) : Type 0 where
  pub answer : Answer (line_refusal (read_of s.intake) line) r
  pub after : read_of left.intake ≡ cond (is_ok r) (line_after (read_of s.intake) line) (read_of s.intake)
  pub empty : Holds [] left.held
  pub one_more : left.lines ≡ more s.lines

-- the line goes on by one byte, and nothing else changes
pub record HeldOn (line : List ℕ) (byte : ℕ) (s : Session) (r : Result (Unit {0}) BuildError) (left : Session) : Type 0 where
  pub accepted : r ≡ Ok tt
  pub same : left.intake ≡ s.intake
  pub on : Holds (line ++ byte ∷ []) left.held
  pub lines : left.lines ≡ s.lines

-- at the input's end a line that has begun is ended
abbrev pub Finished : List ℕ → Session → Result (Unit {0}) BuildError → Session → Type 0
Finished [] s r left = (r ≡ Ok tt) × (left ≡ s)
Finished (b ∷ line) s r left = Ended (b ∷ line) s r left
