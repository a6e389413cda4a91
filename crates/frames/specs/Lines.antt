-- What an opened line settles of the text that it was opened from.
use Rattle.std.specs.Prelude.{◌≡◌, ℕ, cond, List, true, Ok, Err, Result}
use Rattle.tables.specs.declared.refusal.Refusal.{Refusal}
use Rattle.tables.specs.declared.refusal.Refusal.TheVariants.{OutOfStage}
use Rattle.frames.specs.declared.line.Line.{Line}
use Rattle.frames.specs.declared.stage.Reader.{Reader}
use Rattle.frames.specs.Text.{Said, bytes_of, fields, frame_of, frame_under}
use Rattle.frames.specs.Stages.{takes, after, moved_by}

-- what the line's fields say
abbrev pub said_by : Line → Result Said Refusal
said_by line = fields line.letter line.digits.now (bytes_of line.digits.now)

-- what the text says, and where it moves each reader that takes its letter; a text with no letter is refused, whatever came before it
abbrev pub Opens : List ℕ → Result Line Refusal → Type 0
Opens text (Ok line) =
    (frame_of text ≡ said_by line)
    × ((r : Reader) → frame_under (takes r) text ≡ cond (takes r line.letter) (said_by line) (Err OutOfStage))
    × ((r : Reader) → moved_by r text true ≡ after r line.letter)
Opens text (Err why) = (frame_of text ≡ Err why) × ((r : Reader) → frame_under (takes r) text ≡ Err why)
