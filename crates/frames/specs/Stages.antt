-- Which letters a reader takes where it stands, and where it stands then.
use Rattle.std.specs.Prelude.{ℕ, Bool, true, false, cond, ◌&&◌, ◌||◌, List, Ok, Err, ◌==◌, nat_eq}
use Rattle.frames.specs.declared.stage.Stage.{Stage}
use Rattle.frames.specs.declared.stage.Stage.TheVariants.{Start, Tables, Calls}
use Rattle.frames.specs.Text.{letter_of}
use Rattle.frames.specs.declared.stage.Reader.{Reader}

-- L, U, I, X and D
abbrev pub is_call : ℕ → Bool
is_call c = c == 76 || c == 85 || c == 73 || c == 88 || c == 68

-- M, S and E, and R once a module has come
abbrev pub is_table : Bool → ℕ → Bool
is_table any c = c == 77 || c == 83 || c == 69 || (c == 82 && any)

abbrev pub takes : Reader → ℕ → Bool
takes r c = elim r.stage [ Start ↦ nat_eq c 71 | Tables ↦ is_table r.any_module c || is_call c | Calls ↦ is_call c ]

abbrev pub stage_after : Stage → ℕ → Stage
stage_after Start c = cond (c == 71) Tables Start
stage_after Tables c = cond (is_call c) Calls Tables
stage_after Calls c = Calls

-- where the reader stands after a letter that it takes
abbrev pub after : Reader → ℕ → Reader
after r c = record { stage = stage_after r.stage c; any_module = r.any_module || (c == 77) }

-- where the reader stands after a line: an accepted one moves it by its letter, a refused one leaves it
abbrev pub moved_by : Reader → List ℕ → Bool → Reader
moved_by r line false = r
moved_by r line true = elim (letter_of line) [ Ok c ↦ after r c | Err why ↦ r ]
