-- What each line makes of an export that is being read.
use Rattle.std.specs.Prelude.{◌≡◌, ℕ, ◌+◌, min, Bool, true, false, List, [], ◌∷◌, ◌++◌, Some, None, Ok, Err, vec_items, Option, Result}
use Rattle.std.specs.Result.{result_err}
use Rattle.digits.specs.Digits.{bytes_in}
use Rattle.exports.specs.Check.{verdict}
use Rattle.exports.specs.Limits.{module_refusal, import_refusal, entry_refusal, listed_refusal}
use Rattle.exports.specs.Steps.{empty_panel, with_module, new_module, with_import, with_entry, with_listed}
use Rattle.exports.specs.declared.export.BuildError.{BuildError}
use Rattle.exports.specs.declared.export.BuildError.TheVariants.{Refused, OutOfMemory}
use Rattle.frames.specs.Stages.{takes, moved_by}
use Rattle.frames.specs.Text.{Said, options, a_module, import_record, listed, entry, linking, unlinking, including, excluding, drawing, frame_under}
use Rattle.frames.specs.declared.stage.Reader.{Reader}
use Rattle.frames.specs.declared.stage.Stage.TheVariants.{Start, Tables, Calls}
use Rattle.tables.specs.Panel.{Panel}
use Rattle.tables.specs.View.{panel_of, import_of, entry_of}
use Rattle.tables.specs.declared.refusal.Refusal.{Refusal}
use Rattle.panels.specs.declared.intake.Call.{Call}
use Rattle.panels.specs.declared.intake.Call.TheVariants as calls
use Rattle.panels.specs.declared.intake.CallCounts.{CallCounts}
use Rattle.panels.specs.declared.intake.Intake.{Intake}

-- all that the lines so far have told
pub record Read : Type 0 where
  pub reader : Reader
  pub panel : Panel
  pub marks : List Bool
  pub calls : CallCounts

abbrev pub read_of : Intake → Read
read_of i = record { reader = i.reader; panel = panel_of i.export.table; marks = vec_items i.export.included.marks; calls = i.calls }

-- before the first line: options that the first frame replaces, and nothing else
abbrev pub first_read : Read
first_read = record {
  reader = record { stage = Start; any_module = false };
  panel = record { modules = []; entries = []; listed = []; runtime = 0; splitting = false; by_id = false };
  marks = [];
  calls = record { link = 0; unlink = 0; «include» = 0; exclude = 0; draw = 0 };
}

-- the bytes of an id
abbrev pub id_in : List ℕ → List ℕ
id_in digits = elim (bytes_in digits) [ Some bytes ↦ bytes | None ↦ [] ]

-- the first call finds the tables finished, and is refused as they are
abbrev pub opening : Read → Option Refusal
opening s = elim s.reader.stage [ Start ↦ result_err (verdict s.panel) | Tables ↦ result_err (verdict s.panel) | Calls ↦ None ]

-- why a frame is refused, past its reading
abbrev pub refusal_of : Said → Read → Option Refusal
refusal_of (options o) s = None
refusal_of (a_module flags order id place) s = module_refusal s.panel (id_in id)
refusal_of (import_record r) s = import_refusal s.panel
refusal_of (listed m) s = listed_refusal s.panel
refusal_of (entry e) s = entry_refusal s.panel
refusal_of (linking m d) s = opening s
refusal_of (unlinking m d) s = opening s
refusal_of (including m) s = opening s
refusal_of (excluding m) s = opening s
refusal_of drawing s = opening s

abbrev pub more : ℕ → ℕ
more n = min (n + 1) 4294967295

abbrev pub counted : Call → CallCounts → CallCounts
counted calls.Link c = record { link = more c.link; unlink = c.unlink; «include» = c.«include»; exclude = c.exclude; draw = c.draw }
counted calls.Unlink c = record { link = c.link; unlink = more c.unlink; «include» = c.«include»; exclude = c.exclude; draw = c.draw }
counted calls.Include c = record { link = c.link; unlink = c.unlink; «include» = more c.«include»; exclude = c.exclude; draw = c.draw }
counted calls.Exclude c = record { link = c.link; unlink = c.unlink; «include» = c.«include»; exclude = more c.exclude; draw = c.draw }
counted calls.Draw c = record { link = c.link; unlink = c.unlink; «include» = c.«include»; exclude = c.exclude; draw = more c.draw }

abbrev pub calls_after : Said → CallCounts → CallCounts
calls_after (options o) c = c
calls_after (a_module flags order id place) c = c
calls_after (import_record r) c = c
calls_after (listed m) c = c
calls_after (entry e) c = c
calls_after (linking m d) c = counted calls.Link c
calls_after (unlinking m d) c = counted calls.Unlink c
calls_after (including m) c = counted calls.Include c
calls_after (excluding m) c = counted calls.Exclude c
calls_after drawing c = counted calls.Draw c

abbrev pub panel_after : Said → Panel → Panel
panel_after (options o) p = empty_panel o
panel_after (a_module flags order id place) p = with_module (new_module flags order (id_in id)) p
panel_after (import_record r) p = with_import (import_of r) p
panel_after (listed m) p = with_listed m.0 p
panel_after (entry e) p = with_entry (entry_of e) p
panel_after (linking m d) p = p
panel_after (unlinking m d) p = p
panel_after (including m) p = p
panel_after (excluding m) p = p
panel_after drawing p = p

abbrev pub marks_after : Said → List Bool → List Bool
marks_after (options o) ms = []
marks_after (a_module flags order id place) ms = ms ++ flags.included ∷ []
marks_after (import_record r) ms = ms
marks_after (listed m) ms = ms
marks_after (entry e) ms = ms
marks_after (linking m d) ms = ms
marks_after (unlinking m d) ms = ms
marks_after (including m) ms = ms
marks_after (excluding m) ms = ms
marks_after drawing ms = ms

-- a call changes the counts alone
abbrev pub with_call : Call → Read → Read
with_call call s = record { reader = s.reader; panel = s.panel; marks = s.marks; calls = counted call s.calls }

-- what an accepted frame makes of it
abbrev pub with_frame : Said → Reader → Read → Read
with_frame f next s = record { reader = next; panel = panel_after f s.panel; marks = marks_after f s.marks; calls = calls_after f s.calls }

-- why a line is refused: as no frame, or for what its frame asks
abbrev pub line_refusal : Read → List ℕ → Option Refusal
line_refusal s line = elim (frame_under (takes s.reader) line) [ Ok f ↦ refusal_of f s | Err why ↦ Some why ]

-- what an accepted line makes of it
abbrev pub line_after : Read → List ℕ → Read
line_after s line = elim (frame_under (takes s.reader) line) [ Ok f ↦ with_frame f (moved_by s.reader line true) s | Err why ↦ s ]

-- an accepted line is refused by no rule, and a refusal is the smallest; want of memory is told at any line
abbrev pub Answer : Option Refusal → Result (Unit {0}) BuildError → Type 0
Answer why (Ok x) = why ≡ None
Answer why (Err (Refused other)) = why ≡ Some other
Answer why (Err OutOfMemory) = Unit {0}
