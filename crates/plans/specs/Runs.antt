-- Histories of calls for a list of edits.
use Rattle.std.specs.Prelude.{◌≡◌, List, map, reverse}
use Rattle.plans.specs.declared.plan.Edit.{Edit}
use Rattle.plans.specs.declared.plan.Edit.TheVariants.{Link, Unlink, Include, Exclude}
use Rattle.plans.specs.Book.{Call, linking, unlinking, including, excluding, Event, refused, accepted, History}

abbrev pub call_for : Edit → Call
call_for (Link m d) = linking m.0 d.0
call_for (Unlink m d) = unlinking m.0 d.0
call_for (Include m) = including m.0
call_for (Exclude m) = excluding m.0

abbrev pub call_in : Event → Call
call_in (refused c k) = c
call_in (accepted c k names) = c

-- the history, latest first, is of calls for just these edits, in their order
abbrev pub Asked : List Edit → History → Type 0
Asked edits t = map call_in (reverse t) ≡ map call_for edits
