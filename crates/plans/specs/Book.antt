-- The plain book of a plan: pairs and included marks, opened with those at creation and changed by accepted edits alone.
use Rattle.std.specs.Prelude.{ℕ, Bool, true, false, cond, List, [], ◌∷◌, Ok, Err, Result, ◌==◌}
use Rattle.stores.specs.Pairs.{changed}
use Rattle.tables.specs.Graph.{Graph}
use Rattle.tables.specs.Refusals.{number_of}
use Rattle.tables.specs.declared.refusal.Refusal.{Refusal}

-- a call for an edit
pub data Call : Type 0 where
  linking : ℕ → ℕ → Call
  unlinking : ℕ → ℕ → Call
  including : ℕ → Call
  excluding : ℕ → Call

-- a call that was refused with a number, or accepted with a count and the modules that it names
pub data Event : Type 0 where
  refused : Call → ℕ → Event
  accepted : Call → ℕ → List ℕ → Event

-- the latest first
abbrev pub History : Type 0
History = List Event

-- a call as it was answered, with the modules that are named then
abbrev pub event_of : Call → Result ℕ Refusal → List ℕ → Event
event_of c (Ok k) names = accepted c k names
event_of c (Err why) names = refused c (number_of why)

-- the target of an edit: the second module of link and unlink, else the module itself
abbrev pub target : Call → ℕ
target (linking m d) = d
target (unlinking m d) = d
target (including m) = m
target (excluding m) = m

abbrev pub with_mark : (ℕ → Bool) → ℕ → Bool → ℕ → Bool
with_mark marks m on x = cond (x == m) on (marks x)

-- the book with one edit more: its pair is added or struck, or its mark set or cleared
abbrev pub edited : Call → Graph → Graph
edited (linking m d) g = record { loads = changed true true g.loads m d; included = g.included }
edited (unlinking m d) g = record { loads = changed true false g.loads m d; included = g.included }
edited (including m) g = record { loads = g.loads; included = with_mark g.included m true }
edited (excluding m) g = record { loads = g.loads; included = with_mark g.included m false }

-- the book after a history, from what it was opened with
abbrev pub book : Graph → History → Graph
book opening [] = opening
book opening (refused c k ∷ h) = book opening h
book opening (accepted c k names ∷ h) = edited c (book opening h)

-- the book before the last accepted edit
abbrev pub earlier_book : Graph → History → Graph
earlier_book opening [] = opening
earlier_book opening (refused c k ∷ h) = earlier_book opening h
earlier_book opening (accepted c k names ∷ h) = book opening h

-- what the last accepted edit names
abbrev pub last_named : History → List ℕ
last_named [] = []
last_named (refused c k ∷ h) = last_named h
last_named (accepted c k names ∷ h) = names
