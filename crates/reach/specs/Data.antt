-- What a plan's data mean, and what working them out leaves.
use Rattle.std.specs.Prelude.{◌≡◌, ℕ, ◌<◌, Bool, true, false, ◌⊎◌, List, [], map, length, vec_items, ◌≢◌, slice_set}
use Rattle.stores.specs.Pairs.{Pairs}
use Rattle.tables.specs.Panel.{Panel, count}
use Rattle.tables.specs.Graph.{Graph, start}
use Rattle.tables.specs.View.{panel_of, number}
use Rattle.reach.specs.declared.data.PlanData.{PlanData}
use Rattle.reach.specs.Arcs.{graph_of}
use Rattle.reach.specs.Exact.{Exact, Anew}
use Rattle.reach.specs.Held.{held}
use Rattle.reach.specs.Moved.{passing, differs}

abbrev pub panel_in : PlanData → Panel
panel_in d = panel_of d.export.table

abbrev pub marks_in : PlanData → List Bool
marks_in d = vec_items d.export.included.marks

-- the graph of a store's pairs and the plan's marks
abbrev pub graph_in : Pairs → PlanData → Graph
graph_in loads d = graph_of loads (marks_in d)

-- whether the set of a module holds an entry, now and before the last accepted edit
abbrev pub sets_in : PlanData → ℕ → ℕ → Bool
sets_in d = held (vec_items d.sets.sets)

abbrev pub earlier_in : PlanData → ℕ → ℕ → Bool
earlier_in d = held (vec_items d.earlier.sets)

-- the modules that the last accepted edit moved
abbrev pub names_in : PlanData → List ℕ
names_in d = map number (vec_items d.moved)

-- worked out for all entries: no edit came before
pub record Settled (loads : Pairs) (old new : PlanData) : Type 0 where
  pub export : new.export ≡ old.export
  pub exact : Exact (panel_in old) (graph_in loads old) (sets_in new)
  pub earlier : earlier_in new ≡ sets_in new
  pub names : names_in new ≡ []

-- worked out again for the entries that an edit concerns: the earlier sets are those before, and those modules are named whose sets differ
pub record Renewed (loads : Pairs) (concern : ℕ → Bool) (old new : PlanData) : Type 0 where
  pub export : new.export ≡ old.export
  pub earlier : earlier_in new ≡ sets_in old
  pub anew : Anew (length (panel_in old).entries) (panel_in old) (graph_in loads old) concern (sets_in old) (sets_in new)
  pub names : names_in new ≡ passing (differs (length (panel_in old).entries) (sets_in old) (sets_in new)) 0 (count (panel_in old))

-- one mark is set or cleared, and nothing else changes
pub record Marked (m : ℕ) (on : Bool) (old new : PlanData) : Type 0 where
  pub table : new.export.table ≡ old.export.table
  pub marks : marks_in new ≡ slice_set (marks_in old) m on
  pub sets : new.sets ≡ old.sets
  pub earlier : new.earlier ≡ old.earlier
  pub moved : new.moved ≡ old.moved

-- an entry that including x cannot concern: it reaches x already, or does not start at x and reaches no module that loads x
abbrev pub SparedByInclude : Panel → Pairs → (ℕ → ℕ → Bool) → ℕ → ℕ → Type 0
SparedByInclude p loads sets x e = (sets x e ≡ true) ⊎ ((start p e ≢ x) × ((m : ℕ) → m < count p → loads m x ≡ true → sets m e ≡ false))
