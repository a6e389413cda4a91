-- What the sets of all modules hold.
use Rattle.std.specs.Prelude.{ℕ, Bool, List, slice_index_or}
use Rattle.sets.specs.Sets.{member, no_set}
use Rattle.sets.specs.declared.EntrySet.{EntrySet}

-- whether the set of module y holds entry e; none does past the last module
abbrev pub held : List EntrySet → ℕ → ℕ → Bool
held sets y e = member (slice_index_or sets y no_set) e
