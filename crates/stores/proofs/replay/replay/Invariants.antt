use Rattle.std.proofs.Common.{◌≡◌, ◌≤◌, ◌++◌, length, drop, vec_items, vec_len, vec_capacity}
use Rattle.stores.specs.Edits.{answers_to, pairs_after}
use Rattle.stores.proofs.replay.replay.Given as goal

abbrev pub invariant-loop-edit : goal.invariant-loop-edit
invariant-loop-edit g l =
    let s = g.S.DependencyStore in
    (vec_len l.answers ≡ l.edit-index)
    × (length l.edits ≤ vec_capacity l.answers)
    × (s.modules l.store ≡ s.modules l.initial.store)
    × (vec_items l.answers ++ answers_to (s.modules l.initial.store) (s.loads l.store) (drop l.edit-index l.edits) ≡ answers_to (s.modules l.initial.store) (s.loads l.initial.store) l.edits)
    × (pairs_after (s.modules l.initial.store) (s.loads l.store) (drop l.edit-index l.edits) ≡ pairs_after (s.modules l.initial.store) (s.loads l.initial.store) l.edits)
    × (s.outside l.store ≡ s.outside l.initial.store)
