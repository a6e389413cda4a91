-- Spans that lie one after another in a list.
use Rattle.std.specs.Prelude.{ℕ, Bool, ◌&&◌, List, [], ◌∷◌, ◌==◌, nat_le}
use Rattle.std.specs.List.{between}
use Rattle.tables.specs.declared.module.Span.{Span}

-- the part of a list that a span names
abbrev pub cut : {A : Type 0} → List A → Span → List A
cut xs s = between s.start s.end xs

-- the spans lie one after another from `from` on, and the last ends at `to`
abbrev pub tiled : ℕ → List Span → ℕ → Bool
tiled from [] to = from == to
tiled from (s ∷ ss) to = s.start == from && (nat_le from s.end && tiled s.end ss to)
