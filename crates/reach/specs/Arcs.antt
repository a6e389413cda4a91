-- What a store's pairs and the marks mean together, and the arcs along which walks go.
use Rattle.std.specs.Prelude.{ℕ, ◌-◌, Bool, false, ◌&&◌, List, nat_lt, slice_index_or}
use Rattle.stores.specs.Pairs.{Pairs}
use Rattle.tables.specs.Panel.{Panel, count}
use Rattle.tables.specs.Graph.{Graph, open_at}
use Rattle.reach.specs.Moved.{passing}

abbrev pub graph_of : Pairs → List Bool → Graph
graph_of loads marks = record { loads = loads; included = λ m. slice_index_or marks m false }

-- whether a module of the panel loads an open one
abbrev pub leads : Panel → Graph → ℕ → ℕ → Bool
leads p g x d = nat_lt x (count p) && (g.loads x d && open_at p g d)

-- the open modules from `at` on that x loads, ascending
abbrev pub arcs_from : Panel → Graph → ℕ → ℕ → List ℕ
arcs_from p g x at = passing (leads p g x) at (count p - at)
