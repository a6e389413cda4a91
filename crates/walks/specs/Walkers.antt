-- What a walker has taken, and what a walk with it answers.
use Rattle.std.specs.Prelude.{◌≡◌, ℕ, ◌<◌, List, length, Some, None, vec_items, vec_len, Option}
use Rattle.std.specs.List.{AllByRecursion}
use Rattle.walks.specs.declared.walker.Walker.{Walker}
use Rattle.walks.specs.Walks.{Tour}

-- The number of nodes that a walker is for.
abbrev pub size_of : Walker → ℕ
size_of w = vec_len w.marks

-- What the last walk took, in the order of taking.
abbrev pub taken_by : Walker → List ℕ
taken_by w = vec_items w.order

-- The roots are all below n, and the walker's size is n.
pub record Fit (n : ℕ) (roots : List ℕ) (size : ℕ) : Type 0 where
  pub in_range : AllByRecursion (λ x. x < n) roots
  pub sized : size ≡ n

-- What a walk over n nodes answers: nothing where the roots and the walker do not fit n, and the walker is then as before, else how many nodes the walk took, and the walker has them.
abbrev pub Walked : ℕ → (ℕ → List ℕ) → List ℕ → Walker → Walker → Option ℕ → Type 0
Walked n arcs roots before after None = (Fit n roots (size_of before) → ⊥) × (after ≡ before)
Walked n arcs roots before after (Some k) = Fit n roots (size_of before) × (k ≡ length (taken_by after)) × Tour arcs roots (taken_by after)
