use Rattle.std.specs.Prelude.{◌≡◌, ℕ, ◌<◌, Bool, true, false, List, [], ◌∷◌, ◌++◌, length, Some, None, Option, ◌==◌, slice_index_or}
use Rattle.std.specs.List.{list_any, count_by}

-- whether a list of numbers holds a number
abbrev pub has : List ℕ → ℕ → Bool
has xs y = list_any (λ x. x == y) xs

-- What `next` answers, of the targets still to come from a cursor: nothing where none is left, else the first of them, which is a node, and a cursor from which the others come.
abbrev pub Hands : (ℕ → List ℕ) → ℕ → ℕ → Option (ℕ × ℕ) → Type 0
Hands rest n at None = rest at ≡ []
Hands rest n at (Some (y, c)) = (rest at ≡ y ∷ rest c) × (y < n)

-- Depth first, in preorder: `Walk arcs xs t u` says that the walk over the targets xs in turn, with the nodes t taken before, has taken u at the end, in the order of taking.
pub data Walk (arcs : ℕ → List ℕ) : List ℕ → List ℕ → List ℕ → Type 0 where
  done : {t : List ℕ} → Walk arcs [] t t
  skip : {x : ℕ} {xs t u : List ℕ} → has t x ≡ true → Walk arcs xs t u → Walk arcs (x ∷ xs) t u
  enter : {x : ℕ} {xs t v u : List ℕ} → has t x ≡ false → Walk arcs (arcs x) (t ++ x ∷ []) v → Walk arcs xs v u → Walk arcs (x ∷ xs) t u

-- A path along the arcs.
pub data Path (arcs : ℕ → List ℕ) : ℕ → ℕ → Type 0 where
  here : {x : ℕ} → Path arcs x x
  step : {x y z : ℕ} → has (arcs x) y ≡ true → Path arcs y z → Path arcs x z

-- The marks of the n nodes tell which are in t, and as many are marked as t has.
pub record Marked (n : ℕ) (t : List ℕ) (marks : List Bool) : Type 0 where
  pub long : length marks ≡ n
  pub tell : (k : ℕ) → slice_index_or marks k false ≡ has t k
  pub count : count_by (λ b. b) marks ≡ length t

-- A path leads to y from one of the roots.
abbrev pub Reached : (ℕ → List ℕ) → List ℕ → ℕ → Type 0
Reached arcs roots y = (r : ℕ) × (has roots r ≡ true) × Path arcs r y

-- No number stands twice.
abbrev pub Apart : List ℕ → Type 0
Apart [] = Unit {0}
Apart (x ∷ xs) = (has xs x ≡ false) × Apart xs

-- What a whole walk from the roots has taken: exactly what a path leads to, each once.
pub record Tour (arcs : ℕ → List ℕ) (roots u : List ℕ) : Type 0 where
  pub walk : Walk arcs roots [] u
  pub reached : (y : ℕ) → has u y ≡ true → Reached arcs roots y
  pub reaches : (y : ℕ) → Reached arcs roots y → has u y ≡ true
  pub apart : Apart u

abbrev pub OrderIsReach : Type 0
OrderIsReach = (arcs : ℕ → List ℕ) (roots u : List ℕ) → Walk arcs roots [] u → Tour arcs roots u

abbrev pub OneOrder : Type 0
OneOrder = (arcs : ℕ → List ℕ) (roots t u v : List ℕ) → Walk arcs roots t u → Walk arcs roots t v → u ≡ v
