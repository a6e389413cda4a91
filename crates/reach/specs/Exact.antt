-- When marks and sets tell just what paths lead to.
use Rattle.std.specs.Prelude.{◌≡◌, ℕ, ◌<◌, ◌≤◌, Bool, true, false, ◌⊎◌}
use Rattle.tables.specs.Panel.{Panel}
use Rattle.tables.specs.Graph.{Graph, Path, start, Reaches}

-- the marks tell the ends of the paths that begin at x
pub record Told (p : Panel) (g : Graph) (x : ℕ) (marks : ℕ → Bool) : Type 0 where
  pub only : (y : ℕ) → marks y ≡ true → Path p g x y
  pub all : (y : ℕ) → Path p g x y → marks y ≡ true

-- the set of y holds exactly the entries that reach y
pub record Exact (p : Panel) (g : Graph) (sets : ℕ → ℕ → Bool) : Type 0 where
  pub only : (e y : ℕ) → sets y e ≡ true → Reaches p g e y
  pub all : (e y : ℕ) → Reaches p g e y → sets y e ≡ true

-- of the first k entries, those concerned are in just the sets of the modules that they reach, and all others are where they were
pub record Anew (k : ℕ) (p : Panel) (g : Graph) (concern : ℕ → Bool) (old new : ℕ → ℕ → Bool) : Type 0 where
  pub only : (e y : ℕ) → e < k → concern e ≡ true → new y e ≡ true → Path p g (start p e) y
  pub all : (e y : ℕ) → e < k → concern e ≡ true → Path p g (start p e) y → new y e ≡ true
  pub others : (e y : ℕ) → (k ≤ e) ⊎ (concern e ≡ false) → new y e ≡ old y e
