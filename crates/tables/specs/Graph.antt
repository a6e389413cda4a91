-- What edits change of a panel: the pairs and the included marks. And the paths that they leave open.
use Rattle.std.specs.Prelude.{◌≡◌, ℕ, ◌<◌, Bool, true, not, ◌&&◌, length, nat_lt, slice_index}
use Rattle.tables.specs.Panel.{Panel, count, external, starts}

-- which module loads which, and which are included
pub record Graph : Type 0 where
  pub loads : ℕ → ℕ → Bool
  pub included : ℕ → Bool

-- a module that a path may pass: one of the panel's, normal and included
abbrev pub open_at : Panel → Graph → ℕ → Bool
open_at p g m = nat_lt m (count p) && (not (external p m) && g.included m)

-- a path: one module or more, each open, each loading the next
pub data Path (p : Panel) (g : Graph) : ℕ → ℕ → Type 0 where
  here : {x : ℕ} → open_at p g x ≡ true → Path p g x x
  on : {x y z : ℕ} → open_at p g x ≡ true → g.loads x y ≡ true → Path p g y z → Path p g x z

-- the module of an entry
abbrev pub start : Panel → ℕ → ℕ
start p e = slice_index (starts p) e

-- the entry's module begins a path that ends at the module
abbrev pub Reaches : Panel → Graph → ℕ → ℕ → Type 0
Reaches p g e y = (e < length p.entries) × Path p g (start p e) y
