-- The modules whose sets differ, in ascending order.
use Rattle.std.specs.Prelude.{ℕ, zero, suc, ◌+◌, Bool, cond, not, List, [], ◌∷◌}
use Rattle.std.specs.List.{list_any, range_with_len}

-- those of the k numbers from `from` on that pass, in ascending order
abbrev pub passing : (ℕ → Bool) → ℕ → ℕ → List ℕ
passing test from zero = []
passing test from (suc k) = cond (test from) (from ∷ passing test (from + 1) k) (passing test (from + 1) k)

-- one of the two and not the other
abbrev pub unlike : Bool → Bool → Bool
unlike a b = cond a (not b) b

-- some entry below n is in the one set of y and not in the other
abbrev pub differs : ℕ → (ℕ → ℕ → Bool) → (ℕ → ℕ → Bool) → ℕ → Bool
differs n old new y = list_any (λ e. unlike (old y e) (new y e)) (range_with_len 0 n)
