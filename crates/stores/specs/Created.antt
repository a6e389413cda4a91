-- How the making of a store is answered, and what it leaves of the caller's memory.
use Rattle.std.specs.Prelude.{◌≡◌, ℕ, ◌*◌, cond, ◌&&◌, List, ◌++◌, drop, replicate, Some, None, Ok, Err, Option, Result, nat_le}
use Rattle.tables.specs.declared.refusal.Refusal.{Refusal}
use Rattle.tables.specs.declared.refusal.Refusal.TheVariants.{Limit, BufferRoom}

-- by the memory per module, the size and the memory that is lent
abbrev pub making_refusal : ℕ → ℕ → ℕ → Option Refusal
making_refusal per n long = cond (nat_le 1 n && nat_le n 512) (cond (nat_le (per * n) long) None (Some BufferRoom)) (Some Limit)

abbrev pub refusal_of : {X Y : Type 0} → (Y → Refusal) → Result X Y → Option Refusal
refusal_of why (Ok x) = None
refusal_of why (Err y) = Some (why y)

-- the first n places hold v, and the later ones are as they were
abbrev pub LaidOut : {X : Type 0} → X → ℕ → List X → List X → Type 0
LaidOut v n old new = new ≡ replicate n v ++ drop n old
