-- What link and unlink answer, by the size and the pairs.
use Rattle.std.specs.Prelude.{◌≡◌, ℕ, true, false, cond, ◌&&◌, is_ok, Ok, Err, Result, nat_lt}
use Rattle.tables.specs.declared.refusal.Refusal.{Refusal}
use Rattle.tables.specs.declared.refusal.Refusal.TheVariants.{ModuleOutOfRange, PairPresent, DependencyLimit, PairAbsent}
use Rattle.stores.specs.Pairs.{Pairs, degree, changed}

abbrev pub Outcome : Type 0
Outcome = Result (Unit {0}) Refusal

abbrev pub link_answer : ℕ → Pairs → ℕ → ℕ → Outcome
link_answer n loads m d = cond (nat_lt m n && nat_lt d n) (cond (loads m d) (Err PairPresent) (cond (nat_lt (degree (loads m) n) 64) (Ok tt) (Err DependencyLimit))) (Err ModuleOutOfRange)

abbrev pub unlink_answer : ℕ → Pairs → ℕ → ℕ → Outcome
unlink_answer n loads m d = cond (nat_lt m n && nat_lt d n) (cond (loads m d) (Ok tt) (Err PairAbsent)) (Err ModuleOutOfRange)

-- a link from old to new pairs, in a store of n modules that has n' after it
pub record Links (n n' : ℕ) (old new : Pairs) (m d : ℕ) (r : Outcome) : Type 0 where
  pub answer : r ≡ link_answer n old m d
  pub size : n' ≡ n
  pub pairs : (a b : ℕ) → new a b ≡ changed (is_ok r) true old m d a b

pub record Unlinks (n n' : ℕ) (old new : Pairs) (m d : ℕ) (r : Outcome) : Type 0 where
  pub answer : r ≡ unlink_answer n old m d
  pub size : n' ≡ n
  pub pairs : (a b : ℕ) → new a b ≡ changed (is_ok r) false old m d a b
