-- What a finished panel is refused for, and in which order.
use Rattle.std.specs.Prelude.{◌≡◌, ℕ, ◌-◌, ◌<◌, ◌≤◌, Bool, true, false, cond, not, ◌&&◌, List, ◌∷◌, ◌++◌, length, take, Ok, Err, Result, ◌==◌, nat_eq, nat_le, slice_index, slice_index_or}
use Rattle.std.specs.List.{flat_map, list_any, range_with_len, ContainsAt as Has}
use Rattle.std.specs.Option.{option_to_list}
use Rattle.tables.specs.declared.refusal.Refusal.{Refusal}
use Rattle.tables.specs.declared.refusal.Refusal.TheVariants.{Limit, ModuleOutOfRange, ExternalRuntime, EntryApart}
use Rattle.tables.specs.Panel.{Panel, count, external, starts}

-- the module numbers that the records resolve to
abbrev pub resolved_numbers : Panel → List ℕ
resolved_numbers p = flat_map (λ i. option_to_list i.resolved) (flat_map (λ m. m.imports) p.modules)

-- every module number in the table: the runtime module's, the entries', the listed ones, the records'
abbrev pub named : Panel → List ℕ
named p = p.runtime ∷ (starts p ++ (p.listed ++ resolved_numbers p))

-- entry e is of another module than the entry before it, and of the same as some earlier one
abbrev pub apart_at : List ℕ → ℕ → Bool
apart_at modules e = not (slice_index modules (e - 1) == slice_index modules e) && list_any (λ m. nat_eq m (slice_index modules e)) (take e modules)

abbrev pub some_apart : List ℕ → Bool
some_apart modules = list_any (apart_at modules) (range_with_len 0 (length modules))

-- the smallest refusal of a finished panel
abbrev pub verdict : Panel → Result (Unit {0}) Refusal
verdict p =
    cond (count p == 0) (Err Limit)
    (cond (list_any (nat_le (count p)) (named p)) (Err ModuleOutOfRange)
    (cond (external p p.runtime) (Err ExternalRuntime)
    (cond (some_apart (starts p)) (Err EntryApart) (Ok tt))))

-- a number in the table is of no module
abbrev pub Unknown : Panel → Type 0
Unknown p = (m : ℕ) × Has (named p) m × (count p ≤ m)

-- three entries in this order: the first and the last of one module, the middle one of another
pub record Apart (modules : List ℕ) : Type 0 where
  pub first : ℕ
  pub middle : ℕ
  pub last : ℕ
  pub early : first < middle
  pub later : middle < last
  pub within : last < length modules
  pub same : slice_index_or modules first 0 ≡ slice_index modules last
  pub other : slice_index_or modules middle 0 ≡ slice_index modules last → ⊥

-- how a finished panel is judged: each refusal exactly where its rule is broken and no rule before it is
pub data Judged (p : Panel) : Result (Unit {0}) Refusal → Type 0 where
  no_modules : count p ≡ 0 → Judged p (Err Limit)
  out_of_range : 0 < count p → Unknown p → Judged p (Err ModuleOutOfRange)
  external_runtime : 0 < count p → (Unknown p → ⊥) → external p p.runtime ≡ true → Judged p (Err ExternalRuntime)
  entry_apart : 0 < count p → (Unknown p → ⊥) → external p p.runtime ≡ false → Apart (starts p) → Judged p (Err EntryApart)
  fit : 0 < count p → (Unknown p → ⊥) → external p p.runtime ≡ false → (Apart (starts p) → ⊥) → Judged p (Ok tt)
