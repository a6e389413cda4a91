-- The limits of a panel, and why one more thing is refused.
use Rattle.std.specs.Prelude.{ℕ, ◌+◌, cond, ◌&&◌, List, length, Some, None, sum_by, Option, ◌==◌, nat_le, nat_lt}
use Rattle.tables.specs.declared.refusal.Refusal.{Refusal}
use Rattle.tables.specs.declared.refusal.Refusal.TheVariants.{OutOfStage, Limit}
use Rattle.tables.specs.Panel.{Panel, count}

-- the bytes of all ids
abbrev pub id_bytes : Panel → ℕ
id_bytes p = sum_by (λ m. length m.ident) p.modules

-- the import records of all modules
abbrev pub record_count : Panel → ℕ
record_count p = sum_by (λ m. length m.imports) p.modules

-- by the modules and the id bytes that there are, and the bytes of one id more: 512 modules and 32,768 id bytes at most, an id of 1 to 200 bytes
abbrev pub module_room : ℕ → ℕ → ℕ → Option Refusal
module_room modules bytes id = cond (nat_lt modules 512 && (nat_le 1 id && (nat_le id 200 && nat_le (bytes + id) 32768))) None (Some Limit)

abbrev pub module_refusal : Panel → List ℕ → Option Refusal
module_refusal p id = module_room (count p) (id_bytes p) (length id)

-- by the modules and the records that there are: a record is of the latest module, so there must be one; 8,192 records at most
abbrev pub import_room : ℕ → ℕ → Option Refusal
import_room modules records = cond (modules == 0) (Some OutOfStage) (cond (nat_lt records 8192) None (Some Limit))

abbrev pub import_refusal : Panel → Option Refusal
import_refusal p = import_room (count p) (record_count p)

-- 64 entries at most
abbrev pub entry_room : ℕ → Option Refusal
entry_room entries = cond (nat_lt entries 64) None (Some Limit)

abbrev pub entry_refusal : Panel → Option Refusal
entry_refusal p = entry_room (length p.entries)

-- 512 listed numbers at most
abbrev pub listed_room : ℕ → Option Refusal
listed_room listed = cond (nat_lt listed 512) None (Some Limit)

abbrev pub listed_refusal : Panel → Option Refusal
listed_refusal p = listed_room (length p.listed)
