-- What each call of a history owes by the book that it met.
use Rattle.std.specs.Prelude.{◌≡◌, ℕ, ◌<◌, true, cond, ◌⊎◌, List, [], ◌∷◌, length, Some, None, Ok, Err, Option, nat_lt, slice_index}
use Rattle.stores.specs.Answers.{Outcome, link_answer, unlink_answer}
use Rattle.tables.specs.Panel.{Panel, count}
use Rattle.tables.specs.Graph.{Graph, Path, Reaches}
use Rattle.tables.specs.Refusals.{number_of}
use Rattle.tables.specs.declared.refusal.Refusal.TheVariants.{ModuleOutOfRange}
use Rattle.walks.specs.Walks.{has}
use Rattle.plans.specs.Book.{Call, linking, unlinking, including, excluding, refused, accepted, History, target, edited, book}

-- what an include or an exclude is answered, by n modules: a mark may be repeated
abbrev pub mark_answer : ℕ → ℕ → Outcome
mark_answer n m = cond (nat_lt m n) (Ok tt) (Err ModuleOutOfRange)

-- what a call is answered, by n modules and a book: a link and an unlink as a store with the book's pairs answers
abbrev pub answer_by : ℕ → Graph → Call → Outcome
answer_by n g (linking m d) = link_answer n g.loads m d
answer_by n g (unlinking m d) = unlink_answer n g.loads m d
answer_by n g (including m) = mark_answer n m
answer_by n g (excluding m) = mark_answer n m

abbrev pub number_in : Outcome → Option ℕ
number_in (Ok x) = None
number_in (Err why) = Some (number_of why)

-- the number with which a call is refused, or none where it is accepted
abbrev pub refusal : ℕ → Graph → Call → Option ℕ
refusal n g c = number_in (answer_by n g c)

-- some entry reaches y by the one book and not by the other
abbrev pub Moves : Panel → Graph → Graph → ℕ → Type 0
Moves p before after y = (e : ℕ) × ((Reaches p before e y × (Reaches p after e y → ⊥)) ⊎ (Reaches p after e y × (Reaches p before e y → ⊥)))

-- each name is above the one before it, so that none comes twice
abbrev pub Ascending : List ℕ → Type 0
Ascending names = (i j : ℕ) → i < j → j < length names → slice_index names i < slice_index names j

-- an accepted edit names exactly the modules whose reaching entries it changed, ascending, each reached from the target before or after
pub record Accepted (p : Panel) (before : Graph) (c : Call) (k : ℕ) (names : List ℕ) : Type 0 where
  pub allowed : refusal (count p) before c ≡ None
  pub counted : k ≡ length names
  pub ascending : Ascending names
  pub only : (y : ℕ) → has names y ≡ true → Moves p before (edited c before) y
  pub all : (y : ℕ) → Moves p before (edited c before) y → has names y ≡ true
  pub reached : (y : ℕ) → has names y ≡ true → Path p before (target c) y ⊎ Path p (edited c before) (target c) y

-- every call of the history was answered by the book that it met
abbrev pub Lawful : Panel → Graph → History → Type 0
Lawful p opening [] = Unit {0}
Lawful p opening (refused c k ∷ h) = (refusal (count p) (book opening h) c ≡ Some k) × Lawful p opening h
Lawful p opening (accepted c k names ∷ h) = Accepted p (book opening h) c k names × Lawful p opening h
