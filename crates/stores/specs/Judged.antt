-- What each answer to a link or an unlink says, in words of the size and the pairs.
use Rattle.std.specs.Prelude.{◌≡◌, ℕ, ◌<◌, ◌≤◌, true, false, ◌⊎◌, Ok, Err}
use Rattle.tables.specs.declared.refusal.Refusal.TheVariants.{ModuleOutOfRange, PairPresent, DependencyLimit, PairAbsent}
use Rattle.stores.specs.Answers.{Outcome}
use Rattle.stores.specs.Pairs.{Pairs, degree}
use Rattle.stores.specs.declared.edit.Edit.{Edit}
use Rattle.stores.specs.declared.edit.Edit.TheVariants.{Link, Unlink}

-- each refusal of a link exactly where its rule is broken and no rule before it is
pub data LinkJudged (n : ℕ) (loads : Pairs) (m d : ℕ) : Outcome → Type 0 where
  link_beyond : (n ≤ m) ⊎ (n ≤ d) → LinkJudged n loads m d (Err ModuleOutOfRange)
  present : m < n → d < n → loads m d ≡ true → LinkJudged n loads m d (Err PairPresent)
  full : m < n → d < n → loads m d ≡ false → 64 ≤ degree (loads m) n → LinkJudged n loads m d (Err DependencyLimit)
  linked : m < n → d < n → loads m d ≡ false → degree (loads m) n < 64 → LinkJudged n loads m d (Ok tt)

-- the same of an unlink
pub data UnlinkJudged (n : ℕ) (loads : Pairs) (m d : ℕ) : Outcome → Type 0 where
  unlink_beyond : (n ≤ m) ⊎ (n ≤ d) → UnlinkJudged n loads m d (Err ModuleOutOfRange)
  absent : m < n → d < n → loads m d ≡ false → UnlinkJudged n loads m d (Err PairAbsent)
  unlinked : m < n → d < n → loads m d ≡ true → UnlinkJudged n loads m d (Ok tt)

-- the same of either edit
abbrev pub Judged : ℕ → Pairs → Edit → Outcome → Type 0
Judged n loads (Link m d) r = LinkJudged n loads m.0 d.0 r
Judged n loads (Unlink m d) r = UnlinkJudged n loads m.0 d.0 r
