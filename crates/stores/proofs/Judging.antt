-- The answers' tests against what they ask.
use Rattle.std.proofs.Common.{◌≡◌, ℕ, ◌<◌, ◌≤◌, Bool, true, false, cond, ◌&&◌, ltb, ◌⊎◌, Ok, Err, refl, sym, subst, inl, inr, ⊎_elim}
use Rattle.std.proofs.lemmas.Bool.{and_parts, and_cases, ltb-true, ltb-false}
use Rattle.tables.specs.declared.refusal.Refusal.TheVariants.{ModuleOutOfRange, PairPresent, DependencyLimit, PairAbsent}
use Rattle.stores.specs.Judged.{LinkJudged, link_beyond, present, full, linked, UnlinkJudged, unlink_beyond, absent, unlinked}
use Rattle.stores.specs.Answers.{Outcome, link_answer, unlink_answer}
use Rattle.stores.specs.Pairs.{Pairs, degree}

module _ (n : ℕ) (loads : Pairs) (m d : ℕ) where
  below : (ltb m n && ltb d n) ≡ true → (m < n) × (d < n)
  below h = let p = and_parts (ltb m n) (ltb d n) h in (ltb-true m n p.0, ltb-true d n p.1)

  beyond : (ltb m n && ltb d n) ≡ false → (n ≤ m) ⊎ (n ≤ d)
  beyond h = ⊎_elim (λ (a : ltb m n ≡ false). inl (ltb-false m n a)) (λ (b : ltb d n ≡ false). inr (ltb-false d n b)) (and_cases (ltb m n) (ltb d n) h)

  link_by : (a b c : Bool) → (ltb m n && ltb d n) ≡ a → loads m d ≡ b → ltb (degree (loads m) n) 64 ≡ c → LinkJudged n loads m d (cond a (cond b (Err PairPresent) (cond c (Ok tt) (Err DependencyLimit))) (Err ModuleOutOfRange))
  link_by false b c ea eb ec = link_beyond (beyond ea)
  link_by true true c ea eb ec = let p = below ea in present p.0 p.1 eb
  link_by true false true ea eb ec = let p = below ea in linked p.0 p.1 eb (ltb-true (degree (loads m) n) 64 ec)
  link_by true false false ea eb ec = let p = below ea in full p.0 p.1 eb (ltb-false (degree (loads m) n) 64 ec)

  unlink_by : (a b : Bool) → (ltb m n && ltb d n) ≡ a → loads m d ≡ b → UnlinkJudged n loads m d (cond a (cond b (Ok tt) (Err PairAbsent)) (Err ModuleOutOfRange))
  unlink_by false b ea eb = unlink_beyond (beyond ea)
  unlink_by true true ea eb = let p = below ea in unlinked p.0 p.1 eb
  unlink_by true false ea eb = let p = below ea in absent p.0 p.1 eb

  pub link_judged : (r : Outcome) → r ≡ link_answer n loads m d → LinkJudged n loads m d r
  link_judged r e = subst (LinkJudged n loads m d) (sym e) (link_by _ _ _ refl refl refl)

  pub unlink_judged : (r : Outcome) → r ≡ unlink_answer n loads m d → UnlinkJudged n loads m d r
  unlink_judged r e = subst (UnlinkJudged n loads m d) (sym e) (unlink_by _ _ refl refl)
