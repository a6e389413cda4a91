-- One edit more of a list.
use Rattle.std.proofs.Common.{◌≡◌, ℕ, ◌+◌, ◌<◌, ◌≤◌, List, [], ◌∷◌, ◌++◌, length, get_or, drop, sym, ap, ◌∙◌, append_assoc}
use Rattle.std.proofs.lemmas.List.{at_drop_more, at_drop_all, append-nil}
use Rattle.stores.specs.Answers.{Outcome}
use Rattle.stores.specs.Edits.{answer_to, pairs_with, answers_to, pairs_after}
use Rattle.stores.specs.Pairs.{Pairs}
use Rattle.stores.specs.declared.edit.Edit.{Edit}

module _ (n k : ℕ) (same : k ≡ n) (p p' : Pairs) (es : List Edit) (i : ℕ) (d : Edit) (within : i < length es) (after : p' ≡ pairs_with k p (get_or es i d)) where
  abbrev e : Edit
  e = get_or es i d

  at_n : p' ≡ pairs_with n p e
  at_n = after ∙ ap (λ (x : ℕ). pairs_with x p e) same

  pub pairs_more : (last : Pairs) → pairs_after n p (drop i es) ≡ last → pairs_after n p' (drop (i + 1) es) ≡ last
  pairs_more last h = ap (λ (q : Pairs). pairs_after n q (drop (i + 1) es)) at_n ∙ (sym (at_drop_more (pairs_after n p) es i d within) ∙ h)

  pub answers_more : (done done' all : List Outcome) (r : Outcome) → r ≡ answer_to k p e → done' ≡ done ++ r ∷ [] → done ++ answers_to n p (drop i es) ≡ all → done' ++ answers_to n p' (drop (i + 1) es) ≡ all
  answers_more done done' all r told on h =
      let rest = drop (i + 1) es in
      let r_is : r ≡ answer_to n p e = told ∙ ap (λ (x : ℕ). answer_to x p e) same in
      ap (λ (l : List Outcome). l ++ answers_to n p' rest) on
      ∙ append_assoc done (r ∷ []) (answers_to n p' rest)
      ∙ ap (λ (x : Outcome). done ++ x ∷ answers_to n p' rest) r_is
      ∙ ap (λ (q : Pairs). done ++ answer_to n p e ∷ answers_to n q rest) at_n
      ∙ sym (ap (λ (l : List Outcome). done ++ l) (at_drop_more (answers_to n p) es i d within))
      ∙ h

module _ (n : ℕ) (p : Pairs) (es : List Edit) (i : ℕ) (end : length es ≤ i) where
  pub pairs_all : (last : Pairs) → pairs_after n p (drop i es) ≡ last → p ≡ last
  pairs_all last h = sym (at_drop_all (pairs_after n p) es i end) ∙ h

  pub answers_all : (done all : List Outcome) → done ++ answers_to n p (drop i es) ≡ all → done ≡ all
  answers_all done all h = sym (append-nil done) ∙ sym (ap (λ (l : List Outcome). done ++ l) (at_drop_all (answers_to n p) es i end)) ∙ h
