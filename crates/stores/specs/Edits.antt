-- What lists of edits are answered, and which pairs they leave, by the size and the pairs before.
use Rattle.std.specs.Prelude.{ℕ, true, false, List, [], ◌∷◌, is_ok}
use Rattle.stores.specs.Answers.{Outcome, link_answer, unlink_answer}
use Rattle.stores.specs.Pairs.{Pairs, changed}
use Rattle.stores.specs.declared.edit.Edit.{Edit}
use Rattle.stores.specs.declared.edit.Edit.TheVariants.{Link, Unlink}

abbrev pub answer_to : ℕ → Pairs → Edit → Outcome
answer_to n p (Link m d) = link_answer n p m.0 d.0
answer_to n p (Unlink m d) = unlink_answer n p m.0 d.0

-- the pairs after one edit: an accepted one changes its pair alone, a refused one nothing
abbrev pub pairs_with : ℕ → Pairs → Edit → Pairs
pairs_with n p (Link m d) = changed (is_ok (link_answer n p m.0 d.0)) true p m.0 d.0
pairs_with n p (Unlink m d) = changed (is_ok (unlink_answer n p m.0 d.0)) false p m.0 d.0

abbrev pub pairs_after : ℕ → Pairs → List Edit → Pairs
pairs_after n p [] = p
pairs_after n p (e ∷ es) = pairs_after n (pairs_with n p e) es

abbrev pub answers_to : ℕ → Pairs → List Edit → List Outcome
answers_to n p [] = []
answers_to n p (e ∷ es) = answer_to n p e ∷ answers_to n (pairs_with n p e) es
