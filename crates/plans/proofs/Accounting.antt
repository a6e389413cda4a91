-- How a plan comes to account for one call more.
use Rattle.std.proofs.Common.{◌≡◌, ℕ, ◌<◌, Bool, true, false, not, ◌&&◌, eqb, List, [], ◌∷◌, length, get_or, set, Ok, vec_items, sym, refl, ap, ◌∙◌, subst, inl, inr, ⊎_elim, arith}
use mathlib.Core.Path.{fun_ext}
use Rattle.std.proofs.lemmas.List.{get_or-set_same, get_or-set_other}
use Rattle.std.proofs.lemmas.Bool.{both_ways, and_cases, not-false, cases_eq, eq-eqb, ne_eqb, cond-true, cond-false}
use Rattle.stores.specs.Pairs.{Pairs, changed}
use Rattle.tables.specs.Panel.{Panel, count}
use Rattle.tables.specs.Graph.{Graph, Path, start}
use Rattle.walks.specs.Walks.{has}
use Rattle.reach.specs.Data.{panel_in, marks_in, graph_in, sets_in, earlier_in, names_in, Settled, Renewed, Marked, SparedByInclude}
use Rattle.reach.specs.Arcs.{graph_of}
use Rattle.reach.specs.Exact.{Exact, Anew}
use Rattle.reach.specs.Moved.{passing, differs}
use Rattle.reach.specs.declared.data.PlanData.{PlanData}
use Rattle.tables.specs.View.{panel_of}
use Rattle.exports.specs.declared.export.Export.{Export}
use Rattle.reach.proofs.Datas.{count_is}
use Rattle.reach.proofs.Ways.{passes, holds, ends_open, open_below}
use Rattle.plans.specs.Accounts.{Kept}
use Rattle.plans.specs.Edited.{ToldMoves}
use Rattle.plans.specs.Book.{Call, linking, unlinking, including, excluding, accepted, History, book, edited, with_mark}
use Rattle.plans.specs.Lawful.{number_in, answer_by, Ascending, Moves}
use Rattle.plans.proofs.Ascending.{ascends}
use Rattle.plans.proofs.Shifts.{exact_again, moved_only, moved_all, reached_from}
use Rattle.plans.proofs.Spared.{SameEnds, link_spares, unlink_spares, exclude_spares, include_spares}

module _ {p : Panel} {opening : Graph} {h : History} {size : ℕ} {loads : Pairs} {old : PlanData} (st : Kept p opening h size loads old) where
  -- what the store and the marks answer is what the book answers
  same_answer : (c : Call) → answer_by size (graph_in loads old) c ≡ answer_by (count p) (book opening h) c
  same_answer c = ap (λ (n : ℕ). answer_by n (graph_in loads old) c) st.sized ∙ ap (λ (g : Graph). answer_by (count p) g c) st.graph

  -- a call that is accepted
  pub accepts : (c : Call) (concern : ℕ → Bool) (size' : ℕ) (loads' : Pairs) (mid new : PlanData) (k : ℕ)
      → answer_by size (graph_in loads old) c ≡ Ok tt → size' ≡ size
      → panel_in mid ≡ panel_in old → sets_in mid ≡ sets_in old → graph_in loads' mid ≡ edited c (graph_in loads old)
      → ((e : ℕ) → e < length p.entries → concern e ≡ false → SameEnds p (book opening h) (start p e) (edited c (book opening h)))
      → Renewed loads' concern mid new → k ≡ length (names_in new) → Kept p opening (accepted c k (names_in new) ∷ h) size' loads' new
  accepts c concern size' loads' mid new k fine sized panels sets graphs spared ren counted =
      let before = book opening h in
      let after = edited c (book opening h) in
      let n = length p.entries in
      let middle : panel_in mid ≡ p = panels ∙ st.panel in
      let graph : graph_in loads' mid ≡ after = graphs ∙ ap (edited c) st.graph in
      let anew : Anew n p after concern (sets_in old) (sets_in new) =
      subst (λ (s : ℕ → ℕ → Bool). Anew n p after concern s (sets_in new)) sets
      (subst (λ (g : Graph). Anew n p g concern (sets_in mid) (sets_in new)) graph
      (subst (λ (q : Panel). Anew (length q.entries) q (graph_in loads' mid) concern (sets_in mid) (sets_in new)) middle ren.anew)) in
      let exact : Exact p after (sets_in new) = exact_again p before after concern (sets_in old) (sets_in new) spared st.sets anew in
      let names : names_in new ≡ passing (differs n (sets_in old) (sets_in new)) 0 (count p) =
      ren.names
      ∙ ap (λ (q : Panel). passing (differs (length q.entries) (sets_in mid) (sets_in new)) 0 (count q)) middle
      ∙ ap (λ (s : ℕ → ℕ → Bool). passing (differs n s (sets_in new)) 0 (count p)) sets in
      let moves : (y : ℕ) → has (names_in new) y ≡ true → Moves p before after y =
      λ y m. moved_only p before after (sets_in old) (sets_in new) st.sets exact n y
      (passes (differs n (sets_in old) (sets_in new)) 0 (count p) y (subst (λ (l : List ℕ). has l y ≡ true) names m)) in
      record {
        panel = ap (λ (x : Export). panel_of x.table) ren.export ∙ middle;
        sized = sized ∙ st.sized;
        graph = ap (λ (x : Export). graph_of_export loads' x) ren.export ∙ graph;
        sets = exact;
        earlier = subst (λ (s : ℕ → ℕ → Bool). Exact p before s) (sym (ren.earlier ∙ sets)) st.sets;
        named = refl;
        lawful = (
          record {
            allowed = ap number_in (sym (same_answer c) ∙ fine);
            counted = counted;
            ascending = subst Ascending (sym names) (ascends (differs n (sets_in old) (sets_in new)) 0 (count p));
            only = moves;
            all = λ y m.
                let q = moved_all p before after (sets_in old) (sets_in new) st.sets exact y m in
                subst (λ (l : List ℕ). has l y ≡ true) (sym names) (holds (differs n (sets_in old) (sets_in new)) 0 (count p) y (omega arith) (omega (arith, q.1)) q.0);
            reached = λ y m. reached_from p c before y (moves y m);
          },
          st.lawful,
        );
      }
    where
      graph_of_export : Pairs → Export → Graph
      graph_of_export l x = record { loads = l; included = λ m. get_or (vec_items x.included.marks) m false }

  -- what a set says of paths by the book
  reaches_not : (e y : ℕ) → e < length p.entries → sets_in old y e ≡ false → Path p (book opening h) (start p e) y → ⊥
  reaches_not e y l n w = both_ways (sets_in old y e) n (st.sets.all e y (l, w))

  reaches_so : (e y : ℕ) → sets_in old y e ≡ true → Path p (book opening h) (start p e) y
  reaches_so e y t = (st.sets.only e y t).1

  pub link_spared : (m d : ℕ) (concern : ℕ → Bool) → ((e : ℕ) → concern e ≡ (sets_in old m e && not (sets_in old d e)))
      → (e : ℕ) → e < length p.entries → concern e ≡ false → SameEnds p (book opening h) (start p e) (edited (linking m d) (book opening h))
  link_spared m d concern is e l c =
      link_spares p (book opening h) (start p e) m d
      (⊎_elim (λ q. inl (reaches_not e m l q)) (λ q. inr (reaches_so e d (not-false (sets_in old d e) q))) (and_cases (sets_in old m e) (not (sets_in old d e)) (sym (is e) ∙ c)))

  pub unlink_spared : (m d : ℕ) (concern : ℕ → Bool) → ((e : ℕ) → concern e ≡ (sets_in old m e && sets_in old d e))
      → (e : ℕ) → e < length p.entries → concern e ≡ false → SameEnds p (book opening h) (start p e) (edited (unlinking m d) (book opening h))
  unlink_spared m d concern is e l c =
      unlink_spares p (book opening h) (start p e) m d
      (⊎_elim (λ q. inl (reaches_not e m l q)) (λ q. inr (reaches_not e d l q)) (and_cases (sets_in old m e) (sets_in old d e) (sym (is e) ∙ c)))

  pub exclude_spared : (m : ℕ) (concern : ℕ → Bool) → ((e : ℕ) → concern e ≡ sets_in old m e)
      → (e : ℕ) → e < length p.entries → concern e ≡ false → SameEnds p (book opening h) (start p e) (edited (excluding m) (book opening h))
  exclude_spared m concern is e l c = exclude_spares p (book opening h) (start p e) m (reaches_not e m l (sym (is e) ∙ c))

  pub include_spared : (m : ℕ) (concern : ℕ → Bool) → ((e : ℕ) → e < length (panel_in old).entries → concern e ≡ false → SparedByInclude (panel_in old) loads (sets_in old) m e)
      → (e : ℕ) → e < length p.entries → concern e ≡ false → SameEnds p (book opening h) (start p e) (edited (including m) (book opening h))
  include_spared m concern is e l c =
      let same : (e : ℕ) → e < length p.entries → concern e ≡ false → SparedByInclude p loads (sets_in old) m e =
      subst (λ (q : Panel). (e : ℕ) → e < length q.entries → concern e ≡ false → SparedByInclude q loads (sets_in old) m e) st.panel is in
      include_spares p (book opening h) (start p e) m
      (⊎_elim
      (λ t. inl (reaches_so e m t))
      (λ n. inr (
        n.0,
        λ x ld w. reaches_not e x l (n.1 x (open_below p (book opening h) x (ends_open p (book opening h) w)) (ap (λ (g : Graph). g.loads x m) st.graph ∙ ld)) w,
      ))
      (same e l c))

-- the graph after an edit of a pair
pub pair_graph : (loads loads' : Pairs) (d : PlanData) (v : Bool) (a b : ℕ) → ((x y : ℕ) → loads' x y ≡ changed true v loads a b x y)
    → graph_in loads' d ≡ record { loads = changed true v loads a b; included = (graph_in loads d).included }
pair_graph loads loads' d v a b e = ap (λ (l : Pairs). graph_in l d) (fun_ext (λ x. fun_ext (λ y. e x y)))

-- the graph after an edit of a mark
pub mark_graph : (loads : Pairs) (old mid : PlanData) (m : ℕ) (v : Bool) → m < count (panel_in old) → Marked m v old mid
    → graph_in loads mid ≡ record { loads = loads; included = with_mark (graph_in loads old).included m v }
mark_graph loads old mid m v l ma =
    ap (λ (marks : List Bool). with_marks (λ x. get_or marks x false)) ma.marks ∙ ap with_marks (fun_ext (λ x. changed_mark x))
  where
    with_marks : (ℕ → Bool) → Graph
    with_marks f = record { loads = loads; included = f }

    inside : m < length (marks_in old)
    inside = omega (arith, l, count_is old.export.table, old.export.marked)

    changed_mark : (x : ℕ) → get_or (set (marks_in old) m v) x false ≡ with_mark (λ y. get_or (marks_in old) y false) m v x
    changed_mark x = ⊎_elim
        (λ (q : x ≡ m).
        ap (λ (k : ℕ). get_or (set (marks_in old) m v) k false) q ∙ get_or-set_same (marks_in old) m v false inside
        ∙ sym (cond-true (eqb x m) v (get_or (marks_in old) x false) (eq-eqb x m q)))
        (λ (q : x ≡ m → ⊥).
        get_or-set_other (marks_in old) m x v false q ∙ sym (cond-false (eqb x m) v (get_or (marks_in old) x false) (ne_eqb x m q)))
        (cases_eq x m)

-- what is told of the modules that moved
pub told_moves : (loads : Pairs) (concern : ℕ → Bool) (old mid new : PlanData) (k : ℕ) → panel_in mid ≡ panel_in old → sets_in mid ≡ sets_in old → Renewed loads concern mid new → k ≡ length (names_in new) → ToldMoves old k new
told_moves loads concern old mid new k panels sets ren counted = record {
  earlier = ren.earlier ∙ sets;
  names = ren.names
      ∙ ap (λ (s : ℕ → ℕ → Bool). passing (differs (length (panel_in mid).entries) s (sets_in new)) 0 (count (panel_in mid))) (sym ren.earlier)
      ∙ ap (λ (q : Panel). passing (differs (length q.entries) (earlier_in new) (sets_in new)) 0 (count q)) panels;
  counted = counted;
}

-- a plan that was just made
pub opens : (loads : Pairs) (size : ℕ) (export : Export) (old new : PlanData) → old.export ≡ export → size ≡ count (panel_of export.table) → Settled loads old new
    → Kept (panel_of export.table) (graph_of loads (vec_items export.included.marks)) [] size loads new
opens loads size export old new same sized s =
    let exact : Exact (panel_of export.table) (graph_of loads (vec_items export.included.marks)) (sets_in new) =
    subst (λ (x : Export). Exact (panel_of x.table) (graph_of loads (vec_items x.included.marks)) (sets_in new)) same s.exact in
    record {
      panel = ap (λ (x : Export). panel_of x.table) (s.export ∙ same);
      sized = sized;
      graph = ap (λ (x : Export). graph_of loads (vec_items x.included.marks)) (s.export ∙ same);
      sets = exact;
      earlier = subst (λ (f : ℕ → ℕ → Bool). Exact (panel_of export.table) (graph_of loads (vec_items export.included.marks)) f) (sym s.earlier) exact;
      named = s.names;
      lawful = tt;
    }
