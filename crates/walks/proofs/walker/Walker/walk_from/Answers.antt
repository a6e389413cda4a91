use Rattle.std.proofs.Common.{◌≡◌, ◌∷◌, sym, refl, ◌∙◌, subst, rules, arith}
use Rattle.std.proofs.lemmas.List.{nil_from_length}
use Rattle.walks.specs.Walkers.{taken_by}
use Rattle.walks.proofs.Steps.{Going, pending, begun, top_of, tried, tried_less, popped, popped_left, handed_as, handed_left_as, ended}
use Rattle.walks.proofs.walker.Walker.walk_from.Goals as goal

pub loop-top-init : goal.loop-top-init
loop-top-init g c =
    let s = c.args.self.now in
    let rest = g.G.Arcs.rest c.args.arcs.now in
    let idle = nil_from_length s.stack.items (sym s.stack.ok.0 ∙ c.requires.idle) in
    let b = subst (λ fs. Going rest c.args.root (taken_by s) (taken_by s) (c.args.root ∷ pending rest fs)) (sym idle) begun in
    record { size = refl; going = tried rest s.marked s.stack.items c.args.root b c.enter.ensures.order c.enter.ensures.stack }

pub loop-top-smaller-in-None : goal.loop-top-smaller-in-None
loop-top-smaller-in-None g c =
    let s = c.loop-top.self in
    let rest = g.G.Arcs.rest c.args.arcs.now in
    let top = top_of s.stack.ok.0 (c.in-Some.ensures.variant.0 refl) c.in-Some.ensures.value in
    popped_left rest top c.in-None.ensures c.pop.ensures.rest s.marks.items

pub loop-top-preserved-in-None : goal.loop-top-preserved-in-None
loop-top-preserved-in-None g c =
    let s = c.loop-top.self in
    let rest = g.G.Arcs.rest c.args.arcs.now in
    let top = top_of s.stack.ok.0 (c.in-Some.ensures.variant.0 refl) c.in-Some.ensures.value in
    record { size = c.loop-top.invariant.size; going = popped rest top c.in-None.ensures c.pop.ensures.rest c.loop-top.invariant.going }

pub loop-top-smaller : goal.loop-top-smaller
loop-top-smaller g c =
    let s = c.loop-top.self in
    let rest = g.G.Arcs.rest c.args.arcs.now in
    let top = top_of s.stack.ok.0 (c.in-Some.ensures.variant.0 refl) c.in-Some.ensures.value in
    let h = handed_left_as rest top c.in-Some-next.after c.in-Some-next.target c.in-Some-next.ensures.0 c.advance.ensures s.marks.items in
    tried_less rest s.marked _ c.in-Some-next.target (omega (arith, c.in-Some-next.ensures.1, c.loop-top.invariant.size, c.enter.ensures.size, c.requires.sized)) c.enter-in-Some-next.ensures.marks c.enter-in-Some-next.ensures.stack h

pub loop-top-preserved : goal.loop-top-preserved
loop-top-preserved g c =
    let s = c.loop-top.self in
    let rest = g.G.Arcs.rest c.args.arcs.now in
    let top = top_of s.stack.ok.0 (c.in-Some.ensures.variant.0 refl) c.in-Some.ensures.value in
    let h = handed_as rest top c.in-Some-next.after c.in-Some-next.target c.in-Some-next.ensures.0 c.advance.ensures c.loop-top.invariant.going in
    record {
      size = c.enter-in-Some-next.ensures.size ∙ c.loop-top.invariant.size;
      going = tried rest s.marked _ c.in-Some-next.target h c.enter-in-Some-next.ensures.order c.enter-in-Some-next.ensures.stack;
    }

pub returns-clause-walk : goal.returns-clause-walk
returns-clause-walk g c =
    let s = c.loop-top.self in
    let none : s.stack.len ≡ 0 = search rules in
    ended {fs = s.stack.items} c.loop-top.invariant.going (nil_from_length s.stack.items (sym s.stack.ok.0 ∙ none))
