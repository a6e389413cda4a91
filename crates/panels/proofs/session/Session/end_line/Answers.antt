use Rattle.std.proofs.Common.{◌≡◌, cond, take, is_ok, Option, ap, ◌∙◌, subst, rules}
use Rattle.tables.specs.declared.refusal.Refusal.{Refusal}
use Rattle.panels.specs.Reads.{Read, read_of, line_refusal, line_after, Answer}
use Rattle.panels.proofs.Holding.{whole_refusal, whole_after}
use Rattle.panels.proofs.session.Session.end_line.Goals as goal

pub returns : goal.returns
returns c line h =
    let s = read_of c.args.self.now.intake in
    let r = c.feed-answer.result in
    let e : c.as_slice.result.now ≡ take 513 line = c.as_slice.ensures.value ∙ h in
    record {
      answer = subst (λ (v : Option Refusal). Answer v r) (ap (line_refusal s) e ∙ whole_refusal s line) c.feed-answer.ensures.answer;
      after = c.feed-answer.ensures.after ∙ ap (λ (x : Read). cond (is_ok r) x s) (ap (line_after s) e ∙ whole_after s line);
      empty = c.clear.ensures;
      one_more = search rules;
    }
