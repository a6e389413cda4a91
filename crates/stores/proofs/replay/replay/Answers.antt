use Rattle.std.proofs.Common.{◌∙◌, arith}
use Rattle.stores.proofs.Replays.{pairs_more, answers_more, pairs_all, answers_all}
use Rattle.stores.proofs.replay.replay.Goals as goal

pub loop-edit-preserved : goal.loop-edit-preserved
loop-edit-preserved g c =
    let inv = c.loop-edit.invariant in
    let es = c.args.edits.now in
    let within = c.loop-edit-test.true in (
      omega (arith, c.push_reserved.ensures.len, inv.0),
      omega (arith, c.push_reserved.ensures.capacity, inv.1),
      c.apply.ensures.size ∙ inv.2,
      answers_more _ _ inv.2 _ _ es c.loop-edit.edit-index _ within c.apply.ensures.pairs _ _ _ _ c.apply.ensures.answer c.push_reserved.ensures.items inv.3,
      pairs_more _ _ inv.2 _ _ es c.loop-edit.edit-index _ within c.apply.ensures.pairs _ inv.4,
      c.apply.ensures.kept ∙ inv.5,
    )

pub returns : goal.returns
returns g c =
    let inv = c.loop-edit.invariant in
    let es = c.args.edits.now in
    record {
      size = inv.2;
      kept = inv.5;
      answers = answers_all _ _ es c.loop-edit.edit-index c.loop-edit-test.false _ _ inv.3;
      pairs = pairs_all _ _ es c.loop-edit.edit-index c.loop-edit-test.false _ inv.4;
    }
