use Rattle.std.proofs.Common.{◌-◌, drop, length, take, vec_items, sym, ap, ◌∙◌, arith, rules}
use Rattle.std.proofs.lemmas.List.{length-take, length-drop}
use Rattle.digits.specs.Digits.{bytes_in}
use Rattle.digits.proofs.Bytes.{behind, behind_more}
use Rattle.digits.proofs.decode.Goals as goal

pub loop-rest-preserved : goal.loop-rest-preserved
loop-rest-preserved c =
    let bytes = c.loop-rest.bytes in
    let rest = c.loop-rest.rest.now in
    let after = take (length rest - 2) (drop 2 rest) in (
      ap (λ xs. behind xs (bytes_in after)) c.in_ok-push.ensures.items ∙ sym (behind_more (vec_items bytes) rest c.in-Some.byte c.in-len2-up.len_at_least (search rules)) ∙ c.loop-rest.invariant.0,
      omega (arith, length-take (length rest - 2) (drop 2 rest), length-drop 2 rest, c.in-len2-up.len_at_least, c.loop-rest.invariant.1),
    )
