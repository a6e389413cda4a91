use Rattle.std.proofs.Common.{◌≡◌, is_some, sym, ap, ◌∙◌, arith}
use Rattle.frames.specs.Text.{field, bytes_of}
use Rattle.frames.proofs.Decoded.{line_length, field_number, field_small}
use Rattle.frames.proofs.open.field.Goals as goal

pub overflow_mul-from : goal.overflow_mul-from
overflow_mul-from c = omega (arith, line_length c.args.line.now c.requires.bytes)

pub overflow_mul-to : goal.overflow_mul-to
overflow_mul-to c = omega (arith, line_length c.args.line.now c.requires.bytes)

pub slice_bounds-number-end : goal.slice_bounds-number-end
slice_bounds-number-end c = omega (arith, line_length c.args.line.now c.requires.bytes)

pub unwrap-requires : goal.unwrap-requires
unwrap-requires c = ap is_some (c.number.ensures ∙ field_number c.args.line.now c.args.from c.args.to c.requires.bytes c.requires.width.1)

pub returns : goal.returns
returns c =
    let both = sym c.unwrap.ensures ∙ c.number.ensures ∙ field_number c.args.line.now c.args.from c.args.to c.requires.bytes c.requires.width.1 in
    let is : c.unwrap.result ≡ field (bytes_of c.args.line.now) c.args.from c.args.to = cc in
    record { value = is; below = rw is (field_small c.args.line.now c.args.from c.args.to c.requires.bytes) }
