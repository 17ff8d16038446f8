use Rattle.std.proofs.Common.{Some, refl, sym, ap, ◌∙◌}
use lib.Seq.{length-take-le}
use Rattle.stack.proofs.Reading.{held}
use Rattle.measure.proofs.Measuring.{stack_held}
use Rattle.measure.proofs.Choosing.{chose, first_long, second_long}
use Rattle.measure.proofs.choose.Goals as goal

pub better_of-requires : goal.better_of-requires
better_of-requires c = stack_held (held _ _ c.pieces-pieces.ensures c.in-Ok.ensures)

pub slice_bounds-result-end-in-Some-First : goal.slice_bounds-result-end-in-Some-First
slice_bounds-result-end-in-Some-First c = sym (length-take-le _ _ (first_long (held _ _ c.pieces-pieces.ensures c.in-Ok.ensures)
    c.args.first.now c.args.second.now c.better_of.ensures (c.in-Some-First.is ∙ ap Some c.in-Some-First.field-0-is) refl))

pub slice_bounds-result-end-in-Some-Second : goal.slice_bounds-result-end-in-Some-Second
slice_bounds-result-end-in-Some-Second c = sym (length-take-le _ _ (second_long (held _ _ c.pieces-pieces.ensures c.in-Ok.ensures)
    c.args.first.now c.args.second.now c.better_of.ensures (c.in-Some-Second.is ∙ ap Some c.in-Some-Second.field-0-is) refl))

pub returns-in-Some-First : goal.returns-in-Some-First
returns-in-Some-First c = chose (held _ _ c.pieces-pieces.ensures c.in-Ok.ensures) c.args.first.now c.args.second.now
    c.better_of.ensures (c.in-Some-First.is ∙ ap Some c.in-Some-First.field-0-is)

pub returns-in-Some-Second : goal.returns-in-Some-Second
returns-in-Some-Second c = chose (held _ _ c.pieces-pieces.ensures c.in-Ok.ensures) c.args.first.now c.args.second.now
    c.better_of.ensures (c.in-Some-Second.is ∙ ap Some c.in-Some-Second.field-0-is)

pub returns-in-None : goal.returns-in-None
returns-in-None c = chose (held _ _ c.pieces-pieces.ensures c.in-Ok.ensures) c.args.first.now c.args.second.now
    c.better_of.ensures c.in-None.is
