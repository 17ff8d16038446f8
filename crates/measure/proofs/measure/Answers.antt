use Rattle.std.proofs.Common.{◌∙◌}
use Rattle.stack.proofs.Reading.{held, refilled_is}
use Rattle.measure.proofs.Measuring.{stack_held, measure_held}
use Rattle.measure.proofs.measure.Goals as goal

pub measure_stack-requires : goal.measure_stack-requires
measure_stack-requires c =
    stack_held (held _ _ c.pieces.ensures (refilled_is _ c.refill.ensures.answers c.refill.ensures.held c.in_ok-refill.was))

pub returns : goal.returns
returns c =
    c.measure_stack.ensures
    ∙ measure_held (held _ _ c.pieces.ensures (refilled_is _ c.refill.ensures.answers c.refill.ensures.held c.in_ok-refill.was)) c.args.flat.now
