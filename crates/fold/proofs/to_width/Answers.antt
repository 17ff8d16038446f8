use Rattle.terms.specs.Answer.{answer_of}
use Rattle.fold.specs.Calls.{by_width}
use Rattle.stack.proofs.Reading.{refilled_is}
use Rattle.fold.proofs.Answering.{search_asks, answered}
use Rattle.fold.proofs.to_width.Goals as goal

pub write_slim-requires : goal.write_slim-requires
write_slim-requires c =
    let a = c.args in
    search_asks _ _ c.pieces-pieces.ensures (refilled_is _ c.refill.ensures.answers c.refill.ensures.held c.in_ok-refill.was) a.limit.0 a.out.now a.work.now c.check_lent.ensures c.in_ok-check_lent.was

pub returns : goal.returns
returns c =
    let a = c.args in
    answered _ _ c.pieces-pieces.ensures (refilled_is _ c.refill.ensures.answers c.refill.ensures.held c.in_ok-refill.was) a.limit.0 a.out.now a.work.now c.check_lent.ensures c.in_ok-check_lent.was (by_width a.kind a.limit.0)
    c.write_slim.new.out c.write_slim.new.work (answer_of c.write_slim.result) c.write_slim.ensures
