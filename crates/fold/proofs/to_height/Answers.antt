use native.Mathlib.Omega.{arith}
use Rattle.terms.specs.Answer.{answer_of}
use Rattle.stack.proofs.Reading.{refilled_is}
use Rattle.fold.proofs.Answering.{search_asks, answered_height}
use Rattle.fold.proofs.to_height.Goals as goal

pub write_low-requires : goal.write_low-requires
write_low-requires c =
    let a = c.args in
    let q = search_asks _ _ c.pieces-pieces.ensures (refilled_is _ c.refill.ensures.answers c.refill.ensures.held c.in_ok-refill.was) a.limit.0 a.out.now a.work.now c.check_lent.ensures c.in_ok-check_lent.was in
    (q.0, omega (arith, q.1), q.2)

pub returns : goal.returns
returns c =
    let a = c.args in
    answered_height _ _ c.pieces-pieces.ensures (refilled_is _ c.refill.ensures.answers c.refill.ensures.held c.in_ok-refill.was) a.limit.0 a.out.now a.work.now c.check_lent.ensures c.in_ok-check_lent.was
    c.write_low.new.out c.write_low.new.work (answer_of c.write_low.result) c.write_low.ensures
