use native.Mathlib.Omega.{arith}
use Rattle.terms.specs.Answer.{answer_of}
use Rattle.stack.proofs.Reading.{refilled_is}
use Rattle.fold.proofs.Answering.{search_asks, answered}
use Rattle.fold_area.specs.Calls.{by_area}
use Rattle.fold_area.proofs.smallest_area.Goals as goal

pub write_smallest-requires : goal.write_smallest-requires
write_smallest-requires c =
    let a = c.args in
    let q = search_asks _ _ c.pieces-pieces.ensures (refilled_is _ c.refill.ensures.answers c.refill.ensures.held c.in_ok-refill.was) 1 a.out.now a.work.now c.check_room.ensures c.in_ok-check_room.was in
    (q.0, omega arith, q.2)

pub returns : goal.returns
returns c =
    let a = c.args in
    answered _ _ c.pieces-pieces.ensures (refilled_is _ c.refill.ensures.answers c.refill.ensures.held c.in_ok-refill.was) 1 a.out.now a.work.now c.check_room.ensures c.in_ok-check_room.was (by_area a.kind)
    c.write_smallest.new.out _ (answer_of c.write_smallest.result) c.write_smallest.ensures
