use Rattle.terms.specs.Answer.{answer_of}
use Rattle.stack.proofs.Reading.{held, refilled_is}
use Rattle.fold_table.proofs.Tables.{work_held, of_file, list_asks, tabled}
use Rattle.fold_table.proofs.table.Goals as goal

pub list_outlines-requires : goal.list_outlines-requires
list_outlines-requires c =
    list_asks (held _ _ c.pieces.ensures (refilled_is _ c.refill.ensures.answers c.refill.ensures.held c.in_ok-refill.was)) (work_held _ c.check_work.ensures c.in_ok-check_work.was)

pub returns : goal.returns
returns c =
    let a = c.args in
    let h = held _ _ c.pieces.ensures (refilled_is _ c.refill.ensures.answers c.refill.ensures.held c.in_ok-refill.was) in
    of_file a.kind a.out.now a.work.now h c.list_outlines.new.out c.list_outlines.new.work (answer_of c.list_outlines.result)
    (tabled _ _ _ _ _ _ _ (work_held _ c.check_work.ensures c.in_ok-check_work.was) c.list_outlines.ensures)
