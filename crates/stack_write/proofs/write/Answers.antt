use Rattle.std.proofs.Common.{arith, sym}
use Rattle.stack_write.proofs.Writing.{equal, wrote}
use Rattle.stack_write.proofs.write.Goals as goal

pub returns : goal.returns
returns c =
    let s = equal c.if-widths-heights.false c.if-gaps-heights.false c.if-marks-heights.false in
    wrote _ _ _ _ _ s (sym c.in_ok-n.ensures.value) c.put_header.new.out _ (omega arith) c.put_header.auto.out
    c.put_header.ensures c.put_components.ensures
