use Rattle.std.proofs.Common.{arith, sym}
use Rattle.stack.proofs.Reading.{fillable, pieced}
use Rattle.stack.proofs.read_pieces.Goals as goal

pub fill_pieces-requires : goal.fill_pieces-requires
fill_pieces-requires c = rw c.in_ok-checked.ensures.same_file (fillable _ _ (sym c.in_ok-checked.ensures.count) _ (omega arith))

pub returns : goal.returns
returns c = pieced _ _ (sym c.in_ok-checked.ensures.count) c.if-room-n.false (rw c.in_ok-checked.ensures.same_file at c.fill_pieces.ensures)
