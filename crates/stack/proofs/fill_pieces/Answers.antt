use Rattle.std.proofs.Common.{arith, ◌∙◌}
use Rattle.terms.specs.Pieces.{piece_of}
use Rattle.terms.proofs.Moves.{moves}
use Rattle.stack.proofs.Columns.{column_none, column_step}
use Rattle.stack.proofs.fill_pieces.Goals as goal

pub loop-p-init : goal.loop-p-init
loop-p-init c = (omega arith, rw c.first-p.ensures (column_none piece_of _ _))

pub loop-p-preserved : goal.loop-p-preserved
loop-p-preserved c =
    let m = c.next-p.ensures ∙ moves c.loop-p.p.before (omega arith) in
    let e = c.piece.ensures in
    (omega arith, rw m (column_step piece_of _ _ _ _ _ (omega arith) c.loop-p.invariant.1 e))
