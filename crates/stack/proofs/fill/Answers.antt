use Rattle.std.proofs.Common.{arith, ◌∙◌}
use Rattle.terms.proofs.Moves.{moves}
use Rattle.stack.proofs.Filling.{start, turn}
use Rattle.stack.proofs.fill.Goals as goal

pub loop-p-init : goal.loop-p-init
loop-p-init c = (omega arith, rw c.first-p.ensures (start _ _ _ _ _))

pub loop-p-preserved : goal.loop-p-preserved
loop-p-preserved c =
    let m = c.next-p.ensures ∙ moves c.loop-p.p.before (omega arith) in
    let e = c.piece-c.ensures in
    (omega arith, rw (m, c.from.ensures) (turn _ _ _ _ _ (omega arith, omega arith, omega arith, omega arith) (c.requires.marked _ c.loop-p-test.true) c.loop-p.invariant.1 e))
