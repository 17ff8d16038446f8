use Rattle.terms.proofs.Pieces.{heights_length}
use Rattle.group_table.proofs.Filling.{side_start, side_stored}
use native.Mathlib.Omega.{arith}
use Rattle.group_table.proofs.fill_side.Goals as goal

pub loop-p-init : goal.loop-p-init
loop-p-init c = side_start c.requires.0 (rw (heights_length c.args.stack.now) c.requires.1)

pub loop-p-preserved : goal.loop-p-preserved
loop-p-preserved c =
    rw (← heights_length c.args.stack.now)
    (side_stored c.requires.0 c.loop-p.invariant (rw (heights_length _) c.loop-p-test.true) _ (omega (arith, c.height.ensures.value)))
