use Rattle.terms.proofs.Pieces.{heights_length}
use Rattle.group_table.proofs.Filling.{top_start, top_stored}
use native.Mathlib.Omega.{arith}
use Rattle.group_table.proofs.fill_top.Goals as goal

pub loop-q-init : goal.loop-q-init
loop-q-init c = rw (← heights_length c.args.stack.now) (top_start c.requires)

pub loop-q-preserved : goal.loop-q-preserved
loop-q-preserved c = top_stored c.requires c.loop-q.invariant c.loop-q-test.true _ (omega (arith, c.height.ensures.value))
