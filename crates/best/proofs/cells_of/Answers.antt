use Rattle.std.proofs.lemmas.Grind.{common_steps}
use Rattle.best.proofs.Summing.{sum_start, sum_more, sum_all}
use native.Mathlib.Omega.{arith}
use Rattle.best.proofs.cells_of.Goals as goal

pub loop-p-init : goal.loop-p-init
loop-p-init c = sum_start _

pub loop-p-preserved : goal.loop-p-preserved
loop-p-preserved c =
    sum_more _ c.requires c.loop-p.invariant c.loop-p-test.true _ _ _ c.from-high.ensures c.from-wide.ensures
    c.product-count.ensures _ (grind (arith, common_steps))

pub returns : goal.returns
returns c = sum_all _ c.requires c.loop-p.invariant (omega arith)
