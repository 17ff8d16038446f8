use Rattle.plan.proofs.Sizing.{sizes_start, sizes_more, sizes_all}
use native.Mathlib.Omega.{arith}
use Rattle.plan.proofs.sizes_of.Goals as goal

pub loop-p-init : goal.loop-p-init
loop-p-init c = sizes_start _

pub loop-p-preserved : goal.loop-p-preserved
loop-p-preserved c =
    sizes_more _ c.requires.low c.loop-p-test.true c.loop-p.invariant c.plus-sizes.ensures.tall c.plus-sizes.ensures.widest

pub returns : goal.returns
returns c = sizes_all _ c.requires.few (omega arith) c.loop-p.invariant
