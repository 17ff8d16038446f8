use native.Mathlib.Omega.{arith}
use Rattle.cells.proofs.Putting.{none, put_more, put_fits, stacks_fit, put_all}
use Rattle.cells.proofs.fill.Goals as goal

pub loop-height-init : goal.loop-height-init
loop-height-init c = rw c.new-filling.ensures (none _ _)

pub put-filling-requires : goal.put-filling-requires
put-filling-requires c =
    put_fits _ _ _ _ c.loop-height-test.true c.requires.tall c.loop-height.invariant c.requires.row.few

pub loop-height-preserved : goal.loop-height-preserved
loop-height-preserved c =
    rw c.put-filling.ensures (put_more _ _ _ _ c.loop-height-test.true c.requires.tall c.loop-height.invariant)

pub stacks-requires : goal.stacks-requires
stacks-requires c = stacks_fit _ _ c.requires _ _ (omega arith) c.loop-height.invariant c.loop-height.auto.height-index-end

pub returns : goal.returns
returns c = rw c.stacks.ensures (put_all _ _ c.requires _ _ (omega arith) c.loop-height.invariant)
