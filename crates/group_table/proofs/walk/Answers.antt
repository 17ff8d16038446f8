use Rattle.group_table.proofs.Walks.{walk_start, to_left, to_right}
use native.Mathlib.Omega.{arith}
use Rattle.group_table.proofs.walk.Goals as goal

pub ends-init : goal.ends-init
ends-init c = walk_start _ _ c.requires

pub ends-preserved-then-left-right : goal.ends-preserved-then-left-right
ends-preserved-then-left-right c =
    to_left c.requires c.ends.invariant (c.beside.ensures.left_there c.ends-test.true)
    (omega (arith, c.beside.ensures.right_there c.ends-test.true, c.requires.columns.same))
    (c.beside.ensures.fits c.ends-test.true) _
    (omega (arith, c.max-fit.ensures, c.width.ensures.value, c.width-in-ends.ensures.value)) _
    (omega (arith, c.height.ensures.value)) (omega (arith, c.if-left-right.true, c.height-in-ends.ensures.value))

pub ends-preserved : goal.ends-preserved
ends-preserved c =
    to_right c.requires c.ends.invariant (c.beside.ensures.left_there c.ends-test.true)
    (omega (arith, c.beside.ensures.right_there c.ends-test.true, c.requires.columns.same))
    (c.beside.ensures.fits c.ends-test.true) _
    (omega (arith, c.max-fit.ensures, c.width.ensures.value, c.width-in-ends.ensures.value)) _
    (omega (arith, c.height-in-ends.ensures.value)) (omega (arith, c.if-left-right.false, c.height.ensures.value))
