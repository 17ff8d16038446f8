use native.Mathlib.Omega.{arith}
use Rattle.cells.proofs.Least.{nearer, lowered, raised, met}
use Rattle.cells.proofs.Bounds.{begin, low_enough}
use Rattle.cells.proofs.Sizes.least_height.Goals as goal

pub div_ceil-requires : goal.div_ceil-requires
div_ceil-requires c = omega (arith, c.requires.one)

pub overflow_sub-hi : goal.overflow_sub-hi
overflow_sub-hi c = omega (arith, c.requires.one)

pub overflow_mul-hi : goal.overflow_mul-hi
overflow_mul-hi c = omega (arith, low_enough _ _ _ c.requires)

pub overflow_add-hi : goal.overflow_add-hi
overflow_add-hi c = omega (arith, low_enough _ _ _ c.requires)

pub nonzero_div-hi : goal.nonzero_div-hi
nonzero_div-hi c = omega (arith, c.requires.one)

pub loop-lo-init : goal.loop-lo-init
loop-lo-init c = rw (c.max-lo.ensures, c.div_ceil.ensures) (begin _ _ _ c.requires)

pub loop-lo-smaller-then-tried-most : goal.loop-lo-smaller-then-tried-most
loop-lo-smaller-then-tried-most c =
    rw c.fill-tried.ensures.height_is
    (nearer _ c.requires.row.some _ _ _ c.loop-lo.invariant _ (omega (arith, c.midpoint-mid.ensures)) (omega (arith, c.midpoint-mid.ensures)))

pub loop-lo-preserved-then-tried-most : goal.loop-lo-preserved-then-tried-most
loop-lo-preserved-then-tried-most c =
    rw c.fill-tried.ensures.height_is
    (lowered _ c.requires.row.some _ _ _ c.loop-lo.invariant _ (omega (arith, c.midpoint-mid.ensures)) (omega (arith, c.midpoint-mid.ensures))
    (omega (arith, c.fill-tried.ensures.count_is, c.if-tried-most.true)))

pub loop-lo-preserved : goal.loop-lo-preserved
loop-lo-preserved c =
    raised _ c.requires.row.some _ _ _ c.loop-lo.invariant _ (omega (arith, c.midpoint-mid.ensures)) (omega (arith, c.midpoint-mid.ensures))
    (omega (arith, c.fill-tried.ensures.count_is, c.if-tried-most.false))

pub returns : goal.returns
returns c =
    met _ c.requires.row.some _ _ _ c.loop-lo.invariant (omega (arith, c.loop-lo-test.false))
