use borrow.Author.Rules.{rules}
use native.Mathlib.Omega.{arith}
use Rattle.cells.proofs.Sizing.{none_seen, seen_more, sum_fits, seen_all}
use Rattle.cells.proofs.sizes_of.Goals as goal

pub loop-height-init : goal.loop-height-init
loop-height-init c = rw c.from.ensures (none_seen _)

pub overflow_add-sizes : goal.overflow_add-sizes
overflow_add-sizes c =
    omega (
      arith,
      c.from-cell.ensures,
      sum_fits _ _ _ c.loop-height.invariant c.loop-height-test.true (search rules) c.requires,
    )

pub loop-height-preserved : goal.loop-height-preserved
loop-height-preserved c =
    rw (c.min.ensures, c.max.ensures, c.from-cell.ensures)
    (seen_more _ _ _ c.loop-height.invariant c.loop-height-test.true (search rules))

pub returns : goal.returns
returns c = seen_all _ _ _ c.loop-height.invariant (omega arith)
