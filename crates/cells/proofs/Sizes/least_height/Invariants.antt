use Prim.Native.Nat.{◌-◌}
use Rattle.cells.specs.Filling.{Between}
use Rattle.cells.proofs.Sizes.least_height.Given as goal

abbrev pub invariant-loop-lo : goal.invariant-loop-lo
invariant-loop-lo l = Between l.heights l.most l.lo l.hi

abbrev pub decreases-loop-lo : goal.decreases-loop-lo
decreases-loop-lo l = l.hi - l.lo
