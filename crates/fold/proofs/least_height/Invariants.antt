use Prim.Native.Nat.{◌-◌}
use Rattle.fold.proofs.Limits.{Searching}
use Rattle.fold.proofs.least_height.Given as goal

abbrev pub invariant-loop-lo : goal.invariant-loop-lo
invariant-loop-lo l = Searching l.initial.search l.asked.width.0 l.lo l.hi l.plans l.failed l.search

abbrev pub decreases-loop-lo : goal.decreases-loop-lo
decreases-loop-lo l = l.hi - l.lo
