use Prim.Native.Nat.{◌-◌}
use Rattle.terms.specs.Pieces.{columns}
use Rattle.group_search.proofs.Halves.{Halving}
use Rattle.group_search.proofs.narrowest.Given as goal

abbrev pub invariant-halving : goal.invariant-halving
invariant-halving l = columns l.stack (Halving l.sought.last l.sought.before.0) l.e l.sought.limit.0 l.fn.low.0 l.fn.cap.0 l.lo.0 l.found.width.0 l.found.height.0

abbrev pub decreases-halving : goal.decreases-halving
decreases-halving l = l.found.width.0 - l.lo.0
