use Prim.Native.Nat.{◌+◌, ◌-◌}
use lib.ListN.{length}
use Rattle.terms.specs.Pieces.{sizes}
use Rattle.group_table.specs.Walks.{Walked}
use Rattle.group_table.proofs.Walks.{stop_at}
use Rattle.group_table.proofs.walk.Given as goal

abbrev pub invariant-ends : goal.invariant-ends
invariant-ends l = sizes l.stack Walked l.p l.q l.row l.cap.0 l.initial.fit (stop_at l.at l.fit)

abbrev pub decreases-ends : goal.decreases-ends
decreases-ends l = l.at.left + (length l.stack - l.at.right)
