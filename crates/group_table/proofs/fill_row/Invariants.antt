use Prim.Native.Nat.{◌≤◌}
use Rattle.terms.specs.Pieces.{sizes}
use Rattle.group_table.specs.Inner.{RowDone}
use Rattle.group_table.proofs.fill_row.Given as goal

abbrev pub invariant-loop-q : goal.invariant-loop-q
invariant-loop-q l = (l.p ≤ l.q) × sizes l.stack RowDone l.initial.e l.e l.cap.0 l.p l.q
