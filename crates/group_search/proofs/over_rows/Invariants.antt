use Prim.Native.Nat.{◌≤◌}
use lib.ListN.{length}
use Rattle.terms.specs.Pieces.{heights_in, sizes}
use Rattle.group_search.specs.Inner.{Moved}
use Rattle.group_search.proofs.over_rows.Given as goal

abbrev pub invariant-loop-p : goal.invariant-loop-p
invariant-loop-p l = record {
  some : 1 ≤ l.p;
  moved : sizes l.stack Moved l.initial.e l.e l.cap.0 l.initial.best l.best (length (heights_in l.stack)) (length (heights_in l.stack)) l.p (length (heights_in l.stack));
}
