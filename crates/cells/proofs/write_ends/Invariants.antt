use Rattle.cells.specs.Filling.{PutEnds}
use Rattle.cells.proofs.write_ends.Given as goal

abbrev pub invariant-loop-at : goal.invariant-loop-at
invariant-loop-at l = PutEnds l.heights l.fn.limit.0 l.filling l.at l.fn.ends l.ends
