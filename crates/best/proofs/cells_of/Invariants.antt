use Rattle.best.proofs.Summing.{Summed}
use Rattle.best.proofs.cells_of.Given as goal

abbrev pub invariant-loop-p : goal.invariant-loop-p
invariant-loop-p l = Summed l.stack l.count l.tallest l.p-index
