use Rattle.terms.specs.Pieces.{sizes}
use Rattle.group_table.proofs.Filling.{Tabling}
use Rattle.group_table.proofs.fill.Given as goal

abbrev pub invariant-loop-p : goal.invariant-loop-p
invariant-loop-p l = sizes l.stack Tabling l.e l.cap.0 l.p
