use Rattle.terms.specs.Pieces.{sizes}
use Rattle.group_search.specs.Inner.{Moved}
use Rattle.group_search.proofs.over_row.Given as goal

abbrev pub invariant-loop-q : goal.invariant-loop-q
invariant-loop-q l = sizes l.stack Moved l.initial.e l.e l.cap.0 l.initial.best l.best l.p l.p l.p l.q
