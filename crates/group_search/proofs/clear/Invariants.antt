use Rattle.terms.specs.Pieces.{seams_in}
use Rattle.group_search.specs.Inner.{Cleared}
use Rattle.group_search.proofs.clear.Given as goal

abbrev pub invariant-loop-p : goal.invariant-loop-p
invariant-loop-p l = Cleared (seams_in l.stack) l.initial.e l.e l.outer l.p
