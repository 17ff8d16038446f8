use Rattle.terms.specs.Pieces.{heights_in}
use Rattle.group_table.proofs.Filling.{Top}
use Rattle.group_table.proofs.fill_top.Given as goal

abbrev pub invariant-loop-q : goal.invariant-loop-q
invariant-loop-q l = Top (heights_in l.stack) l.e l.q
