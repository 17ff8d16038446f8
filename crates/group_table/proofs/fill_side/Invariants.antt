use Rattle.terms.specs.Pieces.{heights_in}
use Rattle.group_table.proofs.Filling.{Side}
use Rattle.group_table.proofs.fill_side.Given as goal

abbrev pub invariant-loop-p : goal.invariant-loop-p
invariant-loop-p l = Side (heights_in l.stack) l.initial.e l.e l.p
