use Rattle.cells.specs.Filling.{Seen}
use Rattle.cells.proofs.sizes_of.Given as goal

abbrev pub invariant-loop-height : goal.invariant-loop-height
invariant-loop-height l = Seen l.heights l.sizes l.height-index
