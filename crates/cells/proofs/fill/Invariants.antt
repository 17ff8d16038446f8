use Rattle.cells.specs.Filling.{Put}
use Rattle.cells.proofs.fill.Given as goal

abbrev pub invariant-loop-height : goal.invariant-loop-height
invariant-loop-height l = Put l.heights l.fn.limit.0 l.filling l.height-index
