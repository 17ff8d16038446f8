use Rattle.stack_folds.proofs.Codes.{stacks_said}
use Rattle.stack_folds.proofs.folds_cells_to_count.Goals as goal

pub returns-clause-as_apart : goal.returns-clause-as_apart
returns-clause-as_apart c = rw (c.into.ensures, stacks_said c.cells_to_count.result) c.cells_to_count.ensures.as_apart
