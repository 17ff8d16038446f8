use Rattle.group_trace.proofs.Turns.{left_fits, right_fits}
use Rattle.group_trace.proofs.Turn.meet.Goals as goal

pub overflow_add-left-2 : goal.overflow_add-left-2
overflow_add-left-2 c = left_fits c.requires.0 c.requires.1 c.requires.2 _ _ c.height.ensures.upper_bound c.cell.ensures

pub overflow_add-right-2 : goal.overflow_add-right-2
overflow_add-right-2 c = right_fits c.requires.0 c.requires.1 c.requires.2 _ _ c.height-2.ensures.upper_bound c.cell-2.ensures
