use Rattle.group_table.proofs.Walking.{ending, walk_ends}
use Rattle.group_table.proofs.entry.Goals as goal

pub ending-requires : goal.ending-requires
ending-requires c = ending c.requires c.walk-stop.ensures.walked

pub returns : goal.returns
returns c = walk_ends c.requires c.walk-stop.ensures.walked _ c.ending.ensures c.walk-stop.ensures.stopped
