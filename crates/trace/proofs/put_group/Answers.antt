use Rattle.trace.proofs.Grouping.{write_asks}
use Rattle.trace.proofs.put_group.Goals as goal

pub write_group-requires : goal.write_group-requires
write_group-requires c = write_asks c.requires.0 c.requires.1 c.fold_at-left.ensures
