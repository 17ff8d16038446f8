use Rattle.terms.proofs.Pieces.{heights_length}
use Rattle.trace.proofs.Grouping.{height_asks, apart_found}
use Rattle.trace.proofs.fold_at.Goals as goal

pub returns-in-Apart : goal.returns-in-Apart
returns-in-Apart c = rw (← heights_length c.args.table.stack.now) (apart_found c.requires.group c.in-Apart.is)

pub fold_point-requires-clause-asks : goal.fold_point-requires-clause-asks
fold_point-requires-clause-asks c = height_asks c.requires.group c.in-Nested.is
