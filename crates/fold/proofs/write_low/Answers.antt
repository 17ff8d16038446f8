use Rattle.best.proofs.Planning.{write_asks}
use Rattle.fold.proofs.write_low.Goals as goal

pub write-requires-clause-room : goal.write-requires-clause-room
write-requires-clause-room c = rw c.new.ensures (write_asks _ _ c.args.stack.now _ _ c.requires)
