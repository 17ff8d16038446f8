use Rattle.std.proofs.Common.{◌<◌}
use Rattle.stack_run.proofs.rise.Given as goal

abbrev pub invariant-loop-item : goal.invariant-loop-item
invariant-loop-item l = l.x < 4000
