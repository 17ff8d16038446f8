use Rattle.std.proofs.Common.{length}
use Rattle.trace.proofs.+trace.Given as goal

abbrev pub decreases-trace : goal.decreases-trace
decreases-trace l = length l.stack.now
