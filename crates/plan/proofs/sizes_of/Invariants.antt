use Rattle.plan.proofs.Sizing.{SizesTo}
use Rattle.plan.proofs.sizes_of.Given as goal

abbrev pub invariant-loop-p : goal.invariant-loop-p
invariant-loop-p l = SizesTo l.stack l.sizes l.p-index
