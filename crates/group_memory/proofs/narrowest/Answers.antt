use Rattle.std.proofs.Common.{rules}
use Rattle.group_memory.proofs.Memory.{recalled, too_narrow}
use Rattle.group_memory.proofs.narrowest.Goals as goal

pub returns-in-Ok-clause-narrow : goal.returns-in-Ok-clause-narrow
returns-in-Ok-clause-narrow c =
    rw c.then_some.ensures (recalled c.requires (rw c.in-Ok.is at c.recall.ensures) _ (λ t. search rules) (λ t. search rules))

pub returns-then-too_narrow-clause-narrow : goal.returns-then-too_narrow-clause-narrow
returns-then-too_narrow-clause-narrow c = too_narrow c.requires (rw c.in-Err.is at c.recall.ensures) {low = c.max-low.result.0} (search rules) (search rules)
