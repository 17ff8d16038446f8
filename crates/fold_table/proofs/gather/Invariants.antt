use mathlib.Core.Path.{◌≡◌}
use Rattle.terms.specs.Pieces.{stack_in}
use Rattle.fold_table.specs.Inner.{GatheredTo}
use Rattle.fold_table.proofs.gather.Given as goal

abbrev pub invariant-loop-limit : goal.invariant-loop-limit
invariant-loop-limit l =
    record {
      same : l.search ≡ record { kind = l.fn.kind; components = stack_in l.stack; room = l.initial.search.room };
      gathered : GatheredTo l.fn.kind (stack_in l.stack) l.initial.pairs l.pairs l.limit.0 l.n;
    }

abbrev pub decreases-loop-limit : goal.decreases-loop-limit
decreases-loop-limit l = l.limit.0
