use mathlib.Core.Path.{◌≡◌}
use Rattle.fold_area.specs.Inner.{Passing}
use Rattle.fold_area.proofs.pass.Given as goal

abbrev pub invariant-loop-flat : goal.invariant-loop-flat
invariant-loop-flat l =
    record {
      same : l.search ≡ l.initial.search;
      passing : Passing l.initial.search.kind l.initial.search.components l.lead l.limit.0;
    }

abbrev pub decreases-loop-flat : goal.decreases-loop-flat
decreases-loop-flat l = l.limit.0
