use Prim.Native.Nat.{◌≤◌}
use mathlib.Core.Path.{◌≡◌}
use Rattle.fold_area.specs.Inner.{Lead}
use Rattle.fold_area.proofs.first_lead.Given as goal

abbrev pub invariant-loop-flat : goal.invariant-loop-flat
invariant-loop-flat l =
    record {
      same : l.search ≡ l.initial.search;
      lead : Lead l.initial.search.kind l.initial.search.components l.lead;
      low : l.limit.0 ≤ 2000000;
    }

abbrev pub decreases-loop-flat : goal.decreases-loop-flat
decreases-loop-flat l = l.limit.0
