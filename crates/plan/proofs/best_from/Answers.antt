use Prim.Native.Nat.{◌+◌}
use Rattle.std.proofs.lemmas.List.{drop-map}
use Rattle.plan.proofs.Columns.{behind}
use Rattle.plan.proofs.Planning.{first_asks, first_is}
use Rattle.plan.proofs.best_from.Goals as goal

pub invariant_of-left : goal.invariant_of-left
invariant_of-left c = record {
  first = rw (behind c.args.i c.args.stack.now, behind (c.args.i + 1) c.args.plan.now)
      (simp drop-map at (first_asks c.requires.from_asks _ c.gap_before.ensures));
}

pub returns-clause-result_value : goal.returns-clause-result_value
returns-clause-result_value c =
    first_is c.requires.from_asks _ c.gap_before.ensures _
    (simp drop-map (rw (behind c.args.i c.args.stack.now) at c.first_group.ensures.result_value))
