use Rattle.std.proofs.Common.{rules}
use Rattle.terms.specs.Answer.{answer_of}
use Rattle.best.proofs.Planning.{write_asks}
use Rattle.fold.proofs.Held.{stacked_plan}
use Rattle.fold.proofs.Limits.{too_slim, slim_some, starts, to_width}
use Rattle.fold.proofs.write_slim.Goals as goal

pub returns-then-lt : goal.returns-then-lt
returns-then-lt c = too_slim _ _ (stacked_plan c.requires.0) _ c.requires.1 _ _ c.flat_of-flat.ensures (search rules)

pub invariant_of-asked : goal.invariant_of-asked
invariant_of-asked c = record { some = slim_some (stacked_plan c.requires.0) c.flat_of-flat.ensures _ (search rules) }

pub least_height-least-requires : goal.least_height-least-requires
least_height-least-requires c =
    rw c.new-search.ensures (record {
      stacked = stacked_plan c.requires.0;
      w_most = c.requires.1;
      between = starts _ _ (stacked_plan c.requires.0) _ c.requires.1 _ c.flat_of-flat.ensures (search rules);
    })

pub write-requires-clause-room : goal.write-requires-clause-room
write-requires-clause-room c = rw (c.least_height-least.ensures.same, c.new-search.ensures) (write_asks _ _ c.args.stack.now _ _ c.requires)

pub returns : goal.returns
returns c =
    to_width _ _ (stacked_plan c.requires.0) _ c.requires.1 _ _ c.write.new.out (answer_of c.write.result)
    (rw c.new-search.ensures at c.least_height-least.ensures.least_for)
    (rw (c.least_height-least.ensures.same, c.new-search.ensures) at c.write.ensures)
