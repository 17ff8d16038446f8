use Rattle.terms.specs.Answer.{answer_of}
use Rattle.best.proofs.Planning.{write_asks}
use Rattle.fold.proofs.Held.{stacked_plan}
use Rattle.fold_area.proofs.Passing.{to_area}
use Rattle.fold_area.proofs.write_smallest.Goals as goal

pub first_lead-first-requires-clause-stacked : goal.first_lead-first-requires-clause-stacked
first_lead-first-requires-clause-stacked c = rw c.new-search.ensures (stacked_plan c.requires.0)

pub pass-height-requires-clause-stacked : goal.pass-height-requires-clause-stacked
pass-height-requires-clause-stacked c = rw (c.first_lead-first.ensures.same, c.new-search.ensures) (stacked_plan c.requires.0)

pub write-requires-clause-room : goal.write-requires-clause-room
write-requires-clause-room c = rw (c.pass-height.ensures.same, c.first_lead-first.ensures.same, c.new-search.ensures) (write_asks _ _ c.args.stack.now _ _ c.requires)

pub returns : goal.returns
returns c =
    to_area _ _ (stacked_plan c.requires.0) _ _ c.write.new.out (answer_of c.write.result)
    (rw (c.first_lead-first.ensures.same, c.new-search.ensures) at c.pass-height.ensures.smallest)
    (rw (c.pass-height.ensures.same, c.first_lead-first.ensures.same, c.new-search.ensures) at c.write.ensures)
