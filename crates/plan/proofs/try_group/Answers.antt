use mathlib.Core.Path.{sym, ◌∙◌}
use Rattle.plan.proofs.Remembering.{row_word, row_more}
use Rattle.plan.proofs.Trying.{barred_tried, first_ends}
use Rattle.plan.proofs.try_group.Goals as goal

pub returns-then-barred-clause-result_value : goal.returns-then-barred-clause-result_value
returns-then-barred-clause-result_value c =
    barred_tried c.requires.group_asks _ (first_ends c.args.stack.now c.args.i c.requires.within (sym c.barred.ensures ∙ c.if-barred.true))

pub try_flat-requires-clause-free : goal.try_flat-requires-clause-free
try_flat-requires-clause-free c = first_ends c.args.stack.now c.args.i c.requires.within (sym c.barred.ensures ∙ c.if-barred.false)

pub try_folds-requires-clause-free : goal.try_folds-requires-clause-free
try_folds-requires-clause-free c = first_ends c.args.stack.now c.args.i c.requires.within (sym c.barred.ensures ∙ c.if-barred.false)

pub try_folds-requires-clause-word_asks : goal.try_folds-requires-clause-word_asks
try_folds-requires-clause-word_asks c =
    row_word c.args.stack.now c.args.i c.requires.within c.stands_last-last.ensures _ _ (rw c.in-Nested.is at c.requires.row_asks)

pub returns-in-Nested-clause-row_done : goal.returns-in-Nested-clause-row_done
returns-in-Nested-clause-row_done c =
    rw c.in-Nested.is
    (row_more c.args.stack.now c.args.i c.requires.within c.stands_last-last.ensures _ (rw c.in-Nested.is at c.requires.row_asks).1 c.try_folds.ensures.word_holds)
