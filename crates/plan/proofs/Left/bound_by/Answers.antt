use mathlib.Core.Path.{refl, sym, ◌∙◌}
use Rattle.plan.proofs.Remembering.{row_word, row_more}
use Rattle.plan.proofs.Scanning.{sizes_asks, bound_asks, bound_under}
use Rattle.plan.proofs.Trying.{first_ends}
use native.Mathlib.Omega.{arith}
use Rattle.plan.proofs.Left.bound_by.Goals as goal

pub sizes_of-sizes-requires : goal.sizes_of-sizes-requires
sizes_of-sizes-requires c = sizes_asks c.args.self.now c.args.end (omega (arith, c.if-self-end.false))

pub try_folds-requires-clause-group_asks : goal.try_folds-requires-clause-group_asks
try_folds-requires-clause-group_asks c =
    bound_asks c.args.self.now c.requires.nested c.args.end (omega (arith, c.if-self-end.false)) c.sizes_of-sizes.ensures

pub try_folds-requires-clause-word_asks : goal.try_folds-requires-clause-word_asks
try_folds-requires-clause-word_asks c =
    row_word c.args.self.now.stack.now c.args.end (omega (arith, c.if-self-end.false)) c.stands_last.ensures _ _ (rw c.requires.nested at c.requires.row_asks)

pub try_folds-requires-clause-free : goal.try_folds-requires-clause-free
try_folds-requires-clause-free c =
    first_ends c.args.self.now.stack.now c.args.end (omega (arith, c.if-self-end.false)) (sym c.barred.ensures ∙ c.if-barred.false)

pub returns-in_err-b-clause-row_done : goal.returns-in_err-b-clause-row_done
returns-in_err-b-clause-row_done c =
    rw c.requires.nested
    (row_more c.args.self.now.stack.now c.args.end (omega (arith, c.if-self-end.false)) c.stands_last.ensures _ (rw c.requires.nested at c.requires.row_asks).1 c.try_folds.ensures.word_holds)

pub returns-in_err-o-clause-row_done : goal.returns-in_err-o-clause-row_done
returns-in_err-o-clause-row_done c =
    rw c.requires.nested
    (row_more c.args.self.now.stack.now c.args.end (omega (arith, c.if-self-end.false)) c.stands_last.ensures _ (rw c.requires.nested at c.requires.row_asks).1 c.try_folds.ensures.word_holds)

pub returns-clause-under : goal.returns-clause-under
returns-clause-under c =
    bound_under c.args.self.now c.requires.nested c.args.end (omega (arith, c.if-self-end.false)) c.in_ok-b.b
    (rw (c.in_ok-b.was, c.stands_last.ensures) at c.try_folds.ensures.result_value) {o = c.in_ok-o.o} (sym c.outline.ensures ∙ c.in_ok-o.was) _ refl

pub returns-clause-row_done : goal.returns-clause-row_done
returns-clause-row_done c =
    rw c.requires.nested
    (row_more c.args.self.now.stack.now c.args.end (omega (arith, c.if-self-end.false)) c.stands_last.ensures _ (rw c.requires.nested at c.requires.row_asks).1 c.try_folds.ensures.word_holds)
