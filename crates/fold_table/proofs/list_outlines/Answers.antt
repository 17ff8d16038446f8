use native.Mathlib.Omega.{arith}
use Rattle.fold.proofs.Held.{stacked_plan}
use Rattle.fold_table.proofs.Tables.{too_long, all_listed, all_gathered}
use Rattle.fold_table.proofs.list_outlines.Goals as goal

pub returns-then-out-n : goal.returns-then-out-n
returns-then-out-n c =
    too_long _ _ (stacked_plan c.requires) c.args.out.now _ c.gather-n.ensures.all c.if-out-n.true

pub returns-then-n-waiting : goal.returns-then-n-waiting
returns-then-n-waiting c =
    all_listed _ _ (stacked_plan c.requires) c.args.out.now _ c.gather-n.ensures.all _ c.if-out-n.false
    (rw (c.copy.ensures, c.gather-n.ensures.front (omega arith)))

pub returns-else-n-waiting : goal.returns-else-n-waiting
returns-else-n-waiting c =
    all_gathered _ _ (stacked_plan c.requires) c.args.out.now _ c.gather-n.ensures.all c.if-out-n.false
    c.gather.auto.pairs c.gather.ensures
