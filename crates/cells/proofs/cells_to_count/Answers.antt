use Rattle.std.proofs.Common.{rules}
use Rattle.cells.proofs.Agreeing.{to_count_alike}
use Rattle.cells.proofs.Answering.{to_count}
use Rattle.cells.proofs.cells_to_count.Goals as goal

pub returns-clause-answered : goal.returns-clause-answered
returns-clause-answered c =
    to_count _ _ _ c.in_ok-sizes.ensures.4 (rw c.min-useful.ensures at c.least_height-least.ensures) _ _ _
    c.in_ok-sizes.ensures.0 c.write_stacks.ensures

pub returns-clause-as_apart : goal.returns-clause-as_apart
returns-clause-as_apart c =
    to_count_alike c.args.heights.now c.args.most c.args.ends.now c.write_stacks.new.ends _
    (to_count _ _ _ c.in_ok-sizes.ensures.4 (rw c.min-useful.ensures at c.least_height-least.ensures) _ _ _
    c.in_ok-sizes.ensures.0 c.write_stacks.ensures)

pub returns-in_err-sizes-clause-as_apart : goal.returns-in_err-sizes-clause-as_apart
returns-in_err-sizes-clause-as_apart c =
    to_count_alike c.args.heights.now c.args.most c.args.ends.now c.args.ends.now _ (search rules)
