use Rattle.std.proofs.Common.{rules}
use native.Mathlib.Omega.{arith}
use Rattle.cells.proofs.Agreeing.{none_for, to_height_alike}
use Rattle.cells.proofs.Answering.{to_height, unmet}
use Rattle.cells.proofs.cells_to_height.Goals as goal

pub returns-then-limit-sizes-clause-none : goal.returns-then-limit-sizes-clause-none
returns-then-limit-sizes-clause-none c e =
    none_for _ _ (omega (arith, c.in_ok-sizes.ensures.3.tallest_is, c.if-limit-sizes.true))

pub returns-then-limit-sizes-clause-as_apart : goal.returns-then-limit-sizes-clause-as_apart
returns-then-limit-sizes-clause-as_apart c =
    to_height_alike c.args.heights.now c.args.limit.0 c.args.ends.now c.args.ends.now _
    (unmet c.args.heights.now c.args.limit.0 c.args.ends.now c.in_ok-sizes.ensures.0 (omega (arith, c.in_ok-sizes.ensures.3.tallest_is, c.if-limit-sizes.true)))

pub returns-clause-answered : goal.returns-clause-answered
returns-clause-answered c = to_height _ _ (search rules) _ _ _ c.in_ok-sizes.ensures.0 c.write_stacks.ensures

pub returns-clause-as_apart : goal.returns-clause-as_apart
returns-clause-as_apart c =
    to_height_alike c.args.heights.now c.args.limit.0 c.args.ends.now c.write_stacks.new.ends _
    (to_height _ _ (search rules) _ _ _ c.in_ok-sizes.ensures.0 c.write_stacks.ensures)

pub returns-in_err-sizes-clause-as_apart : goal.returns-in_err-sizes-clause-as_apart
returns-in_err-sizes-clause-as_apart c =
    to_height_alike c.args.heights.now c.args.limit.0 c.args.ends.now c.args.ends.now _ (search rules)
