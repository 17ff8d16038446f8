use native.Mathlib.Omega.{arith}
use Rattle.std.proofs.Common.{ap, length, length-drop}
use Rattle.trace.proofs.Tracing.{empty, not_empty, part_is, first_is, first_asks, cap_asks, put_asks, group_put, again, done, nothing}
use Rattle.trace.proofs.+trace.Goals as goal

pub first_group-first-requires : goal.first_group-first-requires
first_group-first-requires t c = first_asks c.args.stack.now c.args.plan.now c.requires (not_empty _ c.is_empty.ensures c.if-is_empty.false)

pub cap_of-requires : goal.cap_of-requires
cap_of-requires t c = cap_asks c.args.stack.now c.args.plan.now c.requires (not_empty _ c.is_empty.ensures c.if-is_empty.false) c.first_group-first.ensures.count.0

pub put_group-requires : goal.put_group-requires
put_group-requires t c = let f = c.first_group-first.ensures in
    put_asks c.args.stack.now c.args.plan.now c.requires (not_empty _ c.is_empty.ensures c.if-is_empty.false) f.count.0 c.stands_last-last.ensures (first_is c.args.stack.now _ f.value f.count.0)

pub trace-requires : goal.trace-requires
trace-requires t c = (
  omega (
    arith,
    ap length (part_is (length c.first_group-first.result.now) c.args.stack.now),
    length-drop (length c.first_group-first.result.now) c.args.stack.now,
    c.first_group-first.ensures.count.0,
    c.first_group-first.ensures.count.1,
    c.first_group-first.ensures.count.2,
    c.decreases,
  ),
  again
      c.args.stack.now c.args.plan.now
      c.requires
      (not_empty _ c.is_empty.ensures c.if-is_empty.false)
      c.first_group-first.ensures.count.0
      c.cap_of.ensures
      c.gap.ensures.value
      _ _
      c.put_group.auto.out
      c.put_group.auto.work,
)

pub returns : goal.returns
returns t c =
    done
    c.args.stack.now c.args.plan.now
    c.requires
    (not_empty _ c.is_empty.ensures c.if-is_empty.false)
    c.first_group-first.ensures.count.0
    c.cap_of.ensures
    c.gap.ensures.value
    c.stands_last-last.ensures
    (group_put c.args.stack.now c.args.plan.now c.requires (not_empty _ c.is_empty.ensures c.if-is_empty.false) c.first_group-first.ensures.count.0
    (first_is c.args.stack.now _ c.first_group-first.ensures.value c.first_group-first.ensures.count.0) c.put_group.ensures)
    c.trace.ensures

pub returns-then-is_empty : goal.returns-then-is_empty
returns-then-is_empty t c = nothing c.args.stack.now (empty _ c.is_empty.ensures c.if-is_empty.true)
