use Rattle.std.proofs.Common.{arith}
use Rattle.terms.proofs.Pieces.{heights_length}
use Rattle.legality.proofs.Passes.{pass_unopened, pass_opened, pass_broken, pass_on, pass_done}
use Rattle.legality.proofs.is_legal.Goals as goal

pub returns-then-not-may_open : goal.returns-then-not-may_open
returns-then-not-may_open c = pass_unopened _ _ _ _ c.placed_at-x.ensures
    (omega (arith, heights_length c.args.stack.now)) c.may_open.ensures c.if-not-may_open.true

pub loop-i-init : goal.loop-i-init
loop-i-init c = pass_opened _ _ _ _ c.placed_at-x.ensures (rw (← heights_length c.args.stack.now) at c.requires.1)
    c.may_open.ensures c.if-not-may_open.false

pub returns-then-not-may_stand_next : goal.returns-then-not-may_stand_next
returns-then-not-may_stand_next c = pass_broken _ _ _ _ _ c.may_stand_next.ensures _
    (omega (arith, heights_length c.args.stack.now)) c.placed_at-y.ensures c.loop-i.invariant
    c.if-not-may_stand_next.true

pub loop-i-preserved : goal.loop-i-preserved
loop-i-preserved c = pass_on _ _ _ _ _ c.may_stand_next.ensures _ (omega (arith, heights_length c.args.stack.now))
    c.placed_at-y.ensures c.loop-i.invariant c.if-not-may_stand_next.false

pub returns : goal.returns
returns c = pass_done _ _ _ _ _ (omega (arith, heights_length c.args.stack.now)) c.loop-i.invariant
