use Rattle.std.proofs.Common.{arith, sym, ◌∙◌}
use Rattle.terms.proofs.Moves.{moves}
use Rattle.terms.proofs.Every.{every_kept, every_broken, every_done}
use Rattle.stack.proofs.all_stand.Goals as goal

pub returns-then-not-stands : goal.returns-then-not-stands
returns-then-not-stands g c =
    let b = sym c.stands.ensures ∙ c.if-not-stands.true in
    every_broken _ _ _ _ c.loop-p-test.true (rw (← c.component-c.ensures) b) c.loop-p.invariant.1

pub loop-p-preserved : goal.loop-p-preserved
loop-p-preserved g c =
    let m = c.next-p.ensures ∙ moves c.loop-p.p.before (omega arith) in
    let b = sym c.stands.ensures ∙ c.if-not-stands.false in
    (omega arith, rw m (every_kept _ _ _ _ c.loop-p-test.true (rw (← c.component-c.ensures) b) c.loop-p.invariant.1))

pub returns : goal.returns
returns g c = every_done _ _ _ _ c.loop-p-test.false c.loop-p.invariant.1
