use Rattle.std.proofs.Common.{rules}
use Rattle.plan.proofs.Outlines.{outline_met}
use Rattle.best.proofs.Planning.{trace_asks}
use Rattle.best.proofs.Search.write.Goals as goal

pub trace-requires : goal.trace-requires
trace-requires c =
    trace_asks _ c.args.limit.0 _ _ _ _ _ c.self.invariant.room (search rules) c.replan-found.auto.work (search rules) (search rules)
    (record { planned = c.replan-found.ensures.plan_done.planned; met = (outline_met _ _ _ c.replan-found.ensures.plan_done.outlined {o = c.in_ok-o.o} (search rules)).1 })
