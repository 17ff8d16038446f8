use Rattle.std.proofs.lemmas.List.{map-set}
use Rattle.plan.proofs.Columns.{height_at}
use Rattle.plan.proofs.Planning.{from_asks, entry_stays, entry_more}
use native.Mathlib.Omega.{arith}
use Rattle.plan.proofs.plan_at.Goals as goal

pub returns-then-stays-clause-entry_done : goal.returns-then-stays-clause-entry_done
returns-then-stays-clause-entry_done c =
    let s = c.stays.ensures c.if-stays.true in
    entry_stays c.requires.entry_asks s.0 (omega (arith, height_at c.args.plan.now c.args.i, s.1))

pub best_from-requires-clause-from_asks : goal.best_from-requires-clause-from_asks
best_from-requires-clause-from_asks c = from_asks c.requires.entry_asks

pub returns-clause-entry_done : goal.returns-clause-entry_done
returns-clause-entry_done c = simp map-set (entry_more c.requires.entry_asks c.best_from.result c.best_from.ensures.result_value)
