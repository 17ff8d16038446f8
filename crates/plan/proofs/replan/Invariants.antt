use Rattle.terms.specs.Pieces.{columns}
use Rattle.layout.specs.Plan.{lists}
use Rattle.plan.specs.Asks.{EntryDone}
use Rattle.plan.proofs.Remembering.{Rows}
use Rattle.plan.proofs.replan.Given as goal

abbrev pub invariant-loop-i : goal.invariant-loop-i
invariant-loop-i l = record {
  done : lists l.plan (columns l.stack (EntryDone l.kind l.known.0 l.limit.0 l.i));
  rows : columns l.stack (Rows l.kind l.known.0 l.limit.0) l.table l.words l.i l.at;
}
