use Rattle.plan.specs.Left.{with_columns}
use Rattle.plan.specs.Memory.{RowDone}
use Rattle.plan.proofs.Scanning.{Scanned}
use Rattle.plan.proofs.Left.first_group.Given as goal

abbrev pub invariant-loop-i : goal.invariant-loop-i
invariant-loop-i l = record {
  scanned : Scanned l.self.ask.kind l.self.ask.limit.0 l.self.ask.before.0 l.initial.best.width.0 l.self.stack.now l.best l.sizes l.i;
  row_done : with_columns l.self RowDone l.row;
}
