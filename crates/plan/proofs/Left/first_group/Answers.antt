use Prim.Native.Nat.{◌<◌}
use Rattle.std.proofs.Common.{rules}
use Rattle.plan.proofs.Remembering.{row_start}
use Rattle.plan.proofs.Scanning.{scan_start, scan_stop, next_asks, scan_more, scan_done}
use native.Mathlib.Omega.{arith}
use Rattle.plan.proofs.Left.first_group.Goals as goal

pub loop-i-init : goal.loop-i-init
loop-i-init c = record {
  scanned = rw c.unwrap_or.ensures (scan_start c.args.self.now c.args.bound c.requires.under);
  row_done = row_start _ _ _ _ _ c.args.self.now.ask.kind _ _ c.requires.row_asks;
}

pub returns-then-lt-clause-result_value : goal.returns-then-lt-clause-result_value
returns-then-lt-clause-result_value c =
    let over : c.most_rows-most.result.0 < c.plus-sizes.result.tall.0 = search rules in
    scan_stop c.args.self.now c.loop-i.invariant.scanned (omega arith) c.plus-sizes.ensures.tall c.plus-sizes.ensures.widest
    (rw c.most_rows-most.ensures.result_value at over)

pub try_group-requires-clause-group_asks : goal.try_group-requires-clause-group_asks
try_group-requires-clause-group_asks c =
    next_asks c.args.self.now c.loop-i.invariant.scanned (omega arith) c.plus-sizes.ensures.tall c.plus-sizes.ensures.widest

pub loop-i-preserved : goal.loop-i-preserved
loop-i-preserved c = record {
  scanned = rw c.unwrap_or-best.ensures (scan_more c.args.self.now c.loop-i.invariant.scanned (omega arith)
      c.plus-sizes.ensures.tall c.plus-sizes.ensures.widest _ c.try_group.ensures.result_value);
  row_done = c.try_group.ensures.row_done;
}

pub returns-clause-result_value : goal.returns-clause-result_value
returns-clause-result_value c = scan_done c.args.self.now c.loop-i.invariant.scanned (omega arith)
