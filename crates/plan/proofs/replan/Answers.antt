use Prim.Native.Nat.{◌-◌}
use mathlib.Core.Path.{sym, ◌∙◌}
use lib.ListN.{length-set}
use Rattle.std.proofs.lemmas.List.{map-set}
use Rattle.terms.proofs.Pieces.{heights_length}
use Rattle.plan.proofs.Planning.{entries_start, entry_next}
use Rattle.plan.proofs.Remembering.{rows_start, rows_end, row_within, row_given, row_done}
use native.Mathlib.Omega.{arith}
use Rattle.plan.proofs.replan.Goals as goal

pub loop-i-init : goal.loop-i-init
loop-i-init c = record {
  done = simp map-set (rw (heights_length c.args.stack.now) at (entries_start c.requires.plan_asks c.requires.known));
  rows = rw (c.split_at_mut-table.ensures.front, c.split_at_mut-table.ensures.back)
      (rows_start _ _ _ _ _ c.args.work.now _ _ c.min-front.ensures (sym (heights_length c.args.stack.now)) c.args.kind c.requires.plan_asks.lists.few
      c.requires.plan_asks.room (λ l. (c.requires.known l).1));
}

pub overflow_add-end : goal.overflow_add-end
overflow_add-end c = omega (arith, c.row_words.ensures, (row_within c.args.stack.now (c.loop-i.i - 1) (omega arith) (omega arith) c.loop-i.invariant.rows).0)

pub offset_bounds-words-at : goal.offset_bounds-words-at
offset_bounds-words-at c = omega (arith, (row_within c.args.stack.now (c.loop-i.i - 1) (omega arith) (omega arith) c.loop-i.invariant.rows).0)

pub slice_bounds-plan_at-end : goal.slice_bounds-plan_at-end
slice_bounds-plan_at-end c = omega (arith, c.row_words.ensures, (row_within c.args.stack.now (c.loop-i.i - 1) (omega arith) (omega arith) c.loop-i.invariant.rows).1)

pub plan_at-requires-clause-entry_asks : goal.plan_at-requires-clause-entry_asks
plan_at-requires-clause-entry_asks c =
    entry_next c.args.plan.now c.loop-i.plan (c.loop-i.auto.plan ∙ length-set _ _ _) (omega arith) (omega (arith, heights_length c.args.stack.now))
    c.requires.plan_asks c.loop-i.invariant.done

pub plan_at-requires-clause-row_given : goal.plan_at-requires-clause-row_given
plan_at-requires-clause-row_given c = row_given c.args.stack.now (c.loop-i.i - 1) (omega arith) (omega arith) c.loop-i.invariant.rows (omega (arith, c.row_words.ensures))

pub loop-i-preserved : goal.loop-i-preserved
loop-i-preserved c = record {
  done = c.plan_at.ensures.entry_done;
  rows = row_done c.args.stack.now (c.loop-i.i - 1) (omega arith) (omega arith) c.loop-i.invariant.rows (omega (arith, c.row_words.ensures)) _ _ c.plan_at.auto.table (omega (arith, c.plan_at.auto.row)) c.plan_at.ensures.row_done;
}

pub returns-clause-memory : goal.returns-clause-memory
returns-clause-memory c = rows_end c.args.kind _ _ _ _ _ _ _ _ _ (omega arith) c.loop-i.invariant.rows
