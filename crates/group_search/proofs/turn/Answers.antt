use Rattle.terms.proofs.Pieces.{heights_length}
use Rattle.group_search.proofs.Turns.{side_low, top_low, left_out, taken}
use native.Mathlib.Omega.{arith}
use Rattle.group_search.proofs.turn.Goals as goal

pub overflow_add-end : goal.overflow_add-end
overflow_add-end c =
    let r = c.requires in
    let b = r.asks.ready.borders in
    omega (
      arith,
      r.asks.ready.small _ _ r.some r.ordered r.more,
      rw (heights_length c.args.stack.now) at (side_low b c.args.p (omega (arith, r.ordered, r.more))),
      top_low b c.args.q (omega (arith, r.more)),
      c.cell-row.ensures,
      c.cell.ensures,
      c.max-rest.ensures,
    )

pub returns-then-s-end : goal.returns-then-s-end
returns-then-s-end c =
    left_out c.requires (rw (heights_length c.args.stack.now) (omega (arith, c.if-s-end.true, c.cell-row.ensures, c.cell.ensures, c.max-rest.ensures)))

pub returns : goal.returns
returns c = taken c.requires _ c.cell-row.ensures c.walk-t.ensures.walked c.walk-t.ensures.stopped c.settle.ensures
