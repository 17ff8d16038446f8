use mathlib.Core.Path.{◌≡◌}
use Rattle.terms.proofs.Pieces.{heights_length}
use Rattle.group_search.proofs.Turns.{move_on, move_row}
use native.Mathlib.Omega.{arith}
use Rattle.group_search.proofs.over_rows.Goals as goal

pub loop-p-preserved : goal.loop-p-preserved
loop-p-preserved c = record {
  some = omega (arith, c.loop-p-test.true);
  moved = move_on (move_row c.loop-p.invariant.some (omega (arith, heights_length c.args.stack.now)) c.loop-p.invariant.moved) c.over_row-best.ensures;
}

pub returns : goal.returns
returns c = let z : c.loop-p.p ≡ 1 = omega (arith, c.loop-p.invariant.some, c.loop-p-test.false) in rw z at c.loop-p.invariant.moved
