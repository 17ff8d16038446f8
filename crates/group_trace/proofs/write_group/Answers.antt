use native.Mathlib.Omega.{arith}
use Rattle.terms.proofs.Pieces.{heights_length}
use Rattle.group_trace.proofs.Writing.{one_more, turn_more, ended}
use Rattle.group_trace.proofs.write_group.Goals as goal

pub loop-turn-preserved : goal.loop-turn-preserved
loop-turn-preserved c =
    let i = c.loop-turn.invariant.0 in
    (turn_more c.requires _ i c.of-t.ensures c.put.auto.out c.put.ensures, one_more c.requires _ i c.of-t.ensures _ c.loop-turn.invariant.1)

pub returns : goal.returns
returns c = ended c.requires _ c.loop-turn.invariant.0
    (omega (arith, heights_length c.args.table.stack.now, c.loop-turn.invariant.1, c.loop-turn-test.false))
