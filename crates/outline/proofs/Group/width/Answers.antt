use Rattle.std.proofs.Common.{◌≡◌, max, arith, rules}
use Rattle.terms.proofs.Pieces.{heights_length}
use Rattle.outline.proofs.Sweep.{sweep_left, sweep_right, sweep_done}
use Rattle.outline.proofs.Group.width.Goals.{then-left_next, else-left_next}
use Rattle.outline.proofs.Group.width.Goals as goal

pub loop-turn-preserved : goal.loop-turn-preserved
loop-turn-preserved c = elim c.if-left_next.branch [
  | then-left_next w ↦
      let n = rw (w.if-left_next.true, ← heights_length c.args.self.now.stack.now) at c.left_next.ensures in
      let m : w.max-widest.result.0 ≡ max c.loop-turn.widest.0 w.start_sum-left.result.0 = search rules in
      rw (w.low-is, w.high-is, w.widest-is) (
        sweep_left c.requires.0 c.requires.1 c.loop-turn.invariant.0 n
            (rw w.then_some-other.ensures at w.start_sum-left.ensures.result_value) w.start_sum-left.ensures.result_le_most_width
            m,
        omega (arith, n.0, c.loop-turn.invariant.1),
      )
  | else-left_next w ↦
      let m : w.max-widest-else-left_next.result.0 ≡ max c.loop-turn.widest.0 w.start_sum-right.result.0 = search rules in
      rw (w.low-is, w.high-is, w.widest-is) (
        sweep_right c.requires.0 c.requires.1 c.loop-turn.invariant.0
            (rw (w.if-left_next.false, ← heights_length c.args.self.now.stack.now) at c.left_next.ensures)
            (rw w.then_some-other-else-left_next.ensures at w.start_sum-right.ensures.result_value)
            w.start_sum-right.ensures.result_le_most_width m,
        omega (arith, c.loop-turn.invariant.1),
      )
]

pub returns-clause-width_is : goal.returns-clause-width_is
returns-clause-width_is c = sweep_done c.requires.0 c.requires.1 c.loop-turn.invariant.0
    (omega (arith, heights_length c.args.self.now.stack.now, c.loop-turn.invariant.1, c.loop-turn-test.false))
