use Rattle.terms.proofs.Pieces.{heights_length}
use Rattle.group_search.proofs.Turns.{top_low, side_low}
use native.Mathlib.Omega.{arith}
use Rattle.group_search.proofs.offer.Goals as goal

pub overflow_add-row : goal.overflow_add-row
overflow_add-row c = omega (arith, top_low c.requires.ready.borders _ c.requires.within, c.requires.row_low)

pub overflow_add-row-then-y-stack : goal.overflow_add-row-then-y-stack
overflow_add-row-then-y-stack c =
    let low = rw (heights_length c.args.stack.now) at (side_low c.requires.ready.borders c.args.x (omega (arith, c.requires.ordered, c.requires.within))) in
    omega (arith, rw (← c.if-y-stack.true) at low, c.requires.row_low)
