use native.Mathlib.Omega.{arith}
use Rattle.cells.proofs.Answering.{room_for_all}
use Rattle.cells.proofs.write_stacks.Goals as goal
use Rattle.cells.proofs.write_stacks.Goals.{else-ends-heights-via-then-ends-heights+else-ends-fill, else-ends-heights-via-else-ends-heights}

pub write_ends-requires-clause-room : goal.write_ends-requires-clause-room
write_ends-requires-clause-room c =
    elim c.else-ends-heights.branch [
      | else-ends-heights-via-then-ends-heights+else-ends-fill w ↦ omega (arith, w.fill.ensures.count_is, w.if-ends-fill.false)
      | else-ends-heights-via-else-ends-heights w ↦ room_for_all _ _ _ c.requires (omega (arith, w.if-ends-heights.false))
    ]
