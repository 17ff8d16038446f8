use Rattle.std.proofs.Common.{◌≡◌, ◌+◌}
use Rattle.terms.specs.Pieces.{sizes}
use Rattle.group_trace.proofs.Writing.{Writing}
use Rattle.group_trace.proofs.write_group.Given as goal

abbrev pub invariant-loop-turn : goal.invariant-loop-turn
invariant-loop-turn l = sizes l.table.stack.now Writing l.initial.out l.group l.left l.table.cap.0 l.out l.at
    × (l.at.left + l._turn ≡ l.at.right)
