use Rattle.std.proofs.Common.{◌≡◌, ◌+◌}
use Rattle.outline.proofs.Sweep.{Swept}
use Rattle.outline.specs.Columns.{with_sizes}
use Rattle.outline.proofs.Group.width.Given as goal

abbrev pub invariant-loop-turn : goal.invariant-loop-turn
invariant-loop-turn l = with_sizes l.self Swept l.k l.low l.high l.widest.0 × (l.low + l._turn ≡ l.high)
