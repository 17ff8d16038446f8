use Rattle.std.proofs.Common.{◌-◌, ◌≡◌, ◌≤◌}
use Rattle.terms.specs.Pieces.{piece_of}
use Rattle.stack.specs.Inner.{column_into}
use Rattle.stack.proofs.fill_pieces.Given as goal

abbrev pub invariant-loop-p : goal.invariant-loop-p
invariant-loop-p l = (l.p.before ≤ l.file.n) × (l.room ≡ column_into piece_of l.file.file.now l.p.before l.initial.room)

abbrev pub decreases-loop-p : goal.decreases-loop-p
decreases-loop-p l = l.file.n - l.p.before
