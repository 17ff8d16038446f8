use Rattle.std.proofs.Common.{◌≡◌, drop}
use Rattle.terms.specs.Pieces.{columns}
use Rattle.folding.specs.Placement.{placements_in}
use Rattle.folding.specs.Asks.{placed_in}
use Rattle.folding.specs.Legal.{legal}
use Rattle.folding.proofs.Rules.{passes}
use Rattle.legality.proofs.is_legal.Given as goal

abbrev pub invariant-loop-i : goal.invariant-loop-i
invariant-loop-i l = passes l.kind l.x (drop l.i (columns l.stack placed_in (placements_in l.placements)))
    ≡ legal l.kind (columns l.stack placed_in (placements_in l.placements))
