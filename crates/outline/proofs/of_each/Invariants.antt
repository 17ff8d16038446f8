use Rattle.std.proofs.Common.{◌≡◌, ℕ, drop}
use Rattle.terms.specs.Pieces.{columns}
use Rattle.outline.proofs.Walk.{Walked}
use Rattle.folding.specs.Placement.{placements_in}
use Rattle.outline.proofs.of_each.Given as goal

abbrev pub invariant-loop-run : goal.invariant-loop-run
invariant-loop-run l = record {
  from : ℕ;
  walked : columns l.stack Walked (placements_in l.placements) l.total l.highest.0 l.before.0 from;
  pieces : l.rest ≡ drop from l.stack;
  placed : l.run-iterator.rest.now ≡ drop from l.placements;
}
