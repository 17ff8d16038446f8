use Rattle.std.proofs.Common.{◌≡◌, take, map}
use Rattle.folding.specs.Placement.{numbers_of}
use Rattle.folding_structs.proofs.measure_placements.Given as goal

abbrev pub invariant-loop-placement : goal.invariant-loop-placement
invariant-loop-placement l = l.numbers.items ≡ map numbers_of (take l.placement-index l.placement-items)
