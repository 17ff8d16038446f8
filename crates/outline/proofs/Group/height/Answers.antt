use Rattle.std.proofs.Common.{arith}
use Rattle.terms.specs.Pieces.{heights_in, seams_in}
use Rattle.terms.proofs.Pieces.{heights_length}
use Rattle.outline.proofs.Chains.{chains_of}
use Rattle.outline.proofs.Placing.{height_folded, height_flat}
use Rattle.folding.specs.Placement.{placements_in}
use Rattle.outline.proofs.Group.height.Goals as goal

pub top-t-requires : goal.top-t-requires
top-t-requires c = (c.requires.group_flat, (c.args.k, chains_of c.requires.group_flat c.requires.lefts))

pub returns-then-k-n : goal.returns-then-k-n
returns-then-k-n c = λ ws. let n = heights_length c.args.self.now.stack.now in let t = rw n at c.top-t.ensures.result_value in
    rw (
      height_folded (heights_in c.args.self.now.stack.now) ws (seams_in c.args.self.now.stack.now) (placements_in c.args.self.now.placements.now) _
          c.requires.group_flat.some c.requires.group_flat.first_left c.requires.lefts c.args.before.0 (omega (arith, n)),
      n,
    )
    (omega (arith, t))

pub returns-else-k-n : goal.returns-else-k-n
returns-else-k-n c = λ ws. let n = heights_length c.args.self.now.stack.now in let t = rw n at c.top-t.ensures.result_value in
    rw (
      height_flat (heights_in c.args.self.now.stack.now) ws (seams_in c.args.self.now.stack.now) (placements_in c.args.self.now.placements.now) _
          c.requires.group_flat.some c.requires.group_flat.first_left c.requires.lefts c.args.before.0 (omega (arith, n)),
      n,
    )
    (omega (arith, t))
