use Rattle.outline.proofs.Chains.{chains_of, lent_length}
use Rattle.outline.proofs.Runs.{lefts_of}
use Rattle.outline.proofs.Group.outline.Goals as goal

pub width-requires : goal.width-requires
width-requires c = let v = c.requires.0.wide.flat_group in
    (c.requires.0.wide, chains_of v (lefts_of c.args.self.now.placements.now (lent_length c.args.self.now) c.lefts-k.ensures))

pub height-requires-clause-lefts : goal.height-requires-clause-lefts
height-requires-clause-lefts c = lefts_of c.args.self.now.placements.now (lent_length c.args.self.now) c.lefts-k.ensures
