use Rattle.best.proofs.Summing.{unfolded}
use Rattle.best.proofs.flat_of.Goals as goal

pub returns : goal.returns
returns c =
    unfolded _ c.requires.0 c.requires.1 _ c.sizes_of-sizes.ensures _ c.flat_height-height.ensures _ c.cells_of-cells.ensures
