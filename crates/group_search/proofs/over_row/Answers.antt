use mathlib.Core.Path.{◌≡◌}
use lib.ListN.{length}
use Rattle.terms.specs.Pieces.{heights_in}
use Rattle.terms.proofs.Pieces.{heights_length}
use Rattle.group_search.proofs.Turns.{move_on}
use native.Mathlib.Omega.{arith}
use Rattle.group_search.proofs.over_row.Goals as goal

pub loop-q-preserved : goal.loop-q-preserved
loop-q-preserved c = move_on c.loop-q.invariant c.turn-best.ensures

pub returns : goal.returns
returns c =
    let z : c.loop-q.q ≡ length (heights_in c.args.stack.now) = omega (arith, c.requires.more, heights_length c.args.stack.now) in
    rw z at c.loop-q.invariant
