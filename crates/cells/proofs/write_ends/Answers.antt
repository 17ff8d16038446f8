use native.Mathlib.Omega.{arith}
use Rattle.cells.proofs.Putting.{put_fits, stacks_fit}
use Rattle.cells.proofs.Ending.{none_ended, place, ends_more, all_ended}
use Rattle.cells.proofs.write_ends.Goals as goal

pub loop-at-init : goal.loop-at-init
loop-at-init c = rw c.new-filling.ensures (none_ended _ _ _)

pub put-filling-requires : goal.put-filling-requires
put-filling-requires c =
    put_fits _ _ _ _ c.loop-at-test.true c.requires.row.tall c.loop-at.invariant.put c.requires.row.row.few

pub bounds-ends-filling : goal.bounds-ends-filling
bounds-ends-filling c =
    rw c.put-filling.ensures (place _ _ _ _ _ _ c.loop-at.invariant c.requires.room c.loop-at-test.true c.requires.row.tall)

pub loop-at-preserved : goal.loop-at-preserved
loop-at-preserved c =
    rw c.put-filling.ensures (ends_more _ _ _ _ _ _ c.loop-at.invariant c.requires.room c.loop-at-test.true c.requires.row.tall)

pub stacks-requires : goal.stacks-requires
stacks-requires c = stacks_fit _ _ c.requires.row _ _ (omega arith) c.loop-at.invariant.put c.loop-at.auto.at-end

pub returns : goal.returns
returns c =
    rw c.stacks.ensures (all_ended _ _ c.requires.row _ _ _ _ c.loop-at.invariant c.requires.room (omega arith))
