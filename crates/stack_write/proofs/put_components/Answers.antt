use Rattle.std.proofs.Common.{arith, refl, sym, ◌≡◌, length}
use Rattle.stack_write.specs.Call.{entry_at}
use Rattle.stack_write.proofs.Writing.{written_none, written_more}
use Rattle.stack_write.proofs.put_components.Goals as goal

pub loop-i-init : goal.loop-i-init
loop-i-init c =
    let s = c.args.lists.now in
    sym (written_none (entry_at s.heights.now s.widths.now s.gaps.now s.marks.now) c.args.out.now)

pub loop-i-preserved : goal.loop-i-preserved
loop-i-preserved c =
    written_more _ _ c.loop-i.i _ c.loop-i.out _ (omega arith) c.loop-i.invariant refl c.put_component.ensures

pub returns : goal.returns
returns c = let e : c.loop-i.i ≡ length c.args.lists.now.heights.now = omega arith in rw e at c.loop-i.invariant
