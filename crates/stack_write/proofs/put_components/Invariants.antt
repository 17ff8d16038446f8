use Rattle.std.proofs.Common.{◌≡◌}
use Rattle.stack_write.specs.Call.{entry_at}
use Rattle.stack_write.proofs.Writing.{written}
use Rattle.stack_write.proofs.put_components.Given as goal

abbrev pub invariant-loop-i : goal.invariant-loop-i
invariant-loop-i l =
    let s = l.lists in
    l.out ≡ written (entry_at s.heights.now s.widths.now s.gaps.now s.marks.now) l.initial.out l.i
