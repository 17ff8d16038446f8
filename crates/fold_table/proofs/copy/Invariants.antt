use Rattle.std.proofs.Common.{◌≡◌, ◌++◌, take, drop, length}
use Rattle.fold_table.proofs.copy.Given as goal

abbrev pub invariant-loop-i : goal.invariant-loop-i
invariant-loop-i l = record {
  front : l.out ≡ take l.i l.numbers ++ drop l.i l.initial.out;
  long : length l.out ≡ length l.initial.out;
}
