use Rattle.std.proofs.Common.{◌-◌, ◌≤◌}
use Rattle.stack.specs.Inner.{Filled}
use Rattle.stack.proofs.fill.Given as goal

abbrev pub invariant-loop-p : goal.invariant-loop-p
invariant-loop-p l =
    let o = l.initial in
    (l.p.before ≤ l.file.n) × Filled l.file.file.now l.p.before o.heights o.widths o.gaps o.marks l.heights l.widths l.gaps l.marks

abbrev pub decreases-loop-p : goal.decreases-loop-p
decreases-loop-p l = l.file.n - l.p.before
