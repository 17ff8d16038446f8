use Rattle.std.proofs.Common.{◌-◌, ◌≡◌, ◌≤◌, drop}
use Rattle.terms.specs.Component.{every, tabulate}
use Rattle.stack.proofs.all_stand.Given as goal

abbrev pub invariant-loop-p : goal.invariant-loop-p
invariant-loop-p g l =
    let at = g.L.Components.at l.list in
    (l.p.before ≤ l.n) × (every g.R.Rule.rule (drop l.p.before (tabulate at l.n)) ≡ every g.R.Rule.rule (tabulate at (g.L.Components.count l.list)))

abbrev pub decreases-loop-p : goal.decreases-loop-p
decreases-loop-p g l = l.n - l.p.before
