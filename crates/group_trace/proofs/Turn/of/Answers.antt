use Rattle.group_trace.proofs.Turns.{only_right}
use Rattle.group_trace.proofs.Turn.of.Goals as goal

pub returns-then-at-eq0 : goal.returns-then-at-eq0
returns-then-at-eq0 c = only_right c.requires _ c.height.ensures.value c.if-at-eq0.true c.right.ensures
