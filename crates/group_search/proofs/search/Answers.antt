use Rattle.terms.proofs.Pieces.{seams_length}
use Rattle.group_search.proofs.Searching.{searched, met, missed}
use Rattle.std.proofs.Common.{rules}
use Rattle.group_search.proofs.search.Goals as goal

pub returns-then-lt-clause-outcome : goal.returns-then-lt-clause-outcome
returns-then-lt-clause-outcome c =
    missed
    (searched c.requires c.clear.ensures (rw (seams_length c.args.stack.now) c.gap.ensures.value) c.max-outer.ensures c.args.sought.last (search rules) c.over_rows.ensures)
    (search rules)

pub returns-clause-outcome : goal.returns-clause-outcome
returns-clause-outcome c =
    met
    (searched c.requires c.clear.ensures (rw (seams_length c.args.stack.now) c.gap.ensures.value) c.max-outer.ensures c.args.sought.last (search rules) c.over_rows.ensures)
    c.over_rows.ensures.more_fits (search rules)
