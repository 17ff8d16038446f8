use Rattle.std.proofs.Common.{arith, ◌≡◌, max, rules}
use Rattle.terms.proofs.Pieces.{heights_length}
use Rattle.outline.proofs.Chains.{top_ends}
use Rattle.outline.proofs.Group.top.Goals as goal

pub returns-clause-result_value : goal.returns-clause-result_value
returns-clause-result_value c =
    let m : c.max.result.0 ≡ max c.end-first.result.0 c.end-last.result.0 = search rules in
    rw (top_ends c.requires.0.some c.requires.1.0 c.requires.1.1, heights_length c.args.self.now.stack.now)
    (omega (arith, m))
