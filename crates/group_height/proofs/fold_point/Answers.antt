use native.Mathlib.Omega.{arith}
use Rattle.std.proofs.Common.{rules}
use Rattle.terms.specs.Pieces.{seams_in}
use Rattle.terms.proofs.Pieces.{seams_length}
use Rattle.group_height.specs.Inner.{height_by}
use Rattle.group_height.proofs.Points.{point_asks, is_point}
use Rattle.group_height.proofs.Picking.{m_first, callable, least}
use Rattle.group_height.proofs.fold_point.Goals as goal

pub min_by_key-requires-clause-callable : goal.min_by_key-requires-clause-callable
min_by_key-requires-clause-callable c =
    let e = c.chain.ensures in
    let asks = point_asks c.requires.asks c.requires.filled in
    callable
    (omega (arith, asks.some, seams_length c.args.table.stack.now))
    (m_first e.first c.once.ensures.item e.second e.first_done e.second_done)
    (height_by c.args.g0.0 c.args.last (seams_in c.args.table.stack.now) c.args.table.cells.now)
    (λ x k q r. search rules)
    (λ x a b y i. search rules)

pub returns : goal.returns
returns c =
    let e = c.chain.ensures in
    let asks = point_asks c.requires.asks c.requires.filled in
    let n = seams_length c.args.table.stack.now in
    let l = least
    (omega (arith, asks.some, n))
    (m_first e.first c.once.ensures.item e.second e.first_done e.second_done)
    (height_by c.args.g0.0 c.args.last (seams_in c.args.table.stack.now) c.args.table.cells.now)
    (λ x k q r. search rules)
    c.min_by_key.result
    c.min_by_key.ensures.runs in
    rw c.unwrap_or.ensures (is_point c.requires.asks c.requires.filled c.args.last c.requires.way _ l.0 (omega (arith, l.1, n)) (λ q a b. l.2 q a (omega (arith, b, n))))
