use Rattle.std.proofs.lemmas.Result.{err_from_is_err_and}
use Rattle.group_search.proofs.Halves.{asks_at, not_met, halved}
use native.Mathlib.Omega.{arith}
use Rattle.std.proofs.Common.{rules}
use Rattle.group_search.proofs.narrowest.Goals as goal

pub search-requires : goal.search-requires
search-requires c = asks_at c.requires _ _ _ c.borders.ensures c.first_cap-top.ensures.from c.first_cap-top.ensures.to

pub returns-in_err-found-clause-narrow : goal.returns-in_err-found-clause-narrow
returns-in_err-found-clause-narrow c =
    let p = err_from_is_err_and c.from_residual.result c.from_residual.ensures.1 in
    rw p.1 (not_met c.requires c.first_cap-top.ensures c.in_err-found.ensures.outcome)

pub search-requires-in-halving : goal.search-requires-in-halving
search-requires-in-halving c =
    asks_at c.requires _ _ _ c.halving.invariant.borders (omega (arith, c.midpoint.ensures))
    (omega (arith, c.halving.invariant.to, c.midpoint.ensures))

pub returns-clause-narrow : goal.returns-clause-narrow
returns-clause-narrow c = halved c.requires c.halving.invariant (search rules)
