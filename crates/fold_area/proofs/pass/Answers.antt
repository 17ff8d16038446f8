use mathlib.Core.Path.{refl, ◌∙◌}
use native.Mathlib.Omega.{arith}
use Rattle.std.proofs.Common.{rules}
use Rattle.best.proofs.Planning.{met, unmet}
use Rattle.fold_area.proofs.Passing.{first_asks, starts, ends_low, ends_unmet, fits, limit_less, goes_on}
use Rattle.fold_area.proofs.pass.Goals as goal

pub next_limit-limit-requires : goal.next_limit-limit-requires
next_limit-limit-requires c = first_asks _ _ c.requires.stacked _ c.requires.unfolded _ c.requires.lead

pub loop-flat-init : goal.loop-flat-init
loop-flat-init c = record {
  same = refl;
  passing = rw c.next_limit-limit.ensures (starts _ _ c.requires.stacked _ c.requires.unfolded _ c.requires.lead);
}

pub returns-in_default-clause-smallest : goal.returns-in_default-clause-smallest
returns-in_default-clause-smallest c =
    let i = c.loop-flat.invariant in
    ends_unmet _ _ c.requires.stacked _ c.requires.unfolded _ _ i.passing (unmet _ _ _ i.same c.outline.ensures.outlined c.in_default.is)

pub next_limit-limit-requires-in-loop-flat : goal.next_limit-limit-requires-in-loop-flat
next_limit-limit-requires-in-loop-flat c =
    let i = c.loop-flat.invariant in
    let e = rw i.same at c.outline.ensures.outlined in (
      omega arith,
      rw c.smaller-lead.ensures (fits _ _ c.requires.stacked _ c.requires.unfolded _ _ i.passing _ (met _ _ _ i.same c.outline.ensures.outlined c.in-Some.is)),
    )

pub loop-flat-smaller : goal.loop-flat-smaller
loop-flat-smaller c =
    let i = c.loop-flat.invariant in
    rw (c.next_limit-limit-in-loop-flat.ensures, c.smaller-lead.ensures)
    (limit_less _ _ c.requires.stacked _ c.requires.unfolded _ _ i.passing _ (met _ _ _ i.same c.outline.ensures.outlined c.in-Some.is))

pub loop-flat-preserved : goal.loop-flat-preserved
loop-flat-preserved c =
    let i = c.loop-flat.invariant in
    record {
      same = c.outline.ensures.same ∙ i.same;
      passing = rw (c.next_limit-limit-in-loop-flat.ensures, c.smaller-lead.ensures)
          (goes_on _ _ c.requires.stacked _ c.requires.unfolded _ _ i.passing _ (met _ _ _ i.same c.outline.ensures.outlined c.in-Some.is));
    }

pub returns-clause-smallest : goal.returns-clause-smallest
returns-clause-smallest c =
    ends_low _ _ c.requires.stacked _ c.requires.unfolded _ _ c.loop-flat.invariant.passing (search rules)
