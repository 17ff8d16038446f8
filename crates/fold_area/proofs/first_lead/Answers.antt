use Prim.Native.Nat.{◌<◌, ◌/◌, max}
use mathlib.Core.Path.{◌≡◌, refl, ◌∙◌}
use native.Mathlib.Omega.{arith}
use Rattle.std.proofs.Common.{rules}
use Rattle.best.proofs.Planning.{met}
use Rattle.fold_area.proofs.Passing.{flat_leads, own_asks, own_limit, smaller_leads}
use Rattle.fold_area.proofs.first_lead.Goals as goal

pub next_limit-requires : goal.next_limit-requires
next_limit-requires c = own_asks c.args.search.now.kind _ c.requires.stacked _ (flat_leads c.args.search.now.kind _ c.requires.stacked _ c.requires.unfolded)

pub loop-flat-init : goal.loop-flat-init
loop-flat-init c =
    let l = flat_leads c.args.search.now.kind _ c.requires.stacked _ c.requires.unfolded in
    record {
      same = refl;
      lead = l;
      low = omega (arith, c.next_limit.ensures, own_limit _ _ c.requires.stacked _ l c.args.flat.cells);
    }

pub loop-flat-preserved : goal.loop-flat-preserved
loop-flat-preserved c =
    let i = c.loop-flat.invariant in
    let low : c.args.flat.tallest.0 < c.loop-flat.limit.0 = search rules in
    let larger : c.max-limit.result.0 ≡ max c.args.flat.tallest.0 (c.loop-flat.limit.0 / 2) = search rules in
    record {
      same = c.outline.ensures.same ∙ i.same;
      lead = rw c.smaller-lead.ensures (smaller_leads _ _ c.requires.stacked _ i.lead _ (omega (arith, low, larger)) _ (met _ _ _ i.same c.outline.ensures.outlined c.in-Some.is));
      low = omega (arith, low, larger);
    }
