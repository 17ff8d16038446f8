-- One pass over falling limits ends at the smallest area of all legal foldings.
use Prim.Native.Nat.{ℕ, ◌+◌, ◌*◌, ◌≤◌, ◌<◌}
use mathlib.Core.Path.{◌≡◌, sym, subst}
use mathlib.Core.List.{List}
use native.Mathlib.Nat.{mul-le-mul}
use native.Mathlib.Omega.{arith}
use Rattle.terms.specs.declared.Component.{Component}
use Rattle.terms.specs.declared.Kind.{Kind}
use Rattle.terms.specs.Answer.{Answer, refusal, result}
use Rattle.folding.specs.declared.Outline.{Outline}
use Rattle.folding.specs.declared.Placement.{Placement}
use Rattle.folding.specs.Legal.{Legal}
use Rattle.folding.specs.Outline.{outline_of}
use Rattle.folding.specs.Best.{area_of, Larger}
use Rattle.folding.proofs.Cells.{cells_most, tallest_most}
use Rattle.model.specs.Area.{smaller_of, next_limit}
use Rattle.model.specs.Outlines.{outline}
use Rattle.model.proofs.Best.{unmeetable_height, own_height}
use Rattle.model.proofs.Area.{no_larger, smaller_either, smaller_second, limit_most, leads_first, next_small, falls, leads_on, leads_all, smallest_met, smallest_is}
use Rattle.group.specs.Group.{none, widest, may_stand}
use Rattle.layout.specs.Layout.{layout_of}
use Rattle.layout.proofs.Groups.{Stacked}
use Rattle.layout.proofs.Foldings.{search}
use Rattle.layout.proofs.Best.{best_height}
use Rattle.layout.proofs.Widest.{widest_some, widest_most, layout_widest, none_narrower, flat_enough}
use Rattle.plan.specs.Asks.{best_at}
use Rattle.best.specs.declared.Flat.{Flat}
use Rattle.best.specs.Asks.{Unfolded, Written}
use Rattle.fold.specs.Calls.{Searched}
use Rattle.fold_area.specs.Calls.{by_area}
use Rattle.fold_area.specs.Inner.{Lead, Passing, SmallestFor}

module _ (kind : Kind) (cs : List Component) (s : Stacked cs) where
  -- What leads where no folding is within the limit.
  ended : (o : Outline) (limit : ℕ) → Passing kind cs o limit → ((ps : List Placement) → Legal kind cs ps → (outline_of cs ps).height.0 ≤ limit → ⊥) → SmallestFor kind cs o.height.0
  ended o limit i unmet =
      let all = leads_all (search kind cs s) o limit i.leads unmet in
      let slim = i.lead.slim in
      let e : best_at kind o.height.0 cs ≡ o = smallest_is (search kind cs s) o limit i.leads all slim in
      record {
        most = i.lead.low;
        met = smallest_met (search kind cs s) o limit i.leads all slim;
        smallest = λ other l. subst (λ (x : Outline). Larger x (outline_of cs other)) (sym e) (all other l);
      }

  widest_wide : 0 < widest cs
  widest_wide = widest_some cs s.good.sized s.some

  -- The stack without a fold leads, and what is smaller.
  pub flat_leads : (f : Flat) → Unfolded cs f → Lead kind cs (outline f.widest.0 f.height.0)
  flat_leads f u =
      let same : widest cs ≤ widest cs = omega arith in
      rw u.widest_is (record {
        wide = widest_wide;
        slim = omega (arith, widest_most cs s.good.sized);
        low = u.low;
        reached = rw u.height_is (flat_enough kind cs s);
        small = mul-le-mul same u.low;
      })

  -- The limit behind what leads, where nothing is narrower.
  pub own_asks : (o : Outline) → Lead kind cs o → (0 < o.width.0) × (area_of o ≤ o.width.0 * 2000000)
  own_asks o l = let same : o.width.0 ≤ o.width.0 = omega arith in (l.wide, mul-le-mul same l.low)

  pub own_limit : (o : Outline) → Lead kind cs o → (cells : ℕ) → next_limit o o.width.0 cells ≤ 2000000
  own_limit o l cells = limit_most o o.width.0 2000000 cells (own_asks o l).1

  module _ (o : Outline) (lead : Lead kind cs o) (limit : ℕ) (low : limit ≤ 2000000) (p : Outline) (m : (p ≡ best_at kind limit cs) × ((layout_of kind limit 0 cs).width < none)) where
    here_wide : 0 < (layout_of kind limit 0 cs).width
    here_wide = omega (arith, widest_wide, layout_widest (may_stand kind) limit 0 cs m.1)

    here_low : (layout_of kind limit 0 cs).height ≤ 2000000
    here_low = omega (arith, (search kind cs s).keeps limit m.1)

    here_leads : area_of (smaller_of (best_at kind limit cs) o) ≤ widest cs * 2000000 → Lead kind cs (smaller_of (best_at kind limit cs) o)
    here_leads n = record {
      wide = smaller_either (λ x. 0 < x.width.0) (best_at kind limit cs) o here_wide lead.wide;
      slim = smaller_either (λ x. x.width.0 < none) (best_at kind limit cs) o m.1 lead.slim;
      low = smaller_either (λ x. x.height.0 ≤ 2000000) (best_at kind limit cs) o here_low lead.low;
      reached = smaller_either (λ x. (layout_of kind x.height.0 0 cs).width ≤ x.width.0) (best_at kind limit cs) o (own_height (search kind cs s) limit m.1) lead.reached;
      small = n;
    }

    pub smaller_leads : Lead kind cs (smaller_of p o)
    smaller_leads = rw m.0 (here_leads (omega (arith, no_larger (smaller_of (best_at kind limit cs) o) o (smaller_second (best_at kind limit cs) o), lead.small)))

  module _ (f : Flat) (u : Unfolded cs f) where
    cells_kept : (ps : List Placement) → Legal kind cs ps → f.cells ≤ area_of (outline_of cs ps)
    cells_kept ps l = rw u.cells_is (cells_most cs ps l.whole)

    pub first_asks : (o : Outline) → Lead kind cs o → (0 < f.widest.0) × (area_of o ≤ f.widest.0 * 2000000)
    first_asks o l = rw u.widest_is (widest_wide, l.small)

    pub starts : (o : Outline) → Lead kind cs o → Passing kind cs o (next_limit o f.widest.0 f.cells)
    starts o l =
        let q = first_asks o l in
        record {
          lead = l;
          leads = leads_first (search kind cs s) f.cells cells_kept o f.widest.0 l.wide q.0 (λ ps k. rw u.widest_is (none_narrower kind cs s ps k)) l.reached;
          most = limit_most o f.widest.0 2000000 f.cells q.1;
        }

    -- No folding is lower than the tallest component.
    pub ends_low : (o : Outline) (limit : ℕ) → Passing kind cs o limit → limit < f.tallest.0 → SmallestFor kind cs o.height.0
    ends_low o limit i h = ended o limit i (λ ps l k. absurd (omega (arith, u.tallest_is, tallest_most cs ps l.whole)))

    module _ (o : Outline) (limit : ℕ) (i : Passing kind cs o limit) where
      pub ends_unmet : none ≤ (layout_of kind limit 0 cs).width → SmallestFor kind cs o.height.0
      ends_unmet h = ended o limit i (unmeetable_height (search kind cs s) limit h)

      module _ (p : Outline) (m : (p ≡ best_at kind limit cs) × ((layout_of kind limit 0 cs).width < none)) where
        pub fits : area_of (smaller_of p o) ≤ (p.width.0 + 1) * 2000000
        fits =
            rw m.0 (let w : (layout_of kind limit 0 cs).width ≤ (layout_of kind limit 0 cs).width + 1 = omega arith in
            omega (arith, next_small (search kind cs s) f.cells cells_kept o limit i.leads m.1, mul-le-mul w (here_low o i.lead limit i.most p m)))

        pub limit_less : next_limit (smaller_of p o) (p.width.0 + 1) f.cells < limit
        limit_less = rw m.0 (falls (search kind cs s) f.cells cells_kept o limit i.leads m.1)

        pub goes_on : Passing kind cs (smaller_of p o) (next_limit (smaller_of p o) (p.width.0 + 1) f.cells)
        goes_on =
            let l = smaller_leads o i.lead limit i.most p m in
            rw m.0 (record {
              lead = rw m.0 at l;
              leads = leads_on (search kind cs s) f.cells cells_kept o limit i.leads m.1 (here_wide o i.lead limit i.most p m);
              most = omega (arith, falls (search kind cs s) f.cells cells_kept o limit i.leads m.1, i.most);
            })

  -- The best folding within that height has the smallest area.
  pub to_area : (height : ℕ) (out out' : List ℕ) (answer : Answer Outline) → SmallestFor kind cs height → Written kind cs height out out' answer → Searched (by_area kind) cs out out' answer
  to_area height out out' (refusal k) a w = absurd (omega (arith, a.met, w.1))
  to_area height out out' (result o) a w =
      let b = best_height kind cs s height _ w.1 w.2 in
      (rw w.0 (record { is_legal = b.is_legal; has = b.has; smallest = a.smallest }), w.3, w.4)
