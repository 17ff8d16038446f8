-- The best layouts for a height and for a width, over every legal folding.
use Prim.Native.Nat.{ℕ, ◌+◌, ◌≤◌, ◌<◌}
use mathlib.Core.Path.{◌≡◌, refl}
use mathlib.Core.List.{List}
use native.Mathlib.Omega.{arith}
use Rattle.terms.specs.declared.Component.{Component}
use Rattle.terms.specs.declared.Kind.{Kind}
use Rattle.terms.specs.Answer.{Answer, refusal, result}
use Rattle.folding.specs.declared.Outline.{Outline}
use Rattle.model.proofs.Best.{unmeetable_height, layout_high, below_one, below_own, no_lower, own_height}
use Rattle.layout.specs.Layout.{layout_of}
use Rattle.layout.proofs.Foldings.{search}
use Rattle.layout.proofs.Best.{best_height, best_width}
use Rattle.layout.proofs.Widest.{widest_some, none_narrower, flat_enough}
use Rattle.group.specs.Group.{none}
use Rattle.fold.specs.Calls.{by_height, by_width, Searched}
use Rattle.plan.specs.Asks.{best_at}
use Rattle.best.specs.declared.Flat.{Flat}
use Rattle.best.specs.Task.{Task}
use Rattle.best.specs.Asks.{Written, Unfolded}
use Rattle.fold.specs.Inner.{LeastFor, Between}
use Rattle.layout.proofs.Groups.{Stacked}

-- What the search for a height has found so far: the least one lies between lo and hi, and `plans` plans were made, the last
-- `failed` of them too wide.
pub record Searching (t : Task) (most lo hi plans failed : ℕ) (now : Task) : Type 0 where
  pub between : Between t.kind t.components most lo hi
  pub same : now ≡ t
  pub counted : plans + hi ≤ lo + 2000000
  pub few : failed ≤ plans

-- A width that is not under the widest component is not 0.
pub slim_some : {cs : List Component} {f : Flat} → Stacked cs → Unfolded cs f → (most : ℕ) → f.widest.0 ≤ most → 0 < most
slim_some {cs} s u most l = omega (arith, u.widest_is, widest_some cs s.good.sized s.some)

module _ (kind : Kind) (cs : List Component) (s : Stacked cs) where
  pub to_height : (limit : ℕ) (out out' : List ℕ) (answer : Answer Outline) → Written kind cs limit out out' answer → Searched (by_height kind limit) cs out out' answer
  to_height limit out out' (refusal k) w = (w.0, unmeetable_height (search kind cs s) limit w.1, w.2)
  to_height limit out out' (result o) w = (rw w.0 (best_height kind cs s limit _ w.1 w.2), w.3, w.4)

  -- For a width. No folding is narrower than the widest component.
  module _ (most : ℕ) (h : most ≤ 2000000) where
    pub too_slim : (f : Flat) (out : List ℕ) → Unfolded cs f → most < f.widest.0 → Searched (by_width kind most) cs out out (refusal 9)
    too_slim f out u l = (refl, λ ps legal k. absurd (omega (arith, u.widest_is, none_narrower kind cs s ps legal)), refl)

    pub to_width : (limit : ℕ) (out out' : List ℕ) (answer : Answer Outline) → LeastFor kind cs most limit → Written kind cs limit out out' answer
        → Searched (by_width kind most) cs out out' answer
    to_width limit out out' (refusal k) l w = absurd (omega (arith, l.within, w.1))
    to_width limit out out' (result o) l w = (rw w.0 (best_width kind cs s limit _ w.1 w.2 most l.below l.within), w.3, w.4)

    -- The search goes down from the height of the stack without a fold.
    starts_at : (top : ℕ) → top ≤ 2000000 → (layout_of kind top 0 cs).width ≤ most → Between kind cs most 1 top
    starts_at top low w =
        let met : (layout_of kind top 0 cs).width < none = omega arith in
        record {
          order = omega (arith, layout_high (search kind cs s) top met, (search kind cs s).keeps top met);
          most = low;
          within = w;
          below = below_one (search kind cs s) most (omega arith);
        }

    pub starts : (f : Flat) → Unfolded cs f → f.widest.0 ≤ most → Between kind cs most 1 f.height.0
    starts f u w = starts_at f.height.0 u.low (rw u.height_is (omega (arith, u.widest_is, flat_enough kind cs s)))

    -- The layout for mid is narrow enough: its own height is.
    module _ (lo hi mid : ℕ) (l : lo ≤ mid) (u : mid < hi) (i : Between kind cs most lo hi) (o : Outline) (e : o ≡ best_at kind mid cs) (w : o.width.0 ≤ most) where
      narrow : (layout_of kind mid 0 cs).width ≤ most
      narrow = rw e at w

      met : (layout_of kind mid 0 cs).width < none
      met = omega (arith, narrow)

      pub falls : o.height.0 < hi
      falls = rw e (omega (arith, (search kind cs s).keeps mid met))

      pub lower : Between kind cs most lo o.height.0
      lower =
          rw e (record {
            order = no_lower (search kind cs s) most lo i.below mid met narrow;
            most = omega (arith, (search kind cs s).keeps mid met, i.most);
            within = omega (arith, own_height (search kind cs s) mid met, narrow);
            below = i.below;
          })

      -- And if it is as wide as asked, it is the least.
      pub exact : most ≤ o.width.0 → Between kind cs most o.height.0 o.height.0
      exact v =
          let wide : most ≤ (layout_of kind mid 0 cs).width = rw e at v in
          let same : (layout_of kind mid 0 cs).width ≡ most = omega (arith, narrow) in
          rw e (record {
            order = omega arith;
            most = omega (arith, (search kind cs s).keeps mid met, i.most);
            within = omega (arith, own_height (search kind cs s) mid met, narrow);
            below = rw same at (below_own (search kind cs s) mid met);
          })
