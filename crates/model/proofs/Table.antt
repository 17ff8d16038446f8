-- The outlines that lower and lower limits lead to are the unbeaten ones: from a search alone.
use Prim.Native.Nat.{ℕ, zero, suc, ◌-◌, ◌≤◌, ◌<◌}
use mathlib.Core.Path.{◌≡◌, refl, sym, ap}
use mathlib.Core.Logic.{◌⊎◌, inl, inr}
use mathlib.Core.List.{List, [], ◌∷◌}
use native.Mathlib.Omega.{arith}
use borrow.Author.Tests.{lt-ltb, le-ltb}
use Rattle.terms.specs.Numbers.{most_limit}
use Rattle.terms.proofs.Order.{order}
use Rattle.folding.specs.declared.Outline.{Outline}
use Rattle.folding.specs.Best.{Among, Rising, Other}
use Rattle.model.specs.Groups.{none}
use Rattle.model.specs.Layout.{Layout, NoWorse}
use Rattle.model.specs.Outlines.{outline_by, outlines_by}
use Rattle.model.specs.Search.{Search}
use Rattle.model.proofs.Best.{layout_high}

-- The clauses of `outlines_by`.
module _ (best : ℕ → Layout) (fuel limit : ℕ) where
  pub outlines_on : (best limit).width < none → outlines_by best (suc fuel) limit ≡ outline_by (best limit) ∷ outlines_by best fuel ((best limit).height - 1)
  unfolding outlines_by
  outlines_on h = rw (lt-ltb (best limit).width none h, outlines_by) refl

  pub outlines_end : none ≤ (best limit).width → outlines_by best (suc fuel) limit ≡ []
  unfolding outlines_by
  outlines_end h = rw (le-ltb (best limit).width none h, outlines_by) refl

-- A legal folding has the outline, and every other is wider, or higher, or equal in both.
abbrev pub Unbeaten : {F : Type 0} → (F → Type 0) → (F → Outline) → Outline → Type 0
Unbeaten {F} Legal outline_of o = (f : F) × Legal f × (outline_of f ≡ o) × ((other : F) → Legal other → Other o (outline_of other))

-- What is listed for a limit: the unbeaten outlines that keep it.
pub record ListedTo {F : Type 0} (Legal : F → Type 0) (outline_of : F → Outline) (limit : ℕ) (os : List Outline) : Type 0 where
  pub ordered : Rising os
  pub sound : (o : Outline) → Among o os → Unbeaten Legal outline_of o × (o.height.0 ≤ limit)
  pub complete : (o : Outline) → Unbeaten Legal outline_of o → o.height.0 ≤ limit → Among o os

module _ {F : Type 0} {Legal : F → Type 0} {outline_of : F → Outline} {best : ℕ → Layout} (s : Search Legal outline_of best) where
  same_width : (o : Outline) (u : Unbeaten Legal outline_of o) → (outline_of u.0).width.0 ≡ o.width.0
  same_width o u = ap (λ (x : Outline). x.width.0) u.2

  same_height : (o : Outline) (u : Unbeaten Legal outline_of o) → (outline_of u.0).height.0 ≡ o.height.0
  same_height o u = ap (λ (x : Outline). x.height.0) u.2

  unbeaten_no_worse : (limit : ℕ) (o : Outline) → Unbeaten Legal outline_of o → o.height.0 ≤ limit → NoWorse (best limit) o.width.0 o.height.0 × ((best limit).width < none)
  unbeaten_no_worse limit o u h = rw (same_width o u, same_height o u) at (s.every limit u.0 u.1 (omega (arith, same_height o u)))

  unbeaten_high : (o : Outline) → Unbeaten Legal outline_of o → 0 < o.height.0
  unbeaten_high o u = omega (arith, same_height o u, s.high u.0 u.1)

  -- The layout for a limit that can be kept.
  module _ (limit : ℕ) (met : (best limit).width < none) where
    abbrev here : Layout
    here = best limit

    against : (other : F) → Legal other → Other (outline_by here) (outline_of other)
    against other l = go (order (outline_of other).height.0 limit) (order (outline_of other).height.0 here.height)
      where
        near : NoWorse here (outline_of other).width.0 (outline_of other).height.0 → (outline_of other).height.0 ≤ here.height → Other (outline_by here) (outline_of other)
        near (inl n) h = inl n
        near (inr n) h =
            let e : (outline_of other).height.0 ≡ here.height = omega (arith, n.1) in
            inr (inr (rw (sym n.0, e)))

        go : ((outline_of other).height.0 ≤ limit) ⊎ (limit < (outline_of other).height.0) → ((outline_of other).height.0 ≤ here.height) ⊎ (here.height < (outline_of other).height.0)
            → Other (outline_by here) (outline_of other)
        go k (inr u) = inr (inl u)
        go (inr k) (inl u) = absurd (omega (arith, s.keeps limit met))
        go (inl k) (inl u) = near (s.every limit other l k).0 u

    pub layout_unbeaten : Unbeaten Legal outline_of (outline_by here)
    layout_unbeaten = let r = s.some limit met in (r.0, r.1, r.2, against)

    -- It stands in front of those that are listed for one less than its height.
    step_ordered : (os : List Outline) → ListedTo Legal outline_of (here.height - 1) os → Rising (outline_by here ∷ os)
    step_ordered [] i = tt
    step_ordered (p ∷ os) i = go (unbeaten_no_worse limit p q.0 (omega (arith, q.1, s.keeps limit met))).0
      where
        q : Unbeaten Legal outline_of p × (p.height.0 ≤ here.height - 1)
        q = i.sound p (inl refl)

        go : NoWorse here p.width.0 p.height.0 → Rising (outline_by here ∷ p ∷ os)
        go (inl n) = (n, omega (arith, q.1, layout_high s limit met), i.ordered)
        go (inr n) = absurd (omega (arith, n.1, q.1, layout_high s limit met))

    listed_step : (os : List Outline) → ListedTo Legal outline_of (here.height - 1) os → ListedTo Legal outline_of limit (outline_by here ∷ os)
    listed_step os i = record { ordered = step_ordered os i; sound = sound_step; complete = complete_step }
      where
        sound_step : (o : Outline) → Among o (outline_by here ∷ os) → Unbeaten Legal outline_of o × (o.height.0 ≤ limit)
        sound_step o (inl e) = rw e (layout_unbeaten, s.keeps limit met)
        sound_step o (inr a) = let r = i.sound o a in (r.0, omega (arith, r.1, s.keeps limit met))

        found : (o : Outline) → Unbeaten Legal outline_of o → NoWorse here o.width.0 o.height.0 → Other o (outline_by here) → Among o (outline_by here ∷ os)
        found o u (inl n) (inl a) = absurd (omega arith)
        found o u (inr n) (inl a) = absurd (omega (arith, n.0))
        found o u n (inr (inl a)) = inr (i.complete o u (omega arith))
        found o u n (inr (inr a)) = inl (sym a)

        complete_step : (o : Outline) → Unbeaten Legal outline_of o → o.height.0 ≤ limit → Among o (outline_by here ∷ os)
        complete_step o u h =
            let r = layout_unbeaten in
            found o u (unbeaten_no_worse limit o u h).0 (rw r.2 at (u.3 r.0 r.1))

  listed_none : (limit : ℕ) → ((o : Outline) → Unbeaten Legal outline_of o → o.height.0 ≤ limit → ⊥) → ListedTo Legal outline_of limit []
  listed_none limit h = record { ordered = tt; sound = λ o a. absurd a; complete = h }

  listed : (fuel limit : ℕ) → limit ≤ fuel → ListedTo Legal outline_of limit (outlines_by best fuel limit)
  unfolding outlines_by
  listed zero limit h = listed_none limit (λ o u k. absurd (omega (arith, unbeaten_high o u)))
  listed (suc fuel) limit h = go (order none (best limit).width) (λ k l. listed fuel k l)
    where
      go : (none ≤ (best limit).width) ⊎ ((best limit).width < none) → ((k : ℕ) → k ≤ fuel → ListedTo Legal outline_of k (outlines_by best fuel k))
          → ListedTo Legal outline_of limit (outlines_by best (suc fuel) limit)
      go (inl n) i = rw (outlines_end best fuel limit n) (listed_none limit (λ o u k. absurd (omega (arith, (unbeaten_no_worse limit o u k).1))))
      go (inr n) i =
          rw (outlines_on best fuel limit n)
          (listed_step limit n (outlines_by best fuel ((best limit).height - 1)) (i ((best limit).height - 1) (omega (arith, layout_high s limit n, s.keeps limit n))))

  -- All unbeaten outlines are listed for the greatest limit.
  pub all_listed : ListedTo Legal outline_of most_limit (outlines_by best most_limit most_limit)
  all_listed = listed most_limit most_limit (omega arith)

  pub unbeaten_low : (o : Outline) → Unbeaten Legal outline_of o → o.height.0 ≤ most_limit
  unbeaten_low o u = omega (arith, same_height o u, s.low u.0 u.1)
