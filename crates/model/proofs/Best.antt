-- What "best" and "unmeetable" ask for, from a search alone.
use Prim.Native.Nat.{ℕ, ◌+◌, ◌-◌, ◌≤◌, ◌<◌}
use mathlib.Core.Path.{◌≡◌}
use mathlib.Core.Logic.{◌⊎◌, inl, inr}
use native.Mathlib.Omega.{arith}
use Rattle.terms.specs.Numbers.{most_limit}
use Rattle.terms.proofs.Order.{order}
use Rattle.folding.specs.declared.Outline.{Outline}
use Rattle.folding.specs.Best.{Wider, Higher}
use Rattle.model.specs.Groups.{none}
use Rattle.model.specs.Layout.{Layout}
use Rattle.model.specs.Outlines.{outline_by}
use Rattle.model.specs.Search.{Search}
use Rattle.model.proofs.Choice.{no_wider}

-- Nothing one below the height `lim` is within the width w. That is what a search keeps of its lower bound.
abbrev pub Below : (ℕ → Layout) → ℕ → ℕ → Type 0
Below best w lim = (k : ℕ) → lim ≡ k + 1 → w < (best k).width

module _ {F : Type 0} {Legal : F → Type 0} {outline_of : F → Outline} {best : ℕ → Layout} (s : Search Legal outline_of best) where
  -- For a height.
  pub others_wider : (limit : ℕ) (other : F) → Legal other → (outline_of other).height.0 ≤ limit → Wider (outline_by (best limit)) (outline_of other)
  others_wider limit other l k = (s.every limit other l k).0

  pub unmeetable_height : (limit : ℕ) → none ≤ (best limit).width → (f : F) → Legal f → (outline_of f).height.0 ≤ limit → ⊥
  unmeetable_height limit n f l k = let m = (s.every limit f l k).1 in absurd (omega arith)

  -- What is found is no higher than the limit, and higher than 0.
  pub layout_high : (limit : ℕ) → (best limit).width < none → 0 < (best limit).height
  layout_high limit m = let r = s.some limit m in rw r.2 at (s.high r.0 r.1)

  pub below_one : (w : ℕ) → w < none → Below best w 1
  below_one w n k e = go (order none (best k).width)
    where
      go : (none ≤ (best k).width) ⊎ ((best k).width < none) → w < (best k).width
      go (inl h) = omega arith
      go (inr h) = absurd (omega (arith, s.keeps k h, layout_high k h))

  -- For a width: the least height at which the layout is within it.
  module _ (w lim : ℕ) (least : Below best w lim) where
    not_below : (f : F) → Legal f → (outline_of f).width.0 ≤ w → lim ≤ (outline_of f).height.0
    not_below f l k = go (order lim (outline_of f).height.0)
      where
        go : (lim ≤ (outline_of f).height.0) ⊎ ((outline_of f).height.0 < lim) → lim ≤ (outline_of f).height.0
        go (inl h) = h
        go (inr h) =
            let o : w < (best (lim - 1)).width = least (lim - 1) (omega arith) in
            let e = s.every (lim - 1) f l (omega arith) in
            absurd (omega (arith, no_wider e.0))

    pub others_higher : (best lim).width < none → (other : F) → Legal other → (outline_of other).width.0 ≤ w → Higher (outline_by (best lim)) (outline_of other)
    others_higher m other l k = go (order (outline_of other).height.0 lim) (order (outline_of other).height.0 (best lim).height)
      where
        kept : (best lim).height ≤ lim
        kept = s.keeps lim m

        at_least : lim ≤ (outline_of other).height.0
        at_least = not_below other l k

        as_high : Wider (outline_by (best lim)) (outline_of other) → (outline_of other).height.0 ≤ (best lim).height → Higher (outline_by (best lim)) (outline_of other)
        as_high (inl o) u = inr (omega (arith, kept, at_least), omega arith)
        as_high (inr o) u = inr (omega (arith, kept, at_least), omega (arith, o.0))

        go : ((outline_of other).height.0 ≤ lim) ⊎ (lim < (outline_of other).height.0) → ((outline_of other).height.0 ≤ (best lim).height) ⊎ ((best lim).height < (outline_of other).height.0)
            → Higher (outline_by (best lim)) (outline_of other)
        go h (inr u) = inl u
        go (inr h) (inl u) = absurd (omega (arith, kept))
        go (inl h) (inl u) = as_high (others_wider lim other l h) u

    -- The height of a layout within the width is no lower, so that a search may go down to it.
    pub no_lower : (mid : ℕ) → (best mid).width < none → (best mid).width ≤ w → lim ≤ (best mid).height
    no_lower mid m h = let r = s.some mid m in rw r.2 at (not_below r.0 r.1 (rw r.2 h))

  -- Below the height of a best layout all are wider.
  pub below_own : (mid : ℕ) → (best mid).width < none → Below best (best mid).width (best mid).height
  below_own mid m k e = go (order (best k).width (best mid).width)
    where
      no : Wider (outline_by (best mid)) (outline_by (best k)) → (best k).width ≤ (best mid).width → ⊥
      no (inl o) h = absurd (omega arith)
      no (inr o) h = absurd (omega (arith, o.1, s.keeps k (omega arith)))

      go : ((best k).width ≤ (best mid).width) ⊎ ((best mid).width < (best k).width) → (best mid).width < (best k).width
      go (inr h) = h
      go (inl h) =
          let n : (best k).width < none = omega arith in
          let r = s.some k n in
          let within : (outline_of r.0).height.0 ≤ mid = rw r.2 (omega (arith, s.keeps k n, s.keeps mid m)) in
          absurd (no (rw r.2 at (s.every mid r.0 r.1 within).0) h)

  pub unmeetable_width : (w : ℕ) → w < (best most_limit).width → (f : F) → Legal f → (outline_of f).width.0 ≤ w → ⊥
  unmeetable_width w n f l k =
      let e = s.every most_limit f l (s.low f l) in
      absurd (omega (arith, no_wider e.0))

  -- A layout's own height is limit enough for its width.
  pub own_height : (lim : ℕ) → (best lim).width < none → (best (best lim).height).width ≤ (best lim).width
  own_height lim m =
      let r = s.some lim m in
      let h = (best lim).height in
      let k : (outline_of r.0).height.0 ≤ h = rw r.2 (omega arith) in
      rw r.2 at (no_wider (s.every h r.0 r.1 k).0)
