-- The least width of a group: where it lies, and what decides it.
use Prim.Native.Nat.{ℕ, zero, suc, ◌*◌, ◌≤◌, ◌<◌}
use mathlib.Core.Path.{◌≡◌, refl, ◌∙◌}
use mathlib.Core.Logic.{◌⊎◌, inl, inr}
use mathlib.Core.List.{List, [], ◌∷◌}
use mathlib.Core.Bool.{Bool, true, false, cond}
use native.Mathlib.Omega.{arith}
use lib.ListN.{length, take}
use Rattle.terms.specs.declared.Component.{Component}
use Rattle.terms.specs.declared.Kind.{Kind}
use Rattle.terms.specs.declared.Kind.TheVariants.{Apart, Nested}
use Rattle.group.specs.Rows.{tall}
use Rattle.model.specs.Groups.{is_end}
use Rattle.group.specs.Group.{none, widest, flat_height, May, ways_of, least_height_by, least_cap, least_width_by, SomeWay}
use Rattle.group.proofs.Ways.{Allowed, Suits, way_flat, allowed_some, width_is, least_at}
use Rattle.group.proofs.Falls.{two_sides, one_side, apart_point, apart_height}
use Rattle.group.proofs.First.{Found, first_here, first_found, first_none}

-- The least width of a group: there is none, or it lies between the widest and twice the widest and keeps the limit.
abbrev pub Ranged : May → ℕ → List Component → ℕ → ℕ → Type 0
Ranged may g0 cs limit w = (w ≡ none) ⊎ ((widest cs ≤ w) × (w ≤ 2 * widest cs) × (least_height_by may g0 cs w ≤ limit))

module _ (may : May) (g0 : ℕ) (cs : List Component) (limit : ℕ) where
  found_range : (w : ℕ) → Found (least_height_by may g0 cs) limit (widest cs) (suc (widest cs)) w → Ranged may g0 cs limit w
  found_range w (inl e) = inl e
  found_range w (inr e) = inr (e.0, omega (arith, e.1), e.2)

  pub least_range : Ranged may g0 cs limit (least_width_by may g0 cs limit)
  unfolding least_width_by
  least_range = go (is_end (ways_of may cs))
    where
      go : (b : Bool) → Ranged may g0 cs limit (cond b none (least_cap may g0 cs limit))
      go true = inl refl
      go false = found_range (least_cap may g0 cs limit) (first_found (least_height_by may g0 cs) limit (widest cs) (suc (widest cs)))

-- Too many rows for the limit, on two sides or on one.
abbrev pub TooTall : Kind → ℕ → List Component → Type 0
TooTall Apart limit cs = limit < tall cs
TooTall Nested limit cs = 2 * limit < tall cs

module _ (may : May) (kind : Kind) (suits : Suits kind may) (limit g0 : ℕ) (cs : List Component) (h : TooTall kind limit cs) where
  too_tall : SomeWay may cs → (cap : ℕ) → limit < least_height_by may g0 cs cap
  too_tall some cap = go kind suits h
    where
      go : (kind : Kind) → Suits kind may → TooTall kind limit cs → limit < least_height_by may g0 cs cap
      go Apart s t = omega (arith, one_side may g0 cs cap some s)
      go Nested s t = omega (arith, two_sides may g0 cs cap some)

  pub too_tall_none : least_width_by may g0 cs limit ≡ none
  unfolding least_width_by
  too_tall_none = go (is_end (ways_of may cs)) refl
    where
      go : (b : Bool) → is_end (ways_of may cs) ≡ b → cond b none (least_cap may g0 cs limit) ≡ none
      go true e = refl
      go false e = first_none (least_height_by may g0 cs) limit (widest cs) (suc (widest cs)) (λ k l u. too_tall e k)

tall-take : (cs : List Component) (k j : ℕ) → k ≤ j → tall (take k cs) ≤ tall (take j cs)
unfolding tall
tall-take cs zero j h = omega arith
tall-take cs (suc k) zero h = absurd (omega arith)
tall-take [] (suc k) (suc j) h = omega arith
tall-take (x ∷ cs) (suc k) (suc j) h = omega (arith, tall-take cs k j (omega arith))

pub too_tall_more : (kind : Kind) (limit : ℕ) (cs : List Component) (k j : ℕ) → k ≤ j → TooTall kind limit (take k cs) → TooTall kind limit (take j cs)
too_tall_more Apart limit cs k j h t = omega (arith, tall-take cs k j h)
too_tall_more Nested limit cs k j h t = omega (arith, tall-take cs k j h)

-- A group that keeps the limit without a fold is as narrow as its widest, where that way is allowed.
module _ (may : May) (g0 : ℕ) (cs : List Component) (limit : ℕ) (some : 0 < length cs) (flat : may cs (length cs) ≡ true) where
  whole : Allowed (may cs) (length cs) (length cs)
  whole = (some, omega arith, flat)

  pub flat_met : flat_height g0 cs ≤ limit → least_width_by may g0 cs limit ≡ widest cs
  flat_met h =
      width_is may cs g0 limit (allowed_some may cs (length cs) whole)
      ∙ first_here (least_height_by may g0 cs) limit (widest cs) (widest cs)
      (omega (arith, least_at may cs g0 (widest cs) (length cs) whole, way_flat g0 cs (widest cs) (length cs) refl))

-- Without a fold the cap does not matter.
module _ (may : May) (suits : Suits Apart may) (g0 : ℕ) (cs : List Component) (limit : ℕ) (some : SomeWay may cs) where
  pub apart_met : flat_height g0 cs ≤ limit → least_width_by may g0 cs limit ≡ widest cs
  apart_met h = let p = apart_point may g0 cs (widest cs) some suits in flat_met may g0 cs limit p.some p.allowed h

  pub apart_unmet : limit < flat_height g0 cs → least_width_by may g0 cs limit ≡ none
  apart_unmet h = width_is may cs g0 limit some ∙ first_none (least_height_by may g0 cs) limit (widest cs) (suc (widest cs)) (λ k l u. omega (arith, apart_height may g0 cs k some suits))
