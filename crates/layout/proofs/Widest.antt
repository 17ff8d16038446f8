-- The widest component of a stack: no folding is narrower, and one without a fold is no wider.
use Prim.Native.Nat.{ℕ, ◌+◌, ◌≤◌, ◌<◌}
use mathlib.Core.Path.{◌≡◌, refl}
use mathlib.Core.List.{List, [], ◌∷◌, ◌++◌}
use mathlib.Core.Logic.{inl, inr}
use mathlib.Core.Bool.{Bool, true}
use native.Mathlib.Omega.{arith}
use lib.ListN.{length}
use Rattle.terms.specs.Numbers.{most_size}
use Rattle.terms.specs.declared.Component.{Component}
use Rattle.terms.specs.declared.Kind.{Kind}
use Rattle.terms.proofs.Lists.{AllSized}
use Rattle.folding.specs.declared.Placement.{Placement}
use Rattle.folding.specs.Legal.{Legal}
use Rattle.folding.specs.Outline.{outline_of}
use Rattle.model.specs.Layout.{layout_for}
use Rattle.model.proofs.Choice.{no_wider}
use Rattle.model.proofs.Widths.{one_group, no_narrower}
use Rattle.group.specs.Group.{none, widest, flat_height, May, may_stand, least_width_by}
use Rattle.group.proofs.Ways.{last_flat, flat_allowed}
use Rattle.layout.specs.Layout.{groups_by, layout_of}
use Rattle.layout.proofs.Groups.{Stacked}
use Rattle.layout.proofs.Widths.{Ranged, least_range, flat_met}
use Rattle.layout.proofs.Foldings.{search}

widest_none : widest [] ≡ 0
unfolding widest
widest_none = refl

widest_parts : (a b : List Component) → widest (a ++ b) ≤ widest a + widest b
unfolding widest
widest_parts [] b = omega arith
widest_parts (x ∷ a) b = omega (arith, widest_parts a b)

-- It is 1 to 4,000 wide.
pub widest_some : (cs : List Component) → AllSized cs → 0 < length cs → 0 < widest cs
unfolding widest
widest_some [] s n = absurd (omega arith)
widest_some (x ∷ cs) s n = omega (arith, s.0.width_some)

pub widest_most : (cs : List Component) → AllSized cs → widest cs ≤ most_size
unfolding widest
widest_most [] s = omega arith
widest_most (x ∷ cs) s = omega (arith, s.0.width_most, widest_most cs s.1)

-- For every rule of standing.
module _ (may : Bool → May) (limit g0 : ℕ) (cs : List Component) where
  group_widest : (g : ℕ) (last : Bool) (group : List Component) → least_width_by (may last) g group limit < none → widest group ≤ least_width_by (may last) g group limit
  group_widest g last group met = go (least_range (may last) g group limit)
    where
      go : Ranged (may last) g group limit (least_width_by (may last) g group limit) → widest group ≤ least_width_by (may last) g group limit
      go (inl e) = absurd (omega arith)
      go (inr e) = e.0

  pub layout_widest : (layout_for (groups_by may) limit g0 cs).width < none → widest cs ≤ (layout_for (groups_by may) limit g0 cs).width
  layout_widest = no_narrower (groups_by may) limit widest widest_none widest_parts group_widest g0 cs

  pub layout_flat : 0 < length cs → widest cs < none → may true cs (length cs) ≡ true → flat_height g0 cs ≤ limit → (layout_for (groups_by may) limit g0 cs).width ≤ widest cs
  layout_flat some n flat h =
      let e = flat_met (may true) g0 cs limit some flat h in
      omega (arith, one_group (groups_by may) limit g0 cs some (omega arith))

-- For legal foldings.
module _ (kind : Kind) (cs : List Component) (s : Stacked cs) where
  pub none_narrower : (ps : List Placement) → Legal kind cs ps → widest cs ≤ (outline_of cs ps).width.0
  none_narrower ps l =
      let h = (outline_of cs ps).height.0 in
      let e = (search kind cs s).every h ps l (omega arith) in
      omega (arith, no_wider e.0, layout_widest (may_stand kind) h 0 cs e.1)

  pub flat_enough : (layout_of kind (flat_height 0 cs) 0 cs).width ≤ widest cs
  flat_enough =
      layout_flat (may_stand kind) (flat_height 0 cs) 0 cs s.some (omega (arith, widest_most cs s.good.sized)) (flat_allowed kind true cs (last_flat kind) s.some s.free) (omega arith)
