-- How wide the best layout is, over any model of groups.
use Prim.Native.Nat.{ℕ, ◌+◌, ◌≤◌, ◌<◌}
use mathlib.Core.Path.{◌≡◌, ap}
use mathlib.Core.List.{List, [], ◌++◌, append-nil}
use mathlib.Core.Bool.{Bool, true}
use native.Mathlib.Omega.{arith}
use lib.ListN.{length, take, drop, take-append-drop}
use Rattle.model.specs.Groups.{none, is_end, gap_behind, Model}
use Rattle.model.specs.Layout.{Layout, candidate_for, layout_for}
use Rattle.model.proofs.Choice.{no_wider}
use Rattle.model.proofs.Scan.{layout_empty}
use Rattle.model.proofs.Recurrence.{rest_of, front_no_worse, Extends, every_layout}
use Rattle.model.proofs.Candidates.{candidate_is, candidate_met}

module _ {C : Type 0} (model : Model C) (limit : ℕ) where
  -- No wider than all components as one group, where that keeps the limit.
  pub one_group : (g0 : ℕ) (cs : List C) → 0 < length cs → model.width limit g0 true cs < none
      → (layout_for model limit g0 cs).width ≤ model.width limit g0 true cs
  one_group g0 cs some met =
      let rest = layout_for model limit (gap_behind model.gap cs) [] in
      let e : rest.width ≡ 0 = ap (λ (b : Layout). b.width) (layout_empty model.gap (candidate_for model limit) (gap_behind model.gap cs)) in
      let b = rw (candidate_is model limit g0 true cs rest (length cs) met (omega arith)) at (front_no_worse model.gap (candidate_for model limit) g0 cs [] some) in
      let h : (layout_for model limit g0 (cs ++ [])).width ≤ model.width limit g0 true cs = omega (arith, no_wider b) in
      rw (append-nil cs) at h

  -- What no group is narrower than, no layout is, if two parts together come to no less than the whole.
  module _ (least : List C → ℕ) (nothing : least [] ≡ 0) (parts : (a b : List C) → least (a ++ b) ≤ least a + least b)
      (group : (g0 : ℕ) (last : Bool) (cs : List C) → model.width limit g0 last cs < none → least cs ≤ model.width limit g0 last cs) where
    wide_step : Extends model.gap (candidate_for model limit) (λ m g0 cs b. least cs ≤ b.width)
    wide_step m g0 cs k p n h i =
        let gs = take k cs in
        let last = is_end (drop k cs) in
        let rest = rest_of model.gap (candidate_for model limit) cs k in
        let z = candidate_met model limit g0 last gs rest k h in
        let u : least cs ≤ least gs + least (drop k cs) = rw (take-append-drop k cs) at (parts gs (drop k cs)) in
        rw (candidate_is model limit g0 last gs rest k z.0 z.1) (omega (arith, group g0 last gs z.0, i z.1))

    pub no_narrower : (g0 : ℕ) (cs : List C) → (layout_for model limit g0 cs).width < none → least cs ≤ (layout_for model limit g0 cs).width
    no_narrower g0 cs h = every_layout model.gap (candidate_for model limit) (λ m g0 cs b. least cs ≤ b.width) (λ m g0. omega (arith, nothing)) wide_step 0 g0 cs h
