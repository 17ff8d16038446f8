-- What a layout that keeps the limit says of its first group and the rest: `Chosen`, for a model and a limit.
use Prim.Native.Nat.{ℕ, ◌+◌, ◌≤◌, ◌<◌, max}
use mathlib.Core.Path.{◌≡◌, refl, ◌∙◌}
use mathlib.Core.List.{List}
use lib.ListN.{length, take, drop}
use Rattle.model.specs.Groups.{none, is_end, Model}
use Rattle.model.specs.Layout.{Layout, joined_for, candidate_for, layout_for}
use Rattle.model.proofs.Recurrence.{rest_of, front_at, chosen}
use Rattle.model.proofs.Candidates.{candidate_is, candidate_met}

-- The rest behind the first k components.
abbrev pub rest_for : {C : Type 0} → Model C → ℕ → List C → ℕ → Layout
rest_for model limit cs k = rest_of model.gap (candidate_for model limit) cs k

module _ {C : Type 0} (model : Model C) (limit g0 : ℕ) (cs : List C) where
  -- The width and height of the first k components as a group.
  abbrev pub first_width : ℕ → ℕ
  first_width k = model.width limit g0 (is_end (drop k cs)) (take k cs)

  abbrev pub first_height : ℕ → ℕ
  first_height k = model.height limit g0 (is_end (drop k cs)) (take k cs)

  pub record FirstGroup (b : Layout) : Type 0 where
    pub some : 0 < b.end
    pub within : b.end ≤ length cs
    pub group_met : first_width b.end < none
    pub rest_met : (rest_for model limit cs b.end).width < none
    pub width : b.width ≡ first_width b.end + (rest_for model limit cs b.end).width
    pub height : b.height ≡ max (first_height b.end) (rest_for model limit cs b.end).height

  first_at : (b : Layout) (k : ℕ) → 0 < k → k ≤ length cs → b ≡ front_at model.gap (candidate_for model limit) g0 cs k → b.width < none → FirstGroup b
  first_at b k p h e n =
      let m = candidate_met model limit g0 (is_end (drop k cs)) (take k cs) (rest_for model limit cs k) k (rw e at n) in
      let q : b ≡ joined_for model limit g0 (is_end (drop k cs)) (take k cs) (rest_for model limit cs k) k =
      e ∙ candidate_is model limit g0 (is_end (drop k cs)) (take k cs) (rest_for model limit cs k) k m.0 m.1 in
      rw q (record { some = p; within = h; group_met = m.0; rest_met = m.1; width = refl; height = refl })

  pub first_group : 0 < length cs → (layout_for model limit g0 cs).width < none → FirstGroup (layout_for model limit g0 cs)
  first_group p h =
      let c = chosen model.gap (candidate_for model limit) g0 cs p h in
      first_at (layout_for model limit g0 cs) c.end c.some c.within c.is h
