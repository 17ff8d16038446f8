-- The recurrence over any model of groups is a search over all layouts: none within the limit is narrower than the best, nor
-- as wide and lower, and one has its width and height.
use Prim.Native.Nat.{ℕ, ◌+◌, ◌*◌, ◌≤◌, ◌<◌, max}
use mathlib.Core.Path.{◌≡◌, refl}
use mathlib.Core.Logic.{◌⊎◌, inl, inr}
use mathlib.Core.List.{List, [], ◌∷◌, ◌++◌}
use mathlib.Core.Bool.{Bool}
use native.Mathlib.Omega.{arith}
use lib.ListN.{length, take, drop, length-append, take-append-drop}
use lib.Seq.{length-take-le}
use Rattle.terms.specs.Numbers.{most_size, most_limit}
use Rattle.model.specs.Groups.{none, is_end, gap_behind, Model, Rule, Group, members_of, width_of, height_of, Stands, LayoutOf}
use Rattle.model.specs.Layout.{Layout, NoWorse, layouts_by, joined_for, candidate_for, layout_for}
use Rattle.model.specs.Laws.{Laws}
use Rattle.model.specs.Outlines.{outline}
use Rattle.model.specs.Search.{Search}
use Rattle.model.proofs.Choice.{no_wider, no_worse_trans}
use Rattle.model.proofs.Recurrence.{rest_of, front_no_worse, Extends, every_layout}
use Rattle.model.proofs.Candidates.{candidate_is, candidate_met}

-- A first group in front of a rest of which it holds already.
pub joined_no_worse : {C : Type 0} (model : Model C) (limit g0 : ℕ) (last : Bool) (group : List C) (rest : Layout) (k w h w' h' : ℕ)
    → (model.width limit g0 last group < w) ⊎ ((model.width limit g0 last group ≡ w) × (model.height limit g0 last group ≤ h)) → NoWorse rest w' h'
    → NoWorse (joined_for model limit g0 last group rest k) (w + w') (max h h')
joined_no_worse model limit g0 last group rest k w h w' h' (inl p) (inl r) = inl (omega arith)
joined_no_worse model limit g0 last group rest k w h w' h' (inl p) (inr r) = inl (omega (arith, r.0))
joined_no_worse model limit g0 last group rest k w h w' h' (inr p) (inl r) = inl (omega (arith, p.0))
joined_no_worse model limit g0 last group rest k w h w' h' (inr p) (inr r) = inr (omega (arith, p.0, r.0), omega (arith, p.1, r.1))

module _ {C : Type 0} {model : Model C} {Good : List C → Type 0} {Allowed : Rule C} (laws : Laws model Good Allowed) where
  abbrev Standing : ℕ → ℕ → List (Group C) → Type 0
  Standing m g0 gs = Stands model.gap Allowed m g0 gs

  -- How wide and how high a layout can be.
  pub slim : (m g0 : ℕ) (gs : List (Group C)) → Good (members_of gs) → Standing m g0 gs → width_of gs ≤ most_size * length (members_of gs)
  slim m g0 [] s l = omega arith
  slim m g0 (g ∷ gs) s l =
      let d = laws.parts g.members (members_of gs) s in
      omega (
        arith,
        length-append g.members (members_of gs),
        laws.slim m g0 _ g.members g.width g.height d.0 l.0,
        slim (m + 1) (gap_behind model.gap g.members) gs d.1 l.1,
      )

  pub low : (m g0 : ℕ) (gs : List (Group C)) → g0 ≤ most_size → Good (members_of gs) → Standing m g0 gs → height_of gs ≤ most_limit
  low m g0 [] n s l = omega arith
  low m g0 (g ∷ gs) n s l =
      let d = laws.parts g.members (members_of gs) s in
      omega (
        arith,
        laws.low m g0 _ g.members g.width g.height d.0 n l.0,
        low (m + 1) (gap_behind model.gap g.members) gs (laws.near g.members d.0) d.1 l.1,
      )

  pub high : (m g0 : ℕ) (gs : List (Group C)) → 0 < length (members_of gs) → Good (members_of gs) → Standing m g0 gs → 0 < height_of gs
  high m g0 [] n s l = absurd (omega arith)
  high m g0 (g ∷ gs) n s l = omega (arith, laws.high m g0 _ g.members g.width g.height (laws.parts g.members (members_of gs) s).0 l.0)

  module _ (limit : ℕ) where
    -- Nothing better.
    better_step : (m g0 : ℕ) (gs cs : List C) (w h w' h' : ℕ) → Good (gs ++ cs) → Allowed m g0 (is_end cs) gs w h → h ≤ limit
        → NoWorse (layout_for model limit (gap_behind model.gap gs) cs) w' h' → w' ≤ most_size * length cs
        → NoWorse (layout_for model limit g0 (gs ++ cs)) (w + w') (max h h')
    better_step m g0 gs cs w h w' h' s a k i u =
        let last = is_end cs in
        let rest = layout_for model limit (gap_behind model.gap gs) cs in
        let d = laws.parts gs cs s in
        let few = laws.few (gs ++ cs) s in
        let n = length-append gs cs in
        let b = laws.no_better m g0 last gs w h d.0 a limit k in
        let met : model.width limit g0 last gs < none = omega (arith, no_wider b, laws.slim m g0 last gs w h d.0 a) in
        let rest_met : rest.width < none = omega (arith, no_wider i) in
        no_worse_trans (layout_for model limit g0 (gs ++ cs)) (joined_for model limit g0 last gs rest (length gs)) (w + w') (max h h')
        (rw (candidate_is model limit g0 last gs rest (length gs) met rest_met) at (front_no_worse model.gap (candidate_for model limit) g0 gs cs (laws.some m g0 last gs w h a)))
        (joined_no_worse model limit g0 last gs rest (length gs) w h w' h' b i)

    pub nothing_better : (m g0 : ℕ) (gs : List (Group C)) → Good (members_of gs) → Standing m g0 gs → height_of gs ≤ limit
        → NoWorse (layout_for model limit g0 (members_of gs)) (width_of gs) (height_of gs)
    unfolding layouts_by
    nothing_better m g0 [] s l h = inr (refl, omega arith)
    nothing_better m g0 (g ∷ gs) s l h =
        let d = laws.parts g.members (members_of gs) s in
        let behind = gap_behind model.gap g.members in
        better_step m g0 g.members (members_of gs) g.width g.height (width_of gs) (height_of gs) s l.0 (omega arith)
        (nothing_better (m + 1) behind gs d.1 l.1 (omega arith))
        (slim (m + 1) behind gs d.1 l.1)

    -- Some layout of the components has the width and height.
    pub record Reached (m g0 : ℕ) (cs : List C) (b : Layout) : Type 0 where
      pub groups : List (Group C)
      pub stands : Standing m g0 groups
      pub holds : members_of groups ≡ cs
      pub width : width_of groups ≡ b.width
      pub height : height_of groups ≡ b.height
      pub keeps : height_of groups ≤ limit

    reach_step : Extends model.gap (candidate_for model limit) (λ m g0 cs b. Good cs → Reached m g0 cs b)
    reach_step m g0 cs k p n h i s =
        let gs = take k cs in
        let last = is_end (drop k cs) in
        let rest = rest_of model.gap (candidate_for model limit) cs k in
        let z = candidate_met model limit g0 last gs rest k h in
        let d = laws.parts gs (drop k cs) (rw (take-append-drop k cs) s) in
        let r = i z.1 d.1 in
        let g = laws.reached m g0 last gs (omega (arith, length-take-le k cs n)) d.0 limit z.0 in
        rw (candidate_is model limit g0 last gs rest k z.0 z.1) (record {
          groups = record { members = gs; width = model.width limit g0 last gs; height = model.height limit g0 last gs } ∷ r.groups;
          stands = (rw r.holds g, r.stands);
          holds = rw r.holds (take-append-drop k cs);
          width = rw r.width;
          height = rw r.height;
          keeps = omega (arith, r.keeps, laws.keeps g0 last gs limit z.0);
        })

    pub reach : (m g0 : ℕ) (cs : List C) → Good cs → (layout_for model limit g0 cs).width < none → Reached m g0 cs (layout_for model limit g0 cs)
    reach m g0 cs s h =
        every_layout model.gap (candidate_for model limit) (λ m g0 cs b. Good cs → Reached m g0 cs b)
        (λ m g0 f. record { groups = []; stands = tt; holds = refl; width = refl; height = refl; keeps = omega arith }) reach_step m g0 cs h s

  pub layouts_search : (cs : List C) → 0 < length cs → Good cs
      → Search (LayoutOf model.gap Allowed cs) (λ gs. outline (width_of gs) (height_of gs)) (λ limit. layout_for model limit 0 cs)
  layouts_search cs some s = record {
    every = λ limit gs l h.
        let good : Good (members_of gs) = rw l.holds s in
        let b = rw l.holds at (nothing_better limit 0 0 gs good l.stands h) in
        (b, omega (arith, no_wider b, slim 0 0 gs good l.stands, laws.few (members_of gs) good));
    some = λ limit m. let r = reach limit 0 0 cs s m in (r.groups, record { stands = r.stands; holds = r.holds }, rw (r.width, r.height));
    keeps = λ limit m. let r = reach limit 0 0 cs s m in omega (arith, r.height, r.keeps);
    high = λ gs l. high 0 0 gs (rw l.holds some) (rw l.holds s) l.stands;
    low = λ gs l. low 0 0 gs (omega arith) (rw l.holds s) l.stands;
  }
