-- The first group of a layout that a plan holds, and the rest.
use Prim.Native.Nat.{ℕ, ◌+◌, ◌-◌, ◌*◌, ◌≤◌, ◌<◌}
use mathlib.Core.Path.{◌≡◌, refl, sym, ap, ◌∙◌}
use mathlib.Core.List.{List, ◌++◌}
use mathlib.Core.Bool.{Bool, true}
use native.Mathlib.Omega.{arith}
use lib.ListN.{length, get_or, take, drop, length-drop, take-append-drop}
use lib.Seq.{length-take-le, get_or-drop, get_or-append-add}
use Rattle.terms.specs.declared.Component.{Component}
use Rattle.terms.specs.declared.Kind.{Kind}
use Rattle.terms.proofs.Tabulate.{tabulate_same}
use Rattle.terms.proofs.Lists.{AllSized}
use Rattle.folding.specs.declared.Placement.{Placement}
use Rattle.folding.specs.Placement.{placed_of, placement_at, placements_of}
use Rattle.model.specs.Groups.{is_end}
use Rattle.model.specs.Layout.{candidate_for}
use Rattle.model.proofs.Scan.{layouts-drop, layouts_at}
use Rattle.model.proofs.First.{rest_for, FirstGroup, first_group}
use Rattle.group.specs.Rows.{gap}
use Rattle.group.specs.Group.{none, gap_after, may_stand, least_height, least_width, FoldPoint, group_places, SomeWay}
use Rattle.folding.specs.Placement.{flat_of}
use Rattle.folding.proofs.Flat.{flat-length}
use Rattle.group_trace.proofs.Flat.{placements_flat}
use Rattle.layout.specs.Layout.{Layout, unmet, groups, layouts, layout_of}
use Rattle.layout.specs.Plan.{PlannedAt, Planned}
use Rattle.group.proofs.Ways.{suits, width_some}
use Rattle.group.proofs.Lower.{lefts_in}
use Rattle.group.proofs.Exact.{least_reached, stands_so}
use Rattle.layout.proofs.Groups.{sized_parts}
use Rattle.layout.proofs.Folds.{Folds}
use Rattle.layout.proofs.Foldings.{ruled, folds_front}
use Rattle.trace.specs.Trace.{Met}
use Rattle.group.proofs.Indices.{take-tabulate}
use Rattle.layout.proofs.Columns.{tabulate_rest}

-- Behind the first group the plan holds the best layouts of the rest.
planned_drop : (kind : Kind) (limit g0 : ℕ) (cs : List Component) (widths heights ends : List ℕ) (k : ℕ) → 0 < k → k ≤ length cs → Planned kind limit g0 cs widths heights ends
    → Planned kind limit (gap_after (take k cs)) (drop k cs) (drop k widths) (drop k heights) (drop k ends)
planned_drop kind limit g0 cs widths heights ends k p h s = record {
  at = λ j l.
      let q : PlannedAt (get_or (layouts kind limit g0 cs) (k + j) unmet) (get_or widths (k + j) 0) (get_or heights (k + j) 0) (get_or ends (k + j) 0) = s.at (k + j) (omega (arith, length-drop k cs)) in
      rw (← layouts-drop (λ x. gap x) (candidate_for (groups kind) limit) g0 cs k p h, get_or-drop k (layouts kind limit g0 cs) j unmet, get_or-drop k widths j 0, get_or-drop k heights j 0, get_or-drop k ends j 0) q;
}

-- The first group of a layout that the plan holds.
module _ (kind : Kind) (limit g0 : ℕ) (cs : List Component) (widths heights ends : List ℕ) (some : 0 < length cs) (few : length cs ≤ 256) (s : AllSized cs)
    (m : Met kind limit g0 cs widths heights ends) where
  first : FirstGroup (groups kind) limit g0 cs (layout_of kind limit g0 cs)
  first = first_group (groups kind) limit g0 cs some m.met

  end_is : get_or ends 0 0 ≡ (layout_of kind limit g0 cs).end
  end_is = (m.planned.at 0 (omega arith)).end_is

  width_is : get_or widths 0 0 ≡ (layout_of kind limit g0 cs).width
  width_is = (m.planned.at 0 (omega arith)).width_is

  pub end_bounds : (0 < get_or ends 0 0) × (get_or ends 0 0 ≤ length cs)
  end_bounds = (omega (arith, end_is, first.some), omega (arith, end_is, first.within))

  module _ (k : ℕ) (e : k ≡ get_or ends 0 0) where
    k_is : (layout_of kind limit g0 cs).end ≡ k
    k_is = sym (e ∙ end_is)

    k_some : 0 < k
    k_some = omega (arith, end_bounds.0)

    k_within : k ≤ length cs
    k_within = omega (arith, end_bounds.1)

    group_long : length (take k cs) ≡ k
    group_long = length-take-le k cs k_within

    abbrev pub last : Bool
    last = is_end (drop k cs)

    group_met : least_width kind last g0 (take k cs) limit < none
    group_met = rw k_is at first.group_met

    pub group_way : SomeWay (may_stand kind last) (take k cs)
    group_way = width_some (may_stand kind last) (take k cs) g0 limit group_met

    rest_width : get_or widths k 0 ≡ (rest_for (groups kind) limit cs k).width
    rest_width = (m.planned.at k k_within).width_is ∙ ap (λ (l : Layout). l.width) (layouts_at (λ x. gap x) (candidate_for (groups kind) limit) g0 cs k k_some k_within)

    whole_width : get_or widths 0 0 ≡ least_width kind last g0 (take k cs) limit + get_or widths k 0
    whole_width = width_is ∙ rw k_is at first.width ∙ rw rest_width

    pub no_wider : get_or widths k 0 ≤ get_or widths 0 0
    no_wider = omega (arith, whole_width)

    cap_is : get_or widths 0 0 - get_or widths k 0 ≡ least_width kind last g0 (take k cs) limit
    cap_is = omega (arith, whole_width)

    pub rest_met : Met kind limit (gap_after (take k cs)) (drop k cs) (drop k widths) (drop k heights) (drop k ends)
    rest_met = record { planned = planned_drop kind limit g0 cs widths heights ends k k_some k_within m.planned; met = rw k_is at first.rest_met }

    pub joined : (group p : ℕ) (qs : List Placement) → FoldPoint kind last g0 (take k cs) (get_or widths 0 0 - get_or widths k 0) p
        → Folds kind (group + 1) (gap_after (take k cs)) (drop k cs) qs (rest_for (groups kind) limit cs k).width (rest_for (groups kind) limit cs k).height
        → Folds kind group g0 cs (group_places (get_or widths 0 0 - get_or widths k 0) (take k cs) group p ++ qs) (layout_of kind limit g0 cs).width (layout_of kind limit g0 cs).height
    joined group p qs f r =
        let w = least_width kind last g0 (take k cs) limit in
        let few-in : length (take k cs) ≤ 256 = omega (arith, group_long, k_within) in
        let sized-in = (sized_parts (take k cs) (drop k cs) (rw (take-append-drop k cs) s)).0 in
        let q : FoldPoint kind last g0 (take k cs) w p = rw cap_is at f in
        let g = least_reached (may_stand kind last) kind (suits kind last) g0 (take k cs) limit few-in sized-in group_met group p q in
        let may : may_stand kind last (take k cs) (lefts_in (placed_of (take k cs) (group_places w (take k cs) group p))) ≡ true = rw (stands_so (may_stand kind last) kind (suits kind last) g0 (take k cs) limit few-in sized-in group_met group p q) q.allowed in
        let j = folds_front (ruled kind) group g0 (take k cs) (group_places w (take k cs) group p) w (least_height kind last g0 (take k cs) w) (drop k cs) qs _ _ g may r in
        rw (cap_is, rw k_is at first.width, rw k_is at first.height) (rw (take-append-drop k cs) at j)

-- Placements behind those of a group.
placement_behind : (a b : List ℕ) (k i : ℕ) → length a ≡ 3 * k → placement_at (a ++ b) (k + i) ≡ placement_at b i
placement_behind a b k i e =
    let x : 3 * (k + i) ≡ length a + 3 * i = omega arith in
    let y : 3 * (k + i) + 1 ≡ length a + (3 * i + 1) = omega arith in
    let z : 3 * (k + i) + 2 ≡ length a + (3 * i + 2) = omega arith in
    rw (y, z, x, get_or-append-add a b (3 * i) 0, get_or-append-add a b (3 * i + 1) 0, get_or-append-add a b (3 * i + 2) 0) refl

pub placements_behind : (ps : List Placement) (b : List ℕ) (n : ℕ) → length ps ≤ n → placements_of (flat_of ps ++ b) n ≡ ps ++ placements_of b (n - length ps)
placements_behind ps b n h =
    let k = length ps in
    let l : List Placement = placements_of (flat_of ps ++ b) n in
    let t : take k l ≡ ps = take-tabulate (placement_at (flat_of ps ++ b)) n k h ∙ placements_flat ps b in
    let d : drop k l ≡ placements_of b (n - k) = tabulate_rest (placement_at (flat_of ps ++ b)) n k h ∙ tabulate_same _ _ (n - k) (λ i q. placement_behind (flat_of ps) b k i (flat-length ps)) in
    sym (take-append-drop k l) ∙ rw (t, d) refl
