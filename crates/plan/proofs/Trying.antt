-- One group, tried as the first: each way in which trying it ends.
use Prim.Native.Nat.{ℕ, ◌+◌, ◌*◌, ◌-◌, ◌≤◌, ◌<◌, min}
use mathlib.Core.Path.{◌≡◌, sym, ap, subst, ◌∙◌}
use mathlib.Core.Logic.{◌⊎◌, inl, inr}
use mathlib.Core.List.{List, []}
use mathlib.Core.Bool.{Bool, true, false, not}
use native.Mathlib.Omega.{arith}
use lib.ListN.{length, take}
use Rattle.std.specs.Prelude.{Option, Some, None}
use Rattle.std.proofs.lemmas.Option.{none-some, same_Some}
use Rattle.folding.specs.declared.Outline.{Outline}
use Rattle.terms.specs.declared.Kind.{Kind}
use Rattle.terms.specs.declared.Kind.TheVariants.{Apart, Nested}
use Rattle.terms.specs.declared.Piece.{Piece}
use Rattle.terms.specs.Pieces.{heights_in, widths_in, seams_in, stack_in}
use Rattle.terms.proofs.Pieces.{heights_length}
use Rattle.terms.specs.Seams.{gap_at, barred_at, component_in, components_in}
use Rattle.group.specs.Group.{none, unbarred, widest, flat_height, may_stand, least_width, least_height, SomeWay}
use Rattle.terms.proofs.Order.{order}
use Rattle.group.proofs.Ways.{suits, some_way, barred_end}
use Rattle.group.proofs.Gaps.{gap_behind_all, unbarred_behind}
use Rattle.group.proofs.Falls.{apart_height}
use Rattle.group_search.specs.Widths.{Narrow}
use Rattle.model.specs.Outlines.{outline}
use Rattle.group_memory.specs.Memory.{MemoryAsks}
use Rattle.layout.specs.Layout.{Layout, groups, choice}
use Rattle.layout.specs.Plan.{layout_in, StackLists}
use Rattle.layout.specs.declared.Entry.{Entry}
use Rattle.plan.specs.declared.Sizes.{Sizes}
use Rattle.plan.specs.Asks.{in_front, GroupAsks, tried}
use Rattle.plan.specs.Memory.{WordAsks}
use Rattle.plan.proofs.Columns.{component_at_lem, widest_most, stack_take}
use Rattle.model.proofs.Choice.{choice_keeps, choice_unmet}
use Rattle.model.proofs.Candidates.{candidate_is, group_unmet, skip_group, skip_rest}
use Rattle.layout.proofs.Widths.{apart_met, apart_unmet}
use Rattle.layout.proofs.Prune.{skip_widest, skip_both}
use Rattle.layout.proofs.Columns.{components_length, sized_lists}
use Rattle.layout.proofs.Widest.{widest_some}

pub widest_4000 : (kind : Kind) (hs ws gs : List ℕ) → StackLists kind hs ws gs → widest (components_in hs ws gs) ≤ 4000
widest_4000 kind hs ws gs s =
    widest_most (components_in hs ws gs) (component_in [] [] [] 0) 4000
    (λ i h. rw (component_at_lem hs ws gs i (omega (arith, components_length hs ws gs))) (s.slim i))

module _ {kind : Kind} {limit g0 : ℕ} {z : Sizes} {hs ws gs : List ℕ} {best rest : Entry} (a : GroupAsks kind limit g0 z hs ws gs best rest) where
  pub wide_4000 : z.widest.0 ≤ 4000
  wide_4000 = omega (arith, a.widest_is, widest_4000 kind hs ws gs a.lists)

  pub wide_some : 0 < z.widest.0
  wide_some = omega (arith, a.widest_is, widest_some (components_in hs ws gs) (sized_lists a.lists) (omega (arith, components_length hs ws gs, a.some)))

  pub best_low : best.width.0 ≤ none
  best_low = go a.fair
    where
      go : (best.width.0 < none) ⊎ ((best.width.0 ≡ none) × (best.height.0 ≤ none)) → best.width.0 ≤ none
      go (inl p) = omega arith
      go (inr p) = omega (arith, p.0)

  pub flat_is : {high n : ℕ} → n ≡ length hs → high ≡ z.tall.0 + g0 + gap_at gs (n - 1) → high ≡ flat_height g0 (components_in hs ws gs)
  flat_is {high} e h =
      let f : high ≡ z.tall.0 + g0 + gap_at gs (length hs - 1) = rw e at h in
      omega (arith, a.tall_is, gap_behind_all hs ws gs a.some)

  -- A group that would end behind a barred component is none.
  pub barred_tried : (last : Bool) → unbarred (components_in hs ws gs) ≡ false → layout_in best ≡ tried kind last limit g0 hs ws gs best rest
  barred_tried last u = sym (skip_group (groups kind) limit g0 last (components_in hs ws gs) (layout_in rest) (length hs) (layout_in best) a.fair (omega (arith, barred_end kind last (components_in hs ws gs) g0 limit u)))

  -- From the width b on a layout with this rest is no better than the best one.
  pub too_wide : (last : Bool) (b : ℕ) → (best.width.0 ≤ b) × (b ≤ best.width.0 → best.height.0 ≤ rest.height.0) → b ≤ rest.width.0 + z.widest.0 → layout_in best ≡ tried kind last limit g0 hs ws gs best rest
  too_wide last b from h = sym (skip_widest (may_stand kind) limit g0 last (components_in hs ws gs) (layout_in rest) (length hs) (layout_in best) a.fair b from.0 from.1 (omega (arith, a.widest_is)))

  -- Wider than the best layout.
  pub wider : (last : Bool) → best.width.0 < rest.width.0 + z.widest.0 → layout_in best ≡ tried kind last limit g0 hs ws gs best rest
  wider last h = too_wide last (best.width.0 + 1) (omega arith, λ under. absurd (omega arith)) (omega arith)

  rest_none : (last : Bool) → none ≤ rest.width.0 → layout_in best ≡ tried kind last limit g0 hs ws gs best rest
  rest_none last h = sym (skip_rest (groups kind) limit g0 last (components_in hs ws gs) (layout_in rest) (length hs) (layout_in best) a.fair h)

-- Without a fold, as apart every group may stand.
module _ (last : Bool) {limit g0 : ℕ} {z : Sizes} {hs ws gs : List ℕ} {best rest : Entry} (a : GroupAsks Apart limit g0 z hs ws gs best rest) {high : ℕ}
    (flat : high ≡ flat_height g0 (components_in hs ws gs)) (free : unbarred (components_in hs ws gs) ≡ true) where
  some_in : SomeWay (may_stand Apart last) (components_in hs ws gs)
  some_in = some_way Apart last (components_in hs ws gs) tt (omega (arith, components_length hs ws gs, a.some)) free

  pub flat_high : limit < high → layout_in best ≡ tried Apart last limit g0 hs ws gs best rest
  flat_high h =
      sym (rw (group_unmet (groups Apart) limit g0 last (components_in hs ws gs) (layout_in rest) (length hs) (omega (arith, apart_unmet (may_stand Apart last) (suits Apart last) g0 (components_in hs ws gs) limit some_in (omega (arith, flat)))))
      (choice_unmet (layout_in best) a.fair))

  flat_met : (r : Layout) (end : ℕ) → high ≤ limit → rest.width.0 < none → end ≡ length hs
      → r ≡ choice (in_front (outline z.widest.0 high) rest end) (layout_in best) → r ≡ tried Apart last limit g0 hs ws gs best rest
  flat_met r end h o ee er =
      let w : least_width Apart last g0 (components_in hs ws gs) limit ≡ widest (components_in hs ws gs) = apart_met (may_stand Apart last) (suits Apart last) g0 (components_in hs ws gs) limit some_in (omega (arith, flat)) in
      rw (candidate_is (groups Apart) limit g0 last (components_in hs ws gs) (layout_in rest) (length hs) (omega (arith, w, widest_4000 Apart hs ws gs a.lists)) o, w, apart_height (may_stand Apart last) g0 (components_in hs ws gs) (widest (components_in hs ws gs)) some_in (suits Apart last), ← flat, ← a.widest_is, ← ee) er

  -- Where the rest is none, what is made of it is wider than every layout.
  flat_over : (r : Layout) (end : ℕ) → none ≤ rest.width.0 → r ≡ choice (in_front (outline z.widest.0 high) rest end) (layout_in best)
      → r ≡ tried Apart last limit g0 hs ws gs best rest
  flat_over r end o er =
      er ∙ choice_keeps (in_front (outline z.widest.0 high) rest end) (layout_in best) (inl (omega (arith, best_low a, wide_some a))) ∙ rest_none a last o

  pub flat_tried : (r : Layout) (end : ℕ) → high ≤ limit → end ≡ length hs → r ≡ choice (in_front (outline z.widest.0 high) rest end) (layout_in best)
      → r ≡ tried Apart last limit g0 hs ws gs best rest
  flat_tried r end h ee er = go (order none rest.width.0)
    where
      go : (none ≤ rest.width.0) ⊎ (rest.width.0 < none) → r ≡ tried Apart last limit g0 hs ws gs best rest
      go (inl o) = flat_over r end o er
      go (inr o) = flat_met r end h o ee er

-- With the fold that makes it narrowest, or, if it stands last, without one.
module _ (last : Bool) {limit g0 : ℕ} {z : Sizes} {hs ws gs : List ℕ} {best rest : Entry} (a : GroupAsks Nested limit g0 z hs ws gs best rest) where
  abbrev w : ℕ
  w = least_width Nested last g0 (components_in hs ws gs) limit

  module _ {es : List ℕ} {word : ℕ} (asks : WordAsks last limit g0 hs ws gs es word) where
    pub narrow_asks : (high cap : ℕ) → high ≡ flat_height g0 (components_in hs ws gs) → unbarred (components_in hs ws gs) ≡ true → z.widest.0 ≤ cap → cap ≤ 2 * z.widest.0 → MemoryAsks last g0 high hs ws gs es word limit z.widest.0 cap
    narrow_asks high cap flat free c d = record {
      asks = record {
        asks = record {
          table = record { columns = record { same = a.lists.same_widths; low = a.lists.low; slim = a.lists.slim }; few = a.lists.few; room = asks.0 };
          some = a.some;
          seams_long = a.lists.same_seams;
          gaps_low = a.lists.near;
          first_low = a.before;
          free = free;
        };
        is_widest = a.widest_is;
        from = c;
        to = d;
        limit_low = a.limit_most;
      };
      is_flat = flat;
      holds = rw a.widest_is asks.1;
    }

  -- From the width b on a layout with this rest is no better than the best one.
  module _ (b : ℕ) (from : (best.width.0 ≤ b) × (b ≤ best.width.0 → best.height.0 ≤ rest.height.0)) where
    module _ (cap : ℕ) (e : cap ≡ min (2 * z.widest.0) (b - 1 - rest.width.0)) {found : Option Outline} (n : Narrow last g0 hs ws gs limit cap found) where
      pub folds_none : found ≡ None → layout_in best ≡ tried Nested last limit g0 hs ws gs best rest
      folds_none f = sym (go (order w cap))
        where
          go : (w ≤ cap) ⊎ (cap < w) → tried Nested last limit g0 hs ws gs best rest ≡ layout_in best
          go (inl p) = absurd (none-some _ (sym f ∙ n.within p))
          go (inr p) =
              skip_both (may_stand Nested) limit g0 last (components_in hs ws gs) (layout_in rest) (length hs) (layout_in best) a.fair b from.0 from.1 cap (omega (arith, a.widest_is)) p

      module _ {group : Outline} (f : found ≡ Some group) where
        found_is : (w ≤ cap) × (outline w (least_height Nested last g0 (components_in hs ws gs) w) ≡ group)
        found_is = go (order w cap)
          where
            go : (w ≤ cap) ⊎ (cap < w) → (w ≤ cap) × (outline w (least_height Nested last g0 (components_in hs ws gs) w) ≡ group)
            go (inl p) = (p, same_Some _ _ (sym (n.within p) ∙ f))
            go (inr p) = absurd (none-some group (sym (n.over p) ∙ f))

        pub found_low : group.width.0 ≤ cap
        found_low = omega (arith, found_is.0, ap (λ (o : Outline). o.width.0) found_is.1)

        pub folds_tried : (r : Layout) (end : ℕ) → rest.width.0 < none → end ≡ length hs → r ≡ choice (in_front group rest end) (layout_in best) → r ≡ tried Nested last limit g0 hs ws gs best rest
        folds_tried r end o ee er =
            rw (candidate_is (groups Nested) limit g0 last (components_in hs ws gs) (layout_in rest) (length hs) (omega (arith, found_is.0, wide_4000 a)) o)
            (subst (λ (g : Outline). r ≡ choice (in_front g rest (length hs)) (layout_in best)) (sym found_is.1) (rw ee at er))

-- A group of the first components may end where no fold is barred.
pub first_ends : (s : List Piece) (last : ℕ) {b : Bool} → last < length s → barred_at (seams_in s) last ≡ b → unbarred (stack_in (take (last + 1) s)) ≡ not b
first_ends s last h e =
    let z : last + 1 - 1 ≡ last = omega arith in
    rw (stack_take s (last + 1) (omega arith)) (unbarred_behind (heights_in s) (widths_in s) (seams_in s) (last + 1) (omega arith) (omega (arith, heights_length s)) ∙ rw (z, e))
