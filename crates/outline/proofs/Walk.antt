-- The outline, group after group: what one turn of the walk adds, and what is left.
use Prim.Native.Nat.{ℕ, suc, ◌+◌, ◌-◌, ◌*◌, ◌≤◌, ◌<◌, max}
use mathlib.Core.Path.{◌≡◌, sym, ap, subst, ◌∙◌}
use mathlib.Core.List.{List, ◌∷◌, map}
use native.Mathlib.Omega.{arith}
use lib.ListN.{length, get_or, take, drop, length-drop}
use lib.Seq.{get_or-take, get_or-drop, length-take-le}
use borrow.Author.Tests.{eqb-true, eqb-false}
use Rattle.std.proofs.lemmas.List.{take-map, drop-map}
use Rattle.terms.specs.Component.{tabulate}
use Rattle.terms.specs.Seams.{gap_at}
use Rattle.terms.proofs.Tabulate.{tabulate_same, tabulate_end}
use Rattle.folding.specs.declared.Placement.{Placement}
use Rattle.folding.specs.declared.Placed.{Placed}
use Rattle.folding.specs.Outline.{group_width, group_height, last_gap, groups_of, layout_width, layout_height}
use Rattle.folding.specs.Placement.{none}
use Rattle.folding.specs.Asks.{placed_at, placed_in, group_at, side_at, start_at}
use Rattle.outline.specs.Inner.{OneEach, most_width, GroupEnd, Beside, GroupIn}
use Rattle.folding.proofs.Rules.{Within, down, turn, up}
use Rattle.outline.proofs.Placing.{cut_tabulate, gap_tabulate}
use Rattle.outline.proofs.Steps.{legal_low, legal_first, legal_opens, legal_within}

-- The part of a list from a up to e.
abbrev pub part : {A : Type 0} → ℕ → ℕ → List A → List A
part a e l = take (e - a) (drop a l)

pub part_length : {A : Type 0} (a e : ℕ) (l : List A) → a ≤ e → e ≤ length l → length (part a e l) ≡ e - a
part_length a e l h k = length-take-le (e - a) (drop a l) (omega (arith, length-drop a l))

pub part_at : {A : Type 0} (a e j : ℕ) (l : List A) (d : A) → j < e - a → get_or (part a e l) j d ≡ get_or l (a + j) d
part_at a e j l d h = get_or-take (e - a) (drop a l) j d h ∙ get_or-drop a l j d

-- A column of the first n that are left of a stack is a part of its column, and so it is with placements.
pub map_part : {A B : Type 0} (f : A → B) (from n : ℕ) (all rest : List A) → rest ≡ drop from all → map f (take n rest) ≡ part from (from + n) (map f all)
map_part f from n all rest r =
    let z : from + n - from ≡ n = omega arith in
    rw (r, z, drop-map, take-map)

-- What is found so far, of the components before `from`, and what is left.
pub record Walked (hs ws seams : List ℕ) (ps : List Placement) (width height before from : ℕ) : Type 0 where
  pub inside : from ≤ length hs
  pub width_left : width + layout_width (groups_of (drop from (placed_in hs ws seams ps))) ≡ layout_width (groups_of (placed_in hs ws seams ps))
  pub height_left : max height (layout_height before (groups_of (drop from (placed_in hs ws seams ps)))) ≡ layout_height 0 (groups_of (placed_in hs ws seams ps))
  pub bounded : width ≤ most_width * from
  pub small : before ≤ 65535
  pub opens : from < length hs → side_at ps from ≡ 0

-- What the rules say of two neighbours, at their places.
beside_of : (hs ws seams : List ℕ) (ps : List Placement) (i : ℕ) → Within (placed_at hs ws seams ps i) (placed_at hs ws seams ps (i + 1)) → Beside hs ps i
beside_of hs ws seams ps i (down u v e) = record { left_comes_first = λ b. eqb-true _ _ u; left_is_clear = λ a b. e; right_is_clear = λ a b. absurd (a (eqb-true _ _ u)) }
beside_of hs ws seams ps i (turn u v) = record { left_comes_first = λ b. eqb-true _ _ u; left_is_clear = λ a b. absurd (eqb-false _ _ v b); right_is_clear = λ a b. absurd (a (eqb-true _ _ u)) }
beside_of hs ws seams ps i (up u v e) = record { left_comes_first = λ b. absurd (eqb-false _ _ v b); left_is_clear = λ a b. absurd (eqb-false _ _ u a); right_is_clear = λ a b. e }

module _ {hs ws seams : List ℕ} {ps : List Placement} (v : OneEach hs ws seams ps) where
  abbrev g : ℕ → Placed
  g = placed_at hs ws seams ps

  -- The group of components from up to to, as it stands in the parts of the columns.
  module _ (from to : ℕ) (some : from < to) (within : to ≤ length hs) where
    abbrev mine : List Placed
    mine = placed_in (part from to hs) (part from to ws) (part from to seams) (part from to ps)

    long : length (part from to hs) ≡ to - from
    long = part_length from to hs (omega arith) within

    side_same : (j : ℕ) → j < to - from → side_at (part from to ps) j ≡ side_at ps (from + j)
    side_same j h = ap (λ (p : Placement). p.side) (part_at from to j ps none h)

    start_same : (j : ℕ) → j < to - from → start_at (part from to ps) j ≡ start_at ps (from + j)
    start_same j h = ap (λ (p : Placement). p.start) (part_at from to j ps none h)

    mine_is : mine ≡ tabulate (λ j. g (from + j)) (to - from)
    mine_is =
        rw long
        (tabulate_same _ _ (to - from) (λ j h. rw (
          part_at from to j hs 0 h,
          part_at from to j ws 0 h,
          part_at from to j seams 0 h,
          part_at from to j ps none h,
        )))

    -- What the rules say of two neighbours of the group.
    beside_at : ((i : ℕ) → from ≤ i → i < to → group_at ps i ≡ group_at ps from) → (j : ℕ) → j + 1 < to - from → Beside (part from to hs) (part from to ps) j
    beside_at same j h =
        let z : from + j + 1 ≡ from + (j + 1) = omega arith in
        let b : Beside hs ps (from + j) = beside_of hs ws seams ps (from + j) (legal_within g (length hs) v.is_legal.0 v.is_legal.1 (from + j) (omega arith) (same (from + j + 1) (omega arith) (omega arith) ∙ sym (same (from + j) (omega arith) (omega arith)))) in
        record {
          left_comes_first = rw (side_same j (omega arith), side_same (j + 1) h, ← z) b.left_comes_first;
          left_is_clear = rw (side_same j (omega arith), side_same (j + 1) h, start_same j (omega arith), start_same (j + 1) h, part_at from to (j + 1) hs 0 h, ← z) b.left_is_clear;
          right_is_clear = rw (side_same j (omega arith), side_same (j + 1) h, start_same j (omega arith), start_same (j + 1) h, part_at from to j hs 0 (omega arith), ← z) b.right_is_clear;
        }

  pub walk_start : Walked hs ws seams ps 0 0 0 0
  walk_start = record {
    inside = omega arith;
    width_left = omega arith;
    height_left = omega arith;
    bounded = omega arith;
    small = omega arith;
    opens = λ h. eqb-true _ _ (legal_first g (length hs) v.is_legal.0 v.is_legal.1 h);
  }

  module _ {width height before from to : ℕ} (w : Walked hs ws seams ps width height before from) (e : GroupEnd ps from to) where
    abbrev within : to ≤ length hs
    within = omega (arith, e.within, v.one_each)

    pub group_in : GroupIn (part from to hs) (part from to ws) (part from to seams) (part from to ps)
    group_in =
        let l = long from to e.some within in
        record {
          wide = record {
            flat_group = record {
              some = omega (arith, e.some);
              low = λ j h.
                  let h' : j < to - from = omega (arith, l) in
                  rw (start_same from to e.some within j h') (legal_low g (length hs) v.is_legal.0 v.is_legal.1 (from + j) (omega (arith, within)));
              first_left =
                  side_same from to e.some within 0 (omega (arith, e.some))
                  ∙ ap (λ (m : ℕ). side_at ps m) (omega arith)
                  ∙ w.opens (omega (arith, e.some, within));
              beside = λ j h. beside_at from to e.some within e.same j (omega (arith, l));
            };
            widths_long = part_length from to ws (omega (arith, e.some)) (omega (arith, v.stack.widths_long, within)) ∙ sym l;
            tall = λ j h.
                let h' : j < to - from = omega (arith, l) in
                rw (part_at from to j hs 0 h') (v.stack.tall (from + j) (omega (arith, within)));
          };
          seams_long = part_length from to seams (omega (arith, e.some)) (omega (arith, v.stack.seams_long, within)) ∙ sym l;
        }

    groups : groups_of (drop from (placed_in hs ws seams ps)) ≡ mine from to e.some within ∷ groups_of (drop to (placed_in hs ws seams ps))
    groups =
        cut_tabulate g (length hs) from to within e.same (λ h. e.other (omega (arith, v.one_each))) e.some
        ∙ ap (λ (m : List Placed). m ∷ groups_of (drop to (placed_in hs ws seams ps))) (sym (mine_is from to e.some within))

    last : {j : ℕ} → suc j ≡ to - from → last_gap (mine from to e.some within) ≡ gap_at (part from to seams) j
    last {j} n =
        let k : suc j ≡ length (part from to hs) = n ∙ sym (long from to e.some within) in
        subst (λ (d : ℕ). last_gap (tabulate (placed_at (part from to hs) (part from to ws) (part from to seams) (part from to ps)) d) ≡ gap_at (part from to seams) j) k
        (gap_tabulate (placed_at (part from to hs) (part from to ws) (part from to seams) (part from to ps)) j)

    pub walk_on : {w₁ h₁ height₁ before₁ j : ℕ} → w₁ ≡ group_width (mine from to e.some within) → h₁ ≡ group_height before (mine from to e.some within) → w₁ ≤ most_width
        → height₁ ≡ max height h₁ → suc j ≡ to - from → before₁ ≡ gap_at (part from to seams) j → before₁ ≤ 65535 → Walked hs ws seams ps (width + w₁) height₁ before₁ to
    unfolding layout_width layout_height
    walk_on {w₁} {h₁} {height₁} {before₁} {j} a b c d n f s =
        let l = long from to e.some within in
        let lw = rw groups at w.width_left in
        let lh = rw groups at w.height_left in
        let p : before₁ ≡ last_gap (mine from to e.some within) = f ∙ sym (last n) in
        record {
          inside = within;
          width_left = omega arith;
          height_left = rw p (omega arith);
          bounded = omega (arith, w.bounded, e.some);
          small = s;
          opens = λ h.
              let z : to - 1 + 1 ≡ to = omega (arith, e.some) in
              subst (λ (k : ℕ). side_at ps k ≡ 0) z
              (eqb-true _ _ (legal_opens g (length hs) v.is_legal.0 v.is_legal.1 (to - 1) (omega arith)
              (λ same. e.other (omega (arith, v.one_each)) (subst (λ (k : ℕ). group_at ps k ≡ group_at ps (to - 1)) z same ∙ e.same (to - 1) (omega (arith, e.some)) (omega (arith, e.some))))));
        }

  pub walk_done : {width height before from : ℕ} → Walked hs ws seams ps width height before from → length hs ≤ from
      → (width ≡ layout_width (groups_of (placed_in hs ws seams ps))) × (height ≡ layout_height 0 (groups_of (placed_in hs ws seams ps)))
  unfolding groups_of layout_width layout_height
  walk_done {from = from} w h =
      let a = rw (tabulate_end g (length hs) from h) at w.width_left in
      let b = rw (tabulate_end g (length hs) from h) at w.height_left in
      (omega arith, omega arith)
