-- The least height falls as the cap rises; and bounds on it.
use Prim.Native.Nat.{ℕ, ◌+◌, ◌*◌, ◌≤◌}
use mathlib.Core.Path.{◌≡◌, refl, sym, ap, ◌∙◌, subst}
use mathlib.Core.List.{List, [], ◌∷◌}
use mathlib.Core.Bool.{Bool, true, false, cond}
use native.Mathlib.Omega.{arith}
use lib.ListN.{length}
use lib.Dec.{eqb}
use Rattle.terms.specs.declared.Component.{Component}
use Rattle.terms.specs.declared.Kind.TheVariants.{Apart}
use Rattle.group.specs.Rows.{tall, rows, packed, place}
use Rattle.group.specs.Group.{left_side, right_side, flat_height, fold_height, May, way_height, ways_of, least_height_by, FoldPointBy, SomeWay}
use Rattle.group.proofs.Chains.{Stacked, ClearOf, AllClear, stacked_tall, stacked_wider, packed_stacked, nothing_lower, reached}
use Rattle.group.proofs.Sides.{both_sides, tall_sides}
use Rattle.group.proofs.Ways.{lowest_falls, apart_whole, Suits, way_flat, fold_point, point_stands}

-- What is clear under a cap is clear under a greater one.
clear_of : (c d : ℕ) (x : Component) (s : ℕ) (r : List Component) (ts : List ℕ) → c ≤ d → ClearOf c x s r ts → ClearOf d x s r ts
clear_of c d x s [] ts h f = tt
clear_of c d x s (y ∷ r) [] h f = tt
clear_of c d x s (y ∷ r) (t ∷ ts) h f = (λ u v. omega (arith, f.0 u v), clear_of c d x s r ts h f.1)

all_clear : (c d : ℕ) (l : List Component) (ss : List ℕ) (r : List Component) (ts : List ℕ) → c ≤ d → AllClear c l ss r ts → AllClear d l ss r ts
all_clear c d [] ss r ts h f = tt
all_clear c d (x ∷ l) [] r ts h f = tt
all_clear c d (x ∷ l) (s ∷ ss) r ts h f = (clear_of c d x s r ts h f.0, all_clear c d l ss r ts h f.1)

pub rows_falls : (c d : ℕ) (l r : List Component) → c ≤ d → rows d 0 0 l r ≤ rows c 0 0 l r
rows_falls c d l r h =
    let q = reached c l r in
    let s = place c 0 0 l r in
    nothing_lower d (rows c 0 0 l r) l r s.on_the_left s.on_the_right q.left_stacked q.right_stacked (all_clear c d l s.on_the_left r s.on_the_right h q.clear)

-- So does the height of each way, and with it the least.
way_falls : (g0 : ℕ) (cs : List Component) (c d : ℕ) → c ≤ d → (p : ℕ) → way_height g0 cs d p ≤ way_height g0 cs c p
way_falls g0 cs c d h p = go (eqb p (length cs))
  where
    go : (flat : Bool) → cond flat (flat_height g0 cs) (fold_height g0 cs d p) ≤ cond flat (flat_height g0 cs) (fold_height g0 cs c p)
    go true = omega arith
    go false = omega (arith, rows_falls c d (left_side p cs) (right_side p cs) h)

pub falls : (may : May) (g0 : ℕ) (cs : List Component) (c d : ℕ) → c ≤ d → least_height_by may g0 cs d ≤ least_height_by may g0 cs c
unfolding least_height_by
falls may g0 cs c d h = lowest_falls (way_height g0 cs d) (way_height g0 cs c) (ways_of may cs) (way_falls g0 cs c d h)

-- Rows are at least those of each side, and at most those of both.
pub rows_left_side : (c : ℕ) (l r : List Component) → tall l ≤ rows c 0 0 l r
rows_left_side c l r = omega (arith, stacked_tall 0 (rows c 0 0 l r) l (place c 0 0 l r).on_the_left (reached c l r).left_stacked)

pub rows_right_side : (c : ℕ) (l r : List Component) → tall r ≤ rows c 0 0 l r
rows_right_side c l r = omega (arith, stacked_tall 0 (rows c 0 0 l r) r (place c 0 0 l r).on_the_right (reached c l r).right_stacked)

-- One side on top of the other shares no row.
clear_above : (c lo : ℕ) (x : Component) (s hi : ℕ) (r : List Component) (ts : List ℕ) → s + x.height.0 ≤ lo → Stacked lo hi r ts → ClearOf c x s r ts
clear_above c lo x s hi [] ts h f = tt
clear_above c lo x s hi (y ∷ r) [] h f = tt
clear_above c lo x s hi (y ∷ r) (t ∷ ts) h f = (λ u v. absurd (omega arith), clear_above c (t + y.height.0) x s hi r ts (omega arith) f.1)

all_above : (c lo mid hi : ℕ) (l : List Component) (ss : List ℕ) (r : List Component) (ts : List ℕ) → Stacked lo mid l ss → Stacked mid hi r ts → AllClear c l ss r ts
all_above c lo mid hi [] ss r ts f g = tt
all_above c lo mid hi (x ∷ l) [] r ts f g = tt
all_above c lo mid hi (x ∷ l) (s ∷ ss) r ts f g =
    (clear_above c mid x s hi r ts (omega (arith, stacked_tall (s + x.height.0) mid l ss f.1)) g, all_above c (s + x.height.0) mid hi l ss r ts f.1 g)

pub rows_most : (c : ℕ) (l r : List Component) → rows c 0 0 l r ≤ tall l + tall r
rows_most c l r =
    let f = packed_stacked 0 (tall l) l (omega arith) in
    let g = packed_stacked (tall l) (tall l + tall r) r (omega arith) in
    nothing_lower c (tall l + tall r) l r (packed 0 l) (packed (tall l) r) (stacked_wider 0 0 (tall l) (tall l + tall r) l (packed 0 l) (omega arith) (omega arith) f) (stacked_wider (tall l) 0 (tall l + tall r) (tall l + tall r) r (packed (tall l) r) (omega arith) (omega arith) g)
    (all_above c 0 (tall l) (tall l + tall r) l (packed 0 l) r (packed (tall l) r) f g)

-- A group has two sides at most, so twice its height is at least the sum of its heights.
fold_tall : (c p : ℕ) (cs : List Component) → tall cs ≤ 2 * rows c 0 0 (left_side p cs) (right_side p cs)
fold_tall c p cs =
    let e : tall cs ≡ tall (left_side p cs) + tall (right_side p cs) = ap tall (sym (both_sides p cs)) ∙ tall_sides (left_side p cs) (right_side p cs) in
    omega (arith, e, rows_left_side c (left_side p cs) (right_side p cs), rows_right_side c (left_side p cs) (right_side p cs))

way_tall : (g0 : ℕ) (cs : List Component) (c p : ℕ) → tall cs ≤ 2 * way_height g0 cs c p
way_tall g0 cs c p = go (eqb p (length cs))
  where
    go : (flat : Bool) → tall cs ≤ 2 * cond flat (flat_height g0 cs) (fold_height g0 cs c p)
    go true = omega arith
    go false = omega (arith, fold_tall c p cs)

module _ (may : May) (g0 : ℕ) (cs : List Component) (c : ℕ) (some : SomeWay may cs) where
  pub two_sides : tall cs ≤ 2 * least_height_by may g0 cs c
  two_sides = let f = fold_point may cs g0 c some in omega (arith, f.1.least, way_tall g0 cs c f.0)

  -- An apart group has no fold, so the cap does not matter.
  module _ (suits : Suits Apart may) where
    pub apart_point : FoldPointBy may g0 cs c (length cs)
    apart_point =
        let f = fold_point may cs g0 c some in
        subst (FoldPointBy may g0 cs c) (apart_whole (length cs) f.0 (point_stands may cs g0 c Apart f.0 suits f.1)) f.1

    pub apart_height : least_height_by may g0 cs c ≡ flat_height g0 cs
    apart_height = apart_point.least ∙ way_flat g0 cs c (length cs) refl

    pub one_side : tall cs ≤ least_height_by may g0 cs c
    one_side = omega (arith, apart_height)
