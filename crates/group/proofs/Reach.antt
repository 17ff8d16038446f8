-- The placements of two chains make a group that is at most as high as its way of standing.
use Prim.Native.Nat.{ℕ, suc, ◌+◌, ◌≤◌, ◌<◌, max}
use mathlib.Core.Path.{◌≡◌, refl, ap, ◌∙◌}
use mathlib.Core.List.{List, [], ◌∷◌, reverse_aux, map}
use mathlib.Core.Bool.{true, false}
use native.Mathlib.Omega.{arith}
use lib.ListN.{length}
use lib.Dec.{eqb}
use Rattle.terms.specs.declared.Component.{Component}
use Rattle.terms.specs.declared.Kind.{Kind}
use Rattle.terms.specs.declared.Kind.TheVariants.{Apart, Nested}
use Rattle.folding.specs.declared.Placed.{Placed}
use Rattle.folding.specs.declared.Placement.{Placement}
use Rattle.folding.specs.Placement.{left, placed_of}
use Rattle.folding.specs.Legal.{on_side}
use Rattle.folding.specs.Outline.{top_of, group_width, group_height}
use Rattle.folding.proofs.Sides.{Chain, Members, Fronted, group_of_lem}
use Rattle.folding.proofs.Pairs.{Narrow, FitAll, AllFit, cap_of}
use Rattle.group.specs.Rows.{ht, rows}
use Rattle.group.specs.Group.{widest, way_height}
use Rattle.group.proofs.Chains.{Stacked, ClearOf, AllClear, stacked_tall}
use Rattle.group.proofs.Lower.{components_of, lefts_in, components_sides, lefts_sides, way_sides}

-- One side of the group numbered m.
abbrev pub side_at : ℕ → ℕ → ℕ → Placement
side_at m side s = record { group = m; side = side; start = s }

abbrev pub placed : ℕ → ℕ → List Component → List ℕ → List Placed
placed m side l ss = placed_of l (map (side_at m side) ss)

stacked_chain : (m side lo hi : ℕ) (l : List Component) (ss : List ℕ) → Stacked lo hi l ss → Chain lo (placed m side l ss)
unfolding placed_of
stacked_chain m side lo hi [] ss g = tt
stacked_chain m side lo hi (x ∷ l) [] g = absurd g
stacked_chain m side lo hi (x ∷ l) (s ∷ ss) g = (g.0, stacked_chain m side (s + ht x) hi l ss g.1)

stacked_top : (m side lo hi : ℕ) (l : List Component) (ss : List ℕ) → Stacked lo hi l ss → top_of (placed m side l ss) ≤ hi
unfolding placed_of top_of
stacked_top m side lo hi [] ss g = omega arith
stacked_top m side lo hi (x ∷ l) [] g = absurd g
stacked_top m side lo hi (x ∷ l) (s ∷ ss) g = omega (arith, stacked_top m side (s + ht x) hi l ss g.1, stacked_tall (s + ht x) hi l ss g.1)

stacked_members : (kind : Kind) (m side lo hi : ℕ) (l : List Component) (ss : List ℕ) → side ≤ 1 → ((x : Placed) → left x ≡ eqb side 0 → on_side kind x ≡ true) → hi ≤ 1024000
    → Stacked lo hi l ss → Members kind m (eqb side 0) (placed m side l ss)
unfolding placed_of
stacked_members kind m side lo hi [] ss t o h g = tt
stacked_members kind m side lo hi (x ∷ l) [] t o h g = absurd g
stacked_members kind m side lo hi (x ∷ l) (s ∷ ss) t o h g = (
  refl,
  refl,
  record { two_sides = t; low = omega (arith, stacked_tall (s + ht x) hi l ss g.1); side_stands = o _ refl },
  stacked_members kind m side (s + ht x) hi l ss t o h g.1,
)

components_placed : (m side lo hi : ℕ) (l : List Component) (ss : List ℕ) → Stacked lo hi l ss → components_of (placed m side l ss) ≡ l
unfolding placed_of
components_placed m side lo hi [] ss g = refl
components_placed m side lo hi (x ∷ l) [] g = absurd g
components_placed m side lo hi (x ∷ l) (s ∷ ss) g = ap (λ (k : List Component). x ∷ k) (components_placed m side (s + ht x) hi l ss g.1)

pub stacked-length : (lo hi : ℕ) (l : List Component) (ss : List ℕ) → Stacked lo hi l ss → length ss ≡ length l
stacked-length lo hi [] [] g = refl
stacked-length lo hi [] (s ∷ ss) g = absurd g
stacked-length lo hi (x ∷ l) [] g = absurd g
stacked-length lo hi (x ∷ l) (s ∷ ss) g = ap suc (stacked-length (s + ht x) hi l ss g.1)

pub placed_sides : (m side lo hi : ℕ) (l : List Component) (ss : List ℕ) (r : List Component) (qs : List Placement) → Stacked lo hi l ss
    → placed_of (reverse_aux l r) (reverse_aux (map (side_at m side) ss) qs) ≡ reverse_aux (placed m side l ss) (placed_of r qs)
unfolding placed_of
placed_sides m side lo hi [] [] r qs g = refl
placed_sides m side lo hi [] (s ∷ ss) r qs g = absurd g
placed_sides m side lo hi (x ∷ l) [] r qs g = absurd g
placed_sides m side lo hi (x ∷ l) (s ∷ ss) r qs g = placed_sides m side (s + ht x) hi l ss (x ∷ r) (side_at m side s ∷ qs) g.1

narrow_placed : (m side c : ℕ) (l : List Component) (ss : List ℕ) → widest l ≤ c → Narrow c (placed m side l ss)
unfolding placed_of widest
narrow_placed m side c [] ss h = tt
narrow_placed m side c (x ∷ l) [] h = tt
narrow_placed m side c (x ∷ l) (s ∷ ss) h = (omega arith, narrow_placed m side c l ss (omega arith))

clear_fit : (m c : ℕ) (x : Component) (s : ℕ) (r : List Component) (ts : List ℕ) → ClearOf c x s r ts → FitAll c (record { component = x; placement = side_at m 0 s }) (placed m 1 r ts)
unfolding placed_of
clear_fit m c x s [] ts f = tt
clear_fit m c x s (y ∷ r) [] f = tt
clear_fit m c x s (y ∷ r) (t ∷ ts) f = (f.0, clear_fit m c x s r ts f.1)

clear_fits : (m c : ℕ) (l : List Component) (ss : List ℕ) (r : List Component) (ts : List ℕ) → AllClear c l ss r ts → AllFit c (placed m 0 l ss) (placed m 1 r ts)
unfolding placed_of
clear_fits m c [] ss r ts f = tt
clear_fits m c (x ∷ l) [] r ts f = tt
clear_fits m c (x ∷ l) (s ∷ ss) r ts f = (clear_fit m c x s r ts f.0, clear_fits m c l ss r ts f.1)

stands_left : (kind : Kind) (x : Placed) → left x ≡ true → on_side kind x ≡ true
stands_left Apart x e = e
stands_left Nested x e = refl

-- A group of the components cs within the cap c: at most top high, and with p of them on its left.
pub record Built (kind : Kind) (m g0 c top p : ℕ) (cs : List Component) (g : List Placed) : Type 0 where
  pub group : Fronted kind m g
  pub holds : components_of g ≡ cs
  pub narrow : group_width g ≤ c
  pub low : group_height g0 g ≤ top
  pub lefts : lefts_in g ≡ p

-- Two chains that are clear of each other make one that is at most as high as its way of standing.
built_sides : (kind : Kind) (m g0 c p : ℕ) (cs : List Component) (x : Placed) (l r : List Placed) → components_of (reverse_aux (x ∷ l) r) ≡ cs → length (components_of (x ∷ l)) ≡ p → Chain 0 (x ∷ l) → Chain 0 r
    → Members kind m true (x ∷ l) → Members kind m false r → max (top_of (x ∷ l)) (top_of r) ≤ rows c 0 0 (components_of (x ∷ l)) (components_of r) → Narrow c (x ∷ l) → Narrow c r → AllFit c (x ∷ l) r
    → Built kind m g0 c (way_height g0 cs c p) p cs (reverse_aux (x ∷ l) r)
built_sides kind m g0 c p cs x l r e n cl cr ml mr tp nl nr f = record {
  group = group_of_lem kind m 0 x l r cl cr ml mr;
  holds = e;
  narrow = cap_of c 0 0 (x ∷ l) r cl cr nl nr f;
  low = rw (← e, ← n) (omega (arith, way_sides kind m g0 x l r c ml mr, tp));
  lefts = lefts_sides kind m (x ∷ l) r ml mr ∙ n;
}

-- There is a right side in nested groups only.
right_members : (kind : Kind) (m hi : ℕ) (r : List Component) (ts : List ℕ) → (0 < length r → kind ≡ Nested) → hi ≤ 1024000 → Stacked 0 hi r ts → Members kind m false (placed m 1 r ts)
unfolding placed_of
right_members kind m hi [] ts k h g = tt
right_members kind m hi (y ∷ r) ts k h g = rw (k (omega arith)) (stacked_members Nested m 1 0 hi (y ∷ r) ts (omega arith) (λ z b. refl) h g)

-- The same for the start rows of two chains.
pub built_starts : (kind : Kind) (m g0 c : ℕ) (l r : List Component) (ss ts : List ℕ) → 0 < length l → (0 < length r → kind ≡ Nested) → Stacked 0 (rows c 0 0 l r) l ss → Stacked 0 (rows c 0 0 l r) r ts
    → AllClear c l ss r ts → rows c 0 0 l r ≤ 1024000 → widest l ≤ c → widest r ≤ c
    → Built kind m g0 c (way_height g0 (reverse_aux l r) c (length l)) (length l) (reverse_aux l r) (reverse_aux (placed m 0 l ss) (placed m 1 r ts))
unfolding placed_of
built_starts kind m g0 c [] r ss ts n k st su f h w v = absurd (omega arith)
built_starts kind m g0 c (x ∷ l) r [] ts n k st su f h w v = absurd st
built_starts kind m g0 c (x ∷ l) r (s ∷ ss) ts n k st su f h w v =
    let hi = rows c 0 0 (x ∷ l) r in
    let ls = placed m 0 (x ∷ l) (s ∷ ss) in
    let rs = placed m 1 r ts in
    let el : components_of ls ≡ x ∷ l = components_placed m 0 0 hi (x ∷ l) (s ∷ ss) st in
    let er : components_of rs ≡ r = components_placed m 1 0 hi r ts su in
    built_sides kind m g0 c (length (x ∷ l)) (reverse_aux (x ∷ l) r) (record { component = x; placement = side_at m 0 s }) (placed m 0 l ss) rs
    (components_sides ls rs ∙ ap (λ (k : List Component). reverse_aux k (components_of rs)) el ∙ ap (reverse_aux (x ∷ l)) er)
    (ap length el)
    (stacked_chain m 0 0 hi (x ∷ l) (s ∷ ss) st)
    (stacked_chain m 1 0 hi r ts su)
    (stacked_members kind m 0 0 hi (x ∷ l) (s ∷ ss) (omega arith) (stands_left kind) h st)
    (right_members kind m hi r ts k h su)
    (rw (el, er) (omega (arith, stacked_top m 0 0 hi (x ∷ l) (s ∷ ss) st, stacked_top m 1 0 hi r ts su)))
    (narrow_placed m 0 c (x ∷ l) (s ∷ ss) w)
    (narrow_placed m 1 c r ts v)
    (clear_fits m c (x ∷ l) (s ∷ ss) r ts f)
