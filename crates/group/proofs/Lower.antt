-- No legal group is lower than the least height at its own width, and none is narrower than the least width for its height.
use Prim.Native.Nat.{ℕ, suc, ◌+◌, ◌*◌, ◌≤◌, ◌<◌, max}
use mathlib.Core.Path.{◌≡◌, refl, sym, ap, ◌∙◌, subst}
use mathlib.Core.List.{List, [], ◌∷◌, reverse_aux, map}
use mathlib.Core.Bool.{true, false, true≢false, cond}
use native.Mathlib.Omega.{arith}
use lib.ListN.{length, length-reverse_aux}
use Rattle.terms.specs.declared.Component.{Component}
use Rattle.terms.specs.declared.Kind.{Kind}
use Rattle.terms.specs.declared.Kind.TheVariants.{Apart, Nested}
use Rattle.terms.proofs.Lists.{AllSized}
use Rattle.folding.specs.declared.Placed.{Placed}
use Rattle.folding.specs.Placement.{width_of, group_of, start_of, end_of, left}
use Rattle.folding.specs.Outline.{top_of, group_width, group_height, last_gap}
use Rattle.folding.proofs.Rules.{Alone}
use Rattle.folding.proofs.Groups.{Run}
use Rattle.folding.proofs.Rows.{Tall}
use Rattle.folding.proofs.Sides.{Chain, Members, sides, flat_height_lem, fold_height_lem}
use Rattle.folding.proofs.Pairs.{Narrow, FitAll, AllFit, cap_narrow_left, cap_narrow_right, cap_fits, cap_of}
use Rattle.model.specs.Groups.{gap_behind}
use Rattle.group.specs.Rows.{gap, tall, rows}
use Rattle.group.specs.Group.{gap_after, widest, flat_height, fold_height, May, way_height, least_height_by, least_width_by}
use Rattle.group.proofs.Chains.{Stacked, ClearOf, AllClear, nothing_lower}
use Rattle.group.proofs.First.{first_le}
use Rattle.group.proofs.Ways.{Stands, Allowed, allowed_some, width_is, way_flat, way_fold, least_at}
use Rattle.group.proofs.Sides.{take_left, left_side_lem, right_side_lem, tall_sides, gap_sides, gap_front, widest_sides}

abbrev pub components_of : List Placed → List Component
components_of l = map (λ x. x.component) l

abbrev pub starts_of : List Placed → List ℕ
starts_of l = map (λ x. start_of x) l

-- How many components of a group are on the left: its fold is behind these.
unfoldable pub lefts_in : List Placed → ℕ
lefts_in [] = 0
lefts_in (x ∷ l) = cond (left x) (suc (lefts_in l)) 0

-- Placed chains are stacked, and what fits is clear.
chain_stacked : (lo hi : ℕ) (l : List Placed) → Chain lo l → lo ≤ hi → top_of l ≤ hi → Stacked lo hi (components_of l) (starts_of l)
unfolding top_of
chain_stacked lo hi [] c h t = h
chain_stacked lo hi (x ∷ l) c h t = (c.0, chain_stacked (end_of x) hi l c.1 (omega arith) (omega arith))

fits_of : (c : ℕ) (x : Placed) (r : List Placed) → FitAll c x r → ClearOf c x.component (start_of x) (components_of r) (starts_of r)
fits_of c x [] f = tt
fits_of c x (y ∷ r) f = (f.0, fits_of c x r f.1)

fits_clear : (c : ℕ) (l r : List Placed) → AllFit c l r → AllClear c (components_of l) (starts_of l) (components_of r) (starts_of r)
fits_clear c [] r f = tt
fits_clear c (x ∷ l) r f = (fits_of c x r f.0, fits_clear c l r f.1)

pub components_sides : (l r : List Placed) → components_of (reverse_aux l r) ≡ reverse_aux (components_of l) (components_of r)
components_sides [] r = refl
components_sides (x ∷ l) r = components_sides l (x ∷ r)

pub last_gap_lem : (l : List Placed) → last_gap l ≡ gap_after (components_of l)
unfolding last_gap gap_behind
last_gap_lem [] = refl
last_gap_lem (x ∷ []) = refl
last_gap_lem (x ∷ y ∷ l) = last_gap_lem (y ∷ l)

narrow_widest : (c : ℕ) (l : List Placed) → Narrow c l → widest (components_of l) ≤ c
unfolding widest
narrow_widest c [] n = omega arith
narrow_widest c (x ∷ l) n = omega (arith, narrow_widest c l n.1)

widest_narrow : (c : ℕ) (l : List Placed) → widest (components_of l) ≤ c → Narrow c l
unfolding widest
widest_narrow c [] h = tt
widest_narrow c (x ∷ l) h = (omega arith, widest_narrow c l (omega arith))

fit_twice : (w : ℕ) (x : Placed) (r : List Placed) → width_of x ≤ w → Narrow w r → FitAll (2 * w) x r
fit_twice w x [] h n = tt
fit_twice w x (y ∷ r) h n = (λ u v. omega arith, fit_twice w x r h n.1)

all_fit : (w : ℕ) (l r : List Placed) → Narrow w l → Narrow w r → AllFit (2 * w) l r
all_fit w [] r m n = tt
all_fit w (x ∷ l) r m n = (fit_twice w x r m.0 n, all_fit w l r m.1 n)

sized_tall : (l : List Placed) → AllSized (components_of l) → Tall l
sized_tall [] s = tt
sized_tall (x ∷ l) s = (s.0.height_some, sized_tall l s.1)

pub sized_sides : (l r : List Component) → AllSized (reverse_aux l r) → AllSized l × AllSized r
sized_sides [] r s = (tt, s)
sized_sides (x ∷ l) r s = let k = sized_sides l (x ∷ r) s in ((k.1.0, k.0), k.1.1)

-- A legal group: its width is between the widest and twice the widest, and it is no lower than its way of standing.
pub record Measured (kind : Kind) (g0 : ℕ) (g : List Placed) : Type 0 where
  pub wide : widest (components_of g) ≤ group_width g
  pub slim : group_width g ≤ 2 * widest (components_of g)
  pub stands : Stands kind (length (components_of g)) (lefts_in g)
  pub high : way_height g0 (components_of g) (group_width g) (lefts_in g) ≤ group_height g0 g

-- Its way of standing by its sides: the left one is in front of the fold, and a right one is in nested groups only.
lefts_front : (kind : Kind) (m : ℕ) (l r : List Placed) → Members kind m true l → lefts_in (reverse_aux l r) ≡ length (components_of l) + lefts_in r
unfolding lefts_in
lefts_front kind m [] r e = omega arith
lefts_front kind m (x ∷ l) r e = let h : lefts_in (x ∷ r) ≡ suc (lefts_in r) = rw e.1 in omega (arith, lefts_front kind m l (x ∷ r) e.3, h)

no_lefts : (kind : Kind) (m : ℕ) (r : List Placed) → Members kind m false r → lefts_in r ≡ 0
unfolding lefts_in
no_lefts kind m [] e = refl
no_lefts kind m (y ∷ r) e = rw e.1

pub lefts_sides : (kind : Kind) (m : ℕ) (l r : List Placed) → Members kind m true l → Members kind m false r → lefts_in (reverse_aux l r) ≡ length (components_of l)
lefts_sides kind m l r e f = omega (arith, lefts_front kind m l r e, no_lefts kind m r f)

right_nested : (kind : Kind) (m : ℕ) (r : List Placed) → Members kind m false r → 0 < length (components_of r) → kind ≡ Nested
right_nested Apart m [] e h = absurd (omega arith)
right_nested Apart m (y ∷ r) e h = absurd (true≢false (sym e.2.side_stands ∙ e.1))
right_nested Nested m r e h = refl

-- The heights of a group by its sides, without a fold and with one.
flat_sides : (g0 : ℕ) (c : Component) (cs : List Component) → flat_height g0 (reverse_aux (c ∷ cs) []) ≡ tall (c ∷ cs) + g0 + gap c
unfolding tall
flat_sides g0 c cs = omega (arith, gap_front c cs, tall_sides (c ∷ cs) [])

fold_sides : (g0 : ℕ) (c : Component) (l : List Component) (d : Component) (r : List Component) (at : ℕ)
    → fold_height g0 (reverse_aux (c ∷ l) (d ∷ r)) at (length (c ∷ l)) ≡ rows at 0 0 (c ∷ l) (d ∷ r) + max g0 (gap_after (d ∷ r)) + gap c
fold_sides g0 c l d r at = rw (left_side_lem (c ∷ l) (d ∷ r), right_side_lem (c ∷ l) (d ∷ r), take_left (c ∷ l) (d ∷ r), gap_front c l, gap_sides (c ∷ l) d r)

-- A group and its way of standing differ in height by their rows alone.
pub way_sides : (kind : Kind) (m g0 : ℕ) (x : Placed) (l r : List Placed) (at : ℕ) → Members kind m true (x ∷ l) → Members kind m false r
    → way_height g0 (components_of (reverse_aux (x ∷ l) r)) at (length (components_of (x ∷ l))) + max (top_of (x ∷ l)) (top_of r)
    ≡ group_height g0 (reverse_aux (x ∷ l) r) + rows at 0 0 (components_of (x ∷ l)) (components_of r)
unfolding rows top_of
way_sides kind m g0 x l [] at e f =
    let cs = components_of (x ∷ l) in
    rw (components_sides (x ∷ l) [])
    (omega (arith, flat_height_lem kind m g0 x l e, flat_sides g0 x.component (components_of l), way_flat g0 (reverse_aux cs []) at (length cs) (omega (arith, length-reverse_aux cs []))))
way_sides kind m g0 x l (y ∷ r) at e f =
    let cs = components_of (x ∷ l) in
    let ds = components_of (y ∷ r) in
    rw (components_sides (x ∷ l) (y ∷ r))
    (omega (
      arith,
      last_gap_lem (y ∷ r),
      fold_height_lem kind m g0 x l y r e f,
      fold_sides g0 x.component (components_of l) y.component (components_of r) at,
      way_fold g0 (reverse_aux cs ds) at (length cs) (omega (arith, length-reverse_aux cs ds)),
    ))

-- How the group of two sides stands.
module _ (kind : Kind) (m : ℕ) (x : Placed) (l r : List Placed) (ml : Members kind m true (x ∷ l)) (mr : Members kind m false r) where
  lefts_are : lefts_in (reverse_aux (x ∷ l) r) ≡ length (components_of (x ∷ l))
  lefts_are = lefts_sides kind m (x ∷ l) r ml mr

  group_long : length (components_of (reverse_aux (x ∷ l) r)) ≡ length (components_of (x ∷ l)) + length (components_of r)
  group_long = ap length (components_sides (x ∷ l) r) ∙ length-reverse_aux (components_of (x ∷ l)) (components_of r)

  stands_sides : Stands kind (length (components_of (reverse_aux (x ∷ l) r))) (lefts_in (reverse_aux (x ∷ l) r))
  stands_sides = record {
    some = omega (arith, lefts_are);
    within = omega (arith, lefts_are, group_long);
    folded = λ h. right_nested kind m r mr (omega (arith, lefts_are, group_long));
  }

pub group_stands : (kind : Kind) (x : Placed) (a : List Placed) → left x ≡ true → Alone kind x → Run kind x a → Stands kind (length (components_of (x ∷ a))) (lefts_in (x ∷ a))
group_stands kind x a l e r =
    let d = sides kind [] x a l e r tt tt in
    subst (λ (g : List Placed). Stands kind (length (components_of g)) (lefts_in g)) (sym d.order)
    (stands_sides kind (group_of x) d.lowest d.lefts d.rights d.left_members d.right_members)

-- The two sides of a legal group.
module _ (kind : Kind) (m g0 : ℕ) (x : Placed) (l r : List Placed) (cl : Chain 0 (x ∷ l)) (cr : Chain 0 r) (ml : Members kind m true (x ∷ l)) (mr : Members kind m false r)
    (sl : AllSized (components_of (x ∷ l))) (sr : AllSized (components_of r)) where
  abbrev group : List Placed
  group = reverse_aux (x ∷ l) r

  abbrev width : ℕ
  width = group_width group

  rows_low : rows width 0 0 (components_of (x ∷ l)) (components_of r) ≤ max (top_of (x ∷ l)) (top_of r)
  rows_low =
      nothing_lower width (max (top_of (x ∷ l)) (top_of r)) (components_of (x ∷ l)) (components_of r) (starts_of (x ∷ l)) (starts_of r)
      (chain_stacked 0 _ (x ∷ l) cl (omega arith) (omega arith))
      (chain_stacked 0 _ r cr (omega arith) (omega arith))
      (fits_clear width (x ∷ l) r (cap_fits width (x ∷ l) r (sized_tall (x ∷ l) sl) (sized_tall r sr) (omega arith)))

  sides_widest : widest (components_of group) ≤ width
  sides_widest =
      rw (components_sides (x ∷ l) r, widest_sides (components_of (x ∷ l)) (components_of r))
      (omega (arith, narrow_widest width (x ∷ l) (cap_narrow_left width (x ∷ l) r (sized_tall (x ∷ l) sl) (sized_tall r sr) (omega arith)), narrow_widest width r (cap_narrow_right width (x ∷ l) r (sized_tall (x ∷ l) sl) (sized_tall r sr) (omega arith))))

  sides_bound : width ≤ 2 * widest (components_of group)
  sides_bound =
      let w = widest (components_of group) in
      let e : w ≡ max (widest (components_of (x ∷ l))) (widest (components_of r)) = ap widest (components_sides (x ∷ l) r) ∙ widest_sides (components_of (x ∷ l)) (components_of r) in
      cap_of (2 * w) 0 0 (x ∷ l) r cl cr (widest_narrow (2 * w) (x ∷ l) (omega arith)) (widest_narrow (2 * w) r (omega arith))
      (all_fit w (x ∷ l) r (widest_narrow w (x ∷ l) (omega arith)) (widest_narrow w r (omega arith)))

  measured_sides : Measured kind g0 group
  measured_sides = record { wide = sides_widest; slim = sides_bound; stands = stands_sides kind m x l r ml mr; high = rw (lefts_are kind m x l r ml mr) (omega (arith, way_sides kind m g0 x l r width ml mr, rows_low)) }

measured_order : (kind : Kind) (g0 m : ℕ) (g : List Placed) (x : Placed) (l r : List Placed) → g ≡ reverse_aux (x ∷ l) r → Chain 0 (x ∷ l) → Chain 0 r → Members kind m true (x ∷ l)
    → Members kind m false r → AllSized (components_of g) → Measured kind g0 g
measured_order kind g0 m g x l r e cl cr ml mr s =
    let z = sized_sides (components_of (x ∷ l)) (components_of r) (rw (e, components_sides (x ∷ l) r) at s) in
    rw e (measured_sides kind m g0 x l r cl cr ml mr z.0 z.1)

pub measured : (kind : Kind) (g0 : ℕ) (x : Placed) (a : List Placed) → left x ≡ true → Alone kind x → Run kind x a → AllSized (components_of (x ∷ a)) → Measured kind g0 (x ∷ a)
measured kind g0 x a l e r s =
    let d = sides kind [] x a l e r tt tt in
    measured_order kind g0 (group_of x) (x ∷ a) d.lowest d.lefts d.rights d.order d.left_chain d.right_chain d.left_members d.right_members s

-- Where its way of standing is allowed, it is no lower than the least height, and no narrower than the least width for a limit
-- that it keeps.
module _ (may : May) (kind : Kind) (g0 : ℕ) (g : List Placed) (d : Measured kind g0 g) (e : may (components_of g) (lefts_in g) ≡ true) where
  its_way : Allowed (may (components_of g)) (length (components_of g)) (lefts_in g)
  its_way = (d.stands.some, d.stands.within, e)

  pub measured_least : least_height_by may g0 (components_of g) (group_width g) ≤ group_height g0 g
  measured_least = omega (arith, d.high, least_at may (components_of g) g0 (group_width g) (lefts_in g) its_way)

  pub least_width_lem : (limit : ℕ) → group_height g0 g ≤ limit → least_width_by may g0 (components_of g) limit ≤ group_width g
  least_width_lem limit h =
      rw (width_is may (components_of g) g0 limit (allowed_some may (components_of g) (lefts_in g) its_way))
      (first_le (least_height_by may g0 (components_of g)) limit (widest (components_of g)) (suc (widest (components_of g))) (group_width g) d.wide (omega (arith, d.slim)) (omega (arith, measured_least, h)))
