-- The placements of a group with a fold point reach the least height; at the least width for a height they have that width.
use Prim.Native.Nat.{ℕ, suc, ◌+◌, ◌*◌, ◌≤◌, ◌<◌, max}
use mathlib.Core.Path.{◌≡◌, refl, sym, ap, ◌∙◌, subst}
use mathlib.Core.List.{List, [], ◌∷◌, reverse_aux, map}
use mathlib.Core.Bool.{true}
use native.Mathlib.Nat.{le_antisymm}
use native.Mathlib.Omega.{arith}
use lib.ListN.{length, take, length-reverse_aux, length-take, length-drop}
use Rattle.terms.specs.declared.Component.{Component}
use Rattle.terms.specs.declared.Kind.{Kind}
use Rattle.terms.specs.declared.Kind.TheVariants.{Nested}
use Rattle.terms.proofs.Lists.{AllSized}
use Rattle.folding.specs.declared.Placed.{Placed}
use Rattle.folding.specs.declared.Placement.{Placement}
use Rattle.folding.specs.Placement.{placed_of}
use Rattle.folding.specs.Outline.{group_width, group_height}
use Rattle.folding.proofs.Sides.{Fronted}
use Rattle.group.specs.Rows.{tall, rows, place}
use Rattle.group.specs.Group.{none, left_side, right_side, widest, May, way_height, least_height_by, least_width_by, FoldPointBy, on_left, on_right, group_places}
use Rattle.group.proofs.Chains.{reached}
use Rattle.group.proofs.First.{first_met}
use Rattle.group.proofs.Sides.{both_sides, tall_sides, widest_sides}
use Rattle.group.proofs.Ways.{Stands, Suits, width_is, width_some, point_stands}
use Rattle.group.proofs.Lower.{components_of, lefts_in, Measured, measured, measured_least, least_width_lem}
use Rattle.group.proofs.Falls.{rows_most}
use Rattle.group.proofs.Reach.{Built, placed_sides, built_starts, stacked-length}

pub record Reached (kind : Kind) (m g0 c top p : ℕ) (cs : List Component) (ps : List Placement) : Type 0 where
  pub whole : length ps ≡ length cs
  pub built : Built kind m g0 c top p cs (placed_of cs ps)

abbrev places_of : ℕ → ℕ → List Component → List Component → List Placement
places_of m c l r = reverse_aux (on_left m (place c 0 0 l r).on_the_left) (on_right m (place c 0 0 l r).on_the_right)

length-starts : (side : ℕ) (m : ℕ) (ss : List ℕ) → length {A = Placement} (map (λ s. record { group = m; side = side; start = s }) ss) ≡ length ss
length-starts side m [] = refl
length-starts side m (s ∷ ss) = ap suc (length-starts side m ss)

whole_places : (m c : ℕ) (l r : List Component) → length (places_of m c l r) ≡ length (reverse_aux l r)
whole_places m c l r =
    let q = reached c l r in
    let s = place c 0 0 l r in
    omega (
      arith,
      length-reverse_aux (on_left m s.on_the_left) (on_right m s.on_the_right),
      length-reverse_aux l r,
      length-starts 0 m s.on_the_left,
      length-starts 1 m s.on_the_right,
      stacked-length 0 (rows c 0 0 l r) l s.on_the_left q.left_stacked,
      stacked-length 0 (rows c 0 0 l r) r s.on_the_right q.right_stacked,
    )

pub places_length : (c : ℕ) (cs : List Component) (m p : ℕ) → length (group_places c cs m p) ≡ length cs
unfolding group_places
places_length c cs m p = whole_places m c (left_side p cs) (right_side p cs) ∙ ap length (both_sides p cs)

reached_sides : (kind : Kind) (m g0 c : ℕ) (l r : List Component) → 0 < length l → (0 < length r → kind ≡ Nested) → tall l + tall r ≤ 1024000 → widest l ≤ c → widest r ≤ c
    → Reached kind m g0 c (way_height g0 (reverse_aux l r) c (length l)) (length l) (reverse_aux l r) (places_of m c l r)
reached_sides kind m g0 c l r n k h w v =
    let q = reached c l r in
    let s = place c 0 0 l r in
    record {
      whole = whole_places m c l r;
      built =
          rw (placed_sides m 0 0 (rows c 0 0 l r) l s.on_the_left r (on_right m s.on_the_right) q.left_stacked)
          (built_starts kind m g0 c l r s.on_the_left s.on_the_right n k q.left_stacked q.right_stacked q.clear (omega (arith, rows_most c l r, h)) w v);
    }

tall_most : (cs : List Component) → AllSized cs → tall cs ≤ 4000 * length cs
unfolding tall
tall_most [] s = omega arith
tall_most (x ∷ cs) s = omega (arith, s.0.height_most, tall_most cs s.1)

-- The sides of a way.
sides_tall : (p : ℕ) (cs : List Component) → tall (left_side p cs) + tall (right_side p cs) ≡ tall cs
sides_tall p cs = sym (tall_sides (left_side p cs) (right_side p cs)) ∙ ap tall (both_sides p cs)

sides_widest : (p : ℕ) (cs : List Component) → max (widest (left_side p cs)) (widest (right_side p cs)) ≡ widest cs
sides_widest p cs = sym (widest_sides (left_side p cs) (right_side p cs)) ∙ ap widest (both_sides p cs)

left-length : (p : ℕ) (cs : List Component) → p ≤ length cs → length (left_side p cs) ≡ p
left-length p cs h = omega (arith, length-reverse_aux (take p cs) [], length-take p cs)

-- The placements of a way are at most as high as the way.
pub way_reached : (kind : Kind) (m g0 : ℕ) (cs : List Component) (c p : ℕ) → length cs ≤ 256 → AllSized cs → widest cs ≤ c → Stands kind (length cs) p
    → Reached kind m g0 c (way_height g0 cs c p) p cs (group_places c cs m p)
unfolding group_places
way_reached kind m g0 cs c p few sized wide s =
    let n = left-length p cs s.within in
    rw (both_sides p cs, n)
    at (reached_sides kind m g0 c (left_side p cs) (right_side p cs) (omega (arith, n, s.some)) (λ h. s.folded (omega (arith, length-drop p cs)))
    (omega (arith, sides_tall p cs, tall_most cs sized))
    (omega (arith, sides_widest p cs))
    (omega (arith, sides_widest p cs)))

-- A folding of one group of components.
pub record GroupFolds (kind : Kind) (m g0 : ℕ) (cs : List Component) (ps : List Placement) (w h : ℕ) : Type 0 where
  pub whole : length ps ≡ length cs
  pub group : Fronted kind m (placed_of cs ps)
  pub width : group_width (placed_of cs ps) ≡ w
  pub height : group_height g0 (placed_of cs ps) ≡ h

-- Where there is a least width, it is one at which the limit is kept.
module _ (may : May) (g0 : ℕ) (cs : List Component) (limit : ℕ) (w : least_width_by may g0 cs limit < none) where
  met : (widest cs ≤ least_width_by may g0 cs limit) × (least_height_by may g0 cs (least_width_by may g0 cs limit) ≤ limit)
  met =
      let e = width_is may cs g0 limit (width_some may cs g0 limit w) in
      rw e (let f = first_met (least_height_by may g0 cs) limit (widest cs) (suc (widest cs)) (rw e at w) in (f.0, f.2))

  pub least_keeps : least_height_by may g0 cs (least_width_by may g0 cs limit) ≤ limit
  least_keeps = met.1

  least_wide : widest cs ≤ least_width_by may g0 cs limit
  least_wide = met.0

fronted_measured : (kind : Kind) (m g0 : ℕ) (g : List Placed) → Fronted kind m g → AllSized (components_of g) → Measured kind g0 g
fronted_measured kind m g0 g f s =
    subst (Measured kind g0) (sym f.order)
    (measured kind g0 f.first f.mates f.on_the_left f.alone f.run (subst (λ (k : List Placed). AllSized (components_of k)) f.order s))

exactly : (may : May) (kind : Kind) (m g0 : ℕ) (cs : List Component) (limit c p : ℕ) (ps : List Placement) → AllSized cs → may cs p ≡ true → least_width_by may g0 cs limit ≡ c
    → least_height_by may g0 cs c ≤ limit → Reached kind m g0 c (least_height_by may g0 cs c) p cs ps → GroupFolds kind m g0 cs ps c (least_height_by may g0 cs c)
exactly may kind m g0 cs limit c p ps s a e h q =
    let g = placed_of cs ps in
    let b = q.built in
    let d = fronted_measured kind m g0 g b.group (subst AllSized (sym b.holds) s) in
    let v : may (components_of g) (lefts_in g) ≡ true = rw (b.holds, b.lefts) a in
    let narrow : c ≤ group_width g = subst (λ (k : ℕ). k ≤ group_width g) (ap (λ (k : List Component). least_width_by may g0 k limit) b.holds ∙ e) (least_width_lem may kind g0 g d v limit (omega (arith, b.low, h))) in
    let w : group_width g ≡ c = le_antisymm b.narrow narrow in
    let high : least_height_by may g0 cs c ≤ group_height g0 g = rw (w, b.holds) at (measured_least may kind g0 g d v) in
    record { whole = q.whole; group = b.group; width = w; height = le_antisymm b.low high }

-- At the least width for a limit, the placements of a fold point have that width and the least height, and stand so.
module _ (may : May) (kind : Kind) (suits : Suits kind may) (g0 : ℕ) (cs : List Component) (limit : ℕ) (few : length cs ≤ 256) (s : AllSized cs) (w : least_width_by may g0 cs limit < none)
    (m p : ℕ) (f : FoldPointBy may g0 cs (least_width_by may g0 cs limit) p) where
  abbrev cap : ℕ
  cap = least_width_by may g0 cs limit

  point_reached : Reached kind m g0 cap (way_height g0 cs cap p) p cs (group_places cap cs m p)
  point_reached = way_reached kind m g0 cs cap p few s (least_wide may g0 cs limit w) (point_stands may cs g0 cap kind p suits f)

  pub least_reached : GroupFolds kind m g0 cs (group_places cap cs m p) cap (least_height_by may g0 cs cap)
  least_reached = exactly may kind m g0 cs limit cap p (group_places cap cs m p) s f.allowed refl (least_keeps may g0 cs limit w) (rw f.least point_reached)

  pub stands_so : lefts_in (placed_of cs (group_places cap cs m p)) ≡ p
  stands_so = point_reached.built.lefts
