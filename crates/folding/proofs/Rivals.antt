-- What "best", "unmeetable", "smallest" and "unbeaten" rule out: a legal folding of w slices and h rows is a rival that no
-- claim outlives. And what a start row and the rule of turning rule out.
use Rattle.std.specs.Prelude.{ℕ, ◌*◌, ◌≤◌, ◌<◌, max, ◌≡◌, refl, ◌⊎◌, List, [], ◌∷◌, ◌++◌, Bool, true, false, not, ◌||◌}
use mathlib.Core.Path.{sym, ◌∙◌}
use mathlib.Core.Bool.{true≢false}
use Rattle.terms.proofs.Bools.{both, and_is}
use Rattle.std.proofs.Common.{ap, subst, inl, inr, arith}
use Rattle.terms.specs.declared.Component.{Component}
use Rattle.terms.specs.declared.Kind.{Kind}
use Rattle.terms.specs.declared.Kind.TheVariants.{Apart, Nested}
use Rattle.folding.specs.declared.Placed.{Placed}
use Rattle.folding.specs.declared.Placement.{Placement}
use Rattle.folding.specs.declared.Outline.{Outline}
use Rattle.folding.specs.Placement.{start_of, left, placed_of}
use Rattle.folding.specs.Legal.{each, each_pair, same_group, on_side, turned, legal}
use Rattle.folding.proofs.Rules.{legal_holds, legal_turned}
use Rattle.folding.specs.Outline.{outline_of}
use Rattle.folding.specs.StartRows.{StartRow}
use Rattle.folding.specs.Best.{Wider, Higher, Larger, Other, BestForHeight, BestForWidth, UnmeetableHeight, UnmeetableWidth, SmallestArea, Unbeaten}
use Rattle.folding.specs.Examples.{Folds, p, stack_A, stack_B, stack_E, A_apart_2_3, B_apart_1_10, B_apart_3_4, E_apart_3_4}

abbrev o : ℕ → ℕ → Outline
o w h = record { width = record { 0 = w }; height = record { 0 = h } }

module _ {kind : Kind} {cs : List Component} {qs : List Placement} {w h : ℕ} (f : Folds kind cs qs w h) where
  wide : (outline_of cs qs).width.0 ≡ w
  wide = ap (λ (x : Outline). x.width.0) f.has

  high : (outline_of cs qs).height.0 ≡ h
  high = ap (λ (x : Outline). x.height.0) f.has

  not_best_for_height : (limit w' h' : ℕ) (ps : List Placement) → h ≤ limit → (w < w') ⊎ ((w ≡ w') × (h < h'))
      → BestForHeight kind cs limit ps (o w' h') → ⊥
  not_best_for_height limit w' h' ps k r b = go r (b.best qs f.is_legal (omega (arith, high)))
    where
      go : (w < w') ⊎ ((w ≡ w') × (h < h')) → Wider (o w' h') (outline_of cs qs) → ⊥
      go (inl x) (inl y) = omega (arith, wide)
      go (inl x) (inr y) = omega (arith, wide, y.0)
      go (inr x) (inl y) = omega (arith, wide, x.0)
      go (inr x) (inr y) = omega (arith, high, x.1, y.1)

  not_best_for_width : (limit w' h' : ℕ) (ps : List Placement) → w ≤ limit → (h < h') ⊎ ((h ≡ h') × (w < w'))
      → BestForWidth kind cs limit ps (o w' h') → ⊥
  not_best_for_width limit w' h' ps k r b = go r (b.best qs f.is_legal (omega (arith, wide)))
    where
      go : (h < h') ⊎ ((h ≡ h') × (w < w')) → Higher (o w' h') (outline_of cs qs) → ⊥
      go (inl x) (inl y) = omega (arith, high)
      go (inl x) (inr y) = omega (arith, high, y.0)
      go (inr x) (inl y) = omega (arith, high, x.0)
      go (inr x) (inr y) = omega (arith, wide, x.1, y.1)

  not_unmeetable : UnmeetableHeight kind cs h → ⊥
  not_unmeetable u = u qs f.is_legal (omega (arith, high))

  not_too_narrow : UnmeetableWidth kind cs w → ⊥
  not_too_narrow u = u qs f.is_legal (omega (arith, wide))

  not_smallest : (w' h' : ℕ) (ps : List Placement) → (w * h < w' * h') ⊎ ((w * h ≡ w' * h') × (w < w')) → SmallestArea kind cs ps (o w' h') → ⊥
  not_smallest w' h' ps r b = go r (subst (Larger (o w' h')) f.has (b.smallest qs f.is_legal))
    where
      go : (w * h < w' * h') ⊎ ((w * h ≡ w' * h') × (w < w')) → Larger (o w' h') (o w h) → ⊥
      go (inl x) (inl y) = omega arith
      go (inl x) (inr y) = omega (arith, y.0)
      go (inr x) (inl y) = omega (arith, x.0)
      go (inr x) (inr y) = omega (arith, x.1, y.1)

  not_unbeaten : (w' h' : ℕ) → w < w' → h ≤ h' → Unbeaten kind cs (o w' h') → ⊥
  not_unbeaten w' h' x y u = go (u.unbeaten qs f.is_legal)
    where
      go : Other (o w' h') (outline_of cs qs) → ⊥
      go (inl z) = omega (arith, wide)
      go (inr (inl z)) = omega (arith, high)
      go (inr (inr z)) = omega (arith, wide, ap (λ (e : Outline). e.width.0) z)

-- B within 10 rows needs one slice and not two; A, two slices wide, needs 3 rows and not 4.
B_two_slices : (ps : List Placement) → BestForHeight Apart stack_B 10 ps (o 2 6) → ⊥
B_two_slices ps = not_best_for_height B_apart_1_10 10 2 6 ps (omega arith) (inl (omega arith))

A_four_rows : (ps : List Placement) → BestForHeight Apart stack_A 5 ps (o 2 4) → ⊥
A_four_rows ps = not_best_for_height A_apart_2_3 5 2 4 ps (omega arith) (inr (refl, omega arith))

-- B within 4 slices needs 4 rows and not 6, and for these 3 slices and not 4.
B_six_rows : (ps : List Placement) → BestForWidth Apart stack_B 4 ps (o 2 6) → ⊥
B_six_rows ps = not_best_for_width B_apart_3_4 4 2 6 ps (omega arith) (inl (omega arith))

B_four_slices : (ps : List Placement) → BestForWidth Apart stack_B 4 ps (o 4 4) → ⊥
B_four_slices ps = not_best_for_width B_apart_3_4 4 4 4 ps (omega arith) (inr (refl, omega arith))

A_can_be_met : (UnmeetableHeight Apart stack_A 3 → ⊥) × (UnmeetableWidth Apart stack_A 2 → ⊥)
A_can_be_met = (not_unmeetable A_apart_2_3, not_too_narrow A_apart_2_3)

-- Four slices and 4 rows are beaten by three.
B_beaten : Unbeaten Apart stack_B (o 4 4) → ⊥
B_beaten = not_unbeaten B_apart_3_4 4 4 (omega arith) (omega arith)

-- Twelve cells are not the smallest area of B, which stands in ten; and E is narrower than six slices in twelve cells.
B_twelve_cells : (ps : List Placement) → SmallestArea Apart stack_B ps (o 3 4) → ⊥
B_twelve_cells ps = not_smallest B_apart_1_10 3 4 ps (inl (omega arith))

E_six_slices : (ps : List Placement) → SmallestArea Apart stack_E ps (o 6 2) → ⊥
E_six_slices ps = not_smallest E_apart_3_4 6 2 ps (inr (refl, omega arith))

highest_start : List Placed → ℕ
highest_start [] = 0
highest_start (x ∷ g) = max (start_of x) (highest_start g)

start_in : (before : List Placed) (x : Placed) (behind : List Placed) → start_of x ≤ highest_start (before ++ (x ∷ behind))
unfolding highest_start
start_in [] x behind = omega arith
start_in (y ∷ before) x behind = omega (arith, start_in before x behind)

no_start_above : (g : List Placed) (row : ℕ) → highest_start g < row → StartRow g row → ⊥
no_start_above g row h s = omega (arith, s.starts, start_in s.before s.component s.behind, ap highest_start s.of_group)

-- A's component takes row 2, and starts in row 0.
A_row_two : StartRow (placed_of stack_A (p 0 0 0 ∷ [])) 2 → ⊥
unfolding placed_of highest_start
A_row_two = no_start_above (placed_of stack_A (p 0 0 0 ∷ [])) 2 (omega arith)

-- Ticket 5: an apart folding of several groups is no nested one, since all its components are on the left.
one_group : (l : List Placed) → each (on_side Apart) l ≡ true → each_pair (turned Nested) l ≡ true → each_pair same_group l ≡ true
unfolding each each_pair
one_group [] s t = refl
one_group (x ∷ []) s t = refl
one_group (x ∷ y ∷ l) s t =
    let a = both (left x) (each (on_side Apart) (y ∷ l)) s in
    let b = both (turned Nested x y) (each_pair (turned Nested) (y ∷ l)) t in
    and_is (together (same_group x y) (left x) a.0 b.0) (one_group (y ∷ l) a.1 b.1)
  where
    together : (a b : Bool) → b ≡ true → (a || not b) ≡ true → a ≡ true
    together true b e f = refl
    together false true e f = f
    together false false e f = e

pub groups_apart : (l : List Placed) → each_pair same_group l ≡ false → legal Apart l ≡ true → legal Nested l ≡ true → ⊥
groups_apart l s a n = true≢false (sym (one_group l (legal_holds Apart l a).sides (legal_turned Nested l n)) ∙ s)
