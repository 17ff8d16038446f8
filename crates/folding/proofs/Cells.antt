-- No folding has fewer cells in its outline than its components have, nor is it lower than the tallest one.
use Prim.Native.Nat.{ℕ, zero, suc, ◌+◌, ◌-◌, ◌*◌, ◌≤◌, max, min}
use mathlib.Core.Path.{◌≡◌, refl, sym, ◌∙◌}
use mathlib.Core.List.{List, [], ◌∷◌}
use mathlib.Core.Bool.{Bool, true, false, cond, false≢true}
use native.Mathlib.Nat.{add-mul, mul-suc, mul_comm, mul-le-mul_right}
use native.Mathlib.Decide.{dec_le, dec_lt}
use native.Mathlib.Omega.{arith}
use lib.ListN.{length}
use Rattle.terms.specs.declared.Component.{Component}
use Rattle.terms.specs.Component.{cell_sum, tallest}
use Rattle.folding.specs.declared.Placed.{Placed}
use Rattle.folding.specs.declared.Placement.{Placement}
use Rattle.folding.specs.Placement.{height_of, width_of, start_of, end_of, placed_of}
use Rattle.folding.specs.Legal.{same_group}
use Rattle.folding.specs.Outline.{joined, groups_of, top_of, takes, row_sum, group_width, last_gap, folded, fold_gap, group_height, layout_width, layout_height, outline_of}
use Rattle.folding.proofs.Sums.{total, total_most}
use Rattle.folding.proofs.Rows.{takes_is, takes_of, row_most}

-- The cells of placed components, and of groups of them.
unfoldable cells_in : List Placed → ℕ
cells_in [] = 0
cells_in (x ∷ l) = width_of x * height_of x + cells_in l

unfoldable cells_in_all : List (List Placed) → ℕ
cells_in_all [] = 0
cells_in_all (g ∷ gs) = cells_in g + cells_in_all gs

-- The width that a component has in a row.
abbrev width_at : Placed → ℕ → ℕ
width_at x r = cond (takes x r) (width_of x) 0

-- Row n is one more row of the component where the component takes it, and none where not.
component_rows : (x : Placed) (n : ℕ) → total (width_at x) n ≡ width_of x * (min n (end_of x) - start_of x)
unfolding total
component_rows x zero = let e : min 0 (end_of x) - start_of x ≡ 0 = omega arith in rw e (omega arith)
component_rows x (suc n) = go (takes x n) refl (component_rows x n)
  where
    go : (b : Bool) → takes x n ≡ b → total (width_at x) n ≡ width_of x * (min n (end_of x) - start_of x)
        → total (width_at x) n + cond b (width_of x) 0 ≡ width_of x * (min (suc n) (end_of x) - start_of x)
    go true e i =
        let t = takes_is x n e in
        let m : min (suc n) (end_of x) - start_of x ≡ suc (min n (end_of x) - start_of x) = omega arith in
        rw m (omega (arith, mul-suc (width_of x) (min n (end_of x) - start_of x)))
    go false e i =
        let m : min (suc n) (end_of x) - start_of x ≡ min n (end_of x) - start_of x = elim (dec_le (start_of x) n) [
          | yes h ↦ elim (dec_lt n (end_of x)) [ yes k ↦ absurd (false≢true (sym e ∙ takes_of x n h k)) | no k ↦ omega arith ]
          | no h ↦ omega arith
        ] in
        rw m (omega arith)

component_cells : (x : Placed) (n : ℕ) → end_of x ≤ n → total (width_at x) n ≡ width_of x * height_of x
component_cells x n h =
    let e : min n (end_of x) - start_of x ≡ height_of x = omega arith in
    component_rows x n ∙ rw e

rows_more : (x : Placed) (g : List Placed) (n : ℕ) → total (row_sum (x ∷ g)) n ≡ total (width_at x) n + total (row_sum g) n
unfolding total row_sum
rows_more x g zero = refl
rows_more x g (suc n) = omega (arith, rows_more x g n)

-- Rows from the top on are empty, so that any number of rows that reaches the top will do.
rows_cells : (g : List Placed) (n : ℕ) → top_of g ≤ n → total (row_sum g) n ≡ cells_in g
unfolding top_of cells_in row_sum
rows_cells [] n h = omega (arith, total_most (row_sum []) n 0 (λ r l. omega arith))
rows_cells (x ∷ g) n h = omega (arith, rows_more x g n, component_cells x n (omega arith), rows_cells g n (omega arith))

-- The cells of a group are its row sums together; each sum is at most the group's width.
group_cells : (g : List Placed) → cells_in g ≡ total (row_sum g) (top_of g)
group_cells g = sym (rows_cells g (top_of g) (omega arith))

group_cells_most : (g : List Placed) → cells_in g ≤ top_of g * group_width g
group_cells_most g = omega (arith, group_cells g, total_most (row_sum g) (top_of g) (group_width g) (λ r l. row_most g r))

-- The highest top among groups: what each group's height, and so the layout's, reaches at least.
unfoldable highest : List (List Placed) → ℕ
highest [] = 0
highest (g ∷ gs) = max (top_of g) (highest gs)

group_top : (g0 : ℕ) (g : List Placed) → top_of g ≤ group_height g0 g
group_top g0 g = go (folded g)
  where
    go : (b : Bool) → top_of g ≤ cond b (top_of g + max g0 (last_gap g) + fold_gap g) (top_of g + g0 + last_gap g)
    go true = omega arith
    go false = omega arith

layout_top : (g0 : ℕ) (gs : List (List Placed)) → highest gs ≤ layout_height g0 gs
unfolding highest layout_height
layout_top g0 [] = omega arith
layout_top g0 (g ∷ gs) = omega (arith, group_top g0 g, layout_top (last_gap g) gs)

-- Groups side by side, each within the layout's height.
layout_cells : (gs : List (List Placed)) (h : ℕ) → highest gs ≤ h → cells_in_all gs ≤ layout_width gs * h
unfolding highest layout_width cells_in_all
layout_cells [] h k = omega arith
layout_cells (g ∷ gs) h k =
    let t : top_of g ≤ h = omega arith in
    omega (arith, group_cells_most g, mul-le-mul_right (group_width g) t, mul_comm h (group_width g), add-mul (group_width g) (layout_width gs) h, layout_cells gs h (omega arith))

-- A component in front adds its cells, whichever group it joins.
joined_cells : (x : Placed) (gs : List (List Placed)) → cells_in_all (joined x gs) ≡ width_of x * height_of x + cells_in_all gs
unfolding cells_in_all cells_in
joined_cells x [] = omega arith
joined_cells x ([] ∷ gs) = omega arith
joined_cells x ((y ∷ g) ∷ gs) = go (same_group x y)
  where
    go : (b : Bool) → cells_in_all (cond b ((x ∷ y ∷ g) ∷ gs) ((x ∷ []) ∷ (y ∷ g) ∷ gs)) ≡ width_of x * height_of x + cells_in_all ((y ∷ g) ∷ gs)
    go true = omega arith
    go false = omega arith

groups_cells : (l : List Placed) → cells_in_all (groups_of l) ≡ cells_in l
unfolding groups_of cells_in_all cells_in
groups_cells [] = refl
groups_cells (x ∷ l) = omega (arith, joined_cells x (groups_of l), groups_cells l)

-- Its end is among the tops alike.
joined_top : (x : Placed) (gs : List (List Placed)) → highest (joined x gs) ≡ max (end_of x) (highest gs)
unfolding highest top_of
joined_top x [] = omega arith
joined_top x ([] ∷ gs) = omega arith
joined_top x ((y ∷ g) ∷ gs) = go (same_group x y)
  where
    go : (b : Bool) → highest (cond b ((x ∷ y ∷ g) ∷ gs) ((x ∷ []) ∷ (y ∷ g) ∷ gs)) ≡ max (end_of x) (highest ((y ∷ g) ∷ gs))
    go true = omega arith
    go false = omega arith

groups_top : (l : List Placed) → highest (groups_of l) ≡ top_of l
unfolding groups_of highest top_of
groups_top [] = refl
groups_top (x ∷ l) = omega (arith, joined_top x (groups_of l), groups_top l)

placed_cells : (cs : List Component) (ps : List Placement) → length ps ≡ length cs → cells_in (placed_of cs ps) ≡ cell_sum cs
unfolding placed_of cells_in cell_sum
placed_cells [] ps e = refl
placed_cells (c ∷ cs) [] e = absurd (omega arith)
placed_cells (c ∷ cs) (p ∷ ps) e = omega (arith, placed_cells cs ps (omega arith))

placed_top : (cs : List Component) (ps : List Placement) → length ps ≡ length cs → tallest cs ≤ top_of (placed_of cs ps)
unfolding placed_of top_of tallest
placed_top [] ps e = omega arith
placed_top (c ∷ cs) [] e = absurd (omega arith)
placed_top (c ∷ cs) (p ∷ ps) e = omega (arith, placed_top cs ps (omega arith))

-- No folding has fewer cells in its outline than its components have.
pub cells_most : (cs : List Component) (ps : List Placement) → length ps ≡ length cs → cell_sum cs ≤ (outline_of cs ps).width.0 * (outline_of cs ps).height.0
cells_most cs ps e =
    let gs = groups_of (placed_of cs ps) in
    omega (arith, placed_cells cs ps e, groups_cells (placed_of cs ps), layout_cells gs (layout_height 0 gs) (layout_top 0 gs))

-- No folding is lower than its tallest component.
pub tallest_most : (cs : List Component) (ps : List Placement) → length ps ≡ length cs → tallest cs ≤ (outline_of cs ps).height.0
tallest_most cs ps e = omega (arith, placed_top cs ps e, groups_top (placed_of cs ps), layout_top 0 (groups_of (placed_of cs ps)))
