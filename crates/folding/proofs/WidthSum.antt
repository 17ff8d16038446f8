-- No folding is wider than all its components side by side, nor narrower than its first one.
use Prim.Native.Nat.{ℕ, ◌+◌, ◌≤◌, ◌<◌}
use mathlib.Core.Path.{◌≡◌, refl}
use mathlib.Core.List.{List, [], ◌∷◌}
use mathlib.Core.Bool.{Bool, true, false, cond}
use native.Mathlib.Omega.{arith}
use lib.ListN.{length}
use Rattle.terms.specs.declared.Component.{Component}
use Rattle.terms.specs.Component.{width_sum}
use Rattle.terms.proofs.Lists.{AllSized}
use Rattle.folding.specs.declared.Placed.{Placed}
use Rattle.folding.specs.declared.Placement.{Placement}
use Rattle.folding.specs.Placement.{width_of, start_of, end_of, placed_of}
use Rattle.folding.specs.Legal.{same_group}
use Rattle.folding.specs.Outline.{joined, groups_of, top_of, takes, row_sum, group_width, layout_width, outline_of}
use Rattle.folding.proofs.Rows.{greatest_le, takes_of, row_most}
use Rattle.folding.proofs.Groups.{groups_head}

-- The widths of placed components, and of groups of them.
unfoldable sum_of : List Placed → ℕ
sum_of [] = 0
sum_of (x ∷ l) = width_of x + sum_of l

unfoldable sum_of_all : List (List Placed) → ℕ
sum_of_all [] = 0
sum_of_all (g ∷ gs) = sum_of g + sum_of_all gs

row_within : (g : List Placed) (r : ℕ) → row_sum g r ≤ sum_of g
unfolding row_sum sum_of
row_within [] r = omega arith
row_within (x ∷ g) r = go (takes x r) (row_within g r)
  where
    go : (b : Bool) → row_sum g r ≤ sum_of g → cond b (width_of x) 0 + row_sum g r ≤ width_of x + sum_of g
    go true h = omega arith
    go false h = omega arith

layout_most : (gs : List (List Placed)) → layout_width gs ≤ sum_of_all gs
unfolding layout_width sum_of_all
layout_most [] = omega arith
layout_most (g ∷ gs) = omega (arith, greatest_le (row_sum g) (top_of g) (sum_of g) (λ r h. row_within g r), layout_most gs)

-- A component in front adds its width, whichever group it joins.
joined_sum : (x : Placed) (gs : List (List Placed)) → sum_of_all (joined x gs) ≡ width_of x + sum_of_all gs
unfolding sum_of_all sum_of
joined_sum x [] = omega arith
joined_sum x ([] ∷ gs) = omega arith
joined_sum x ((y ∷ g) ∷ gs) = go (same_group x y)
  where
    go : (b : Bool) → sum_of_all (cond b ((x ∷ y ∷ g) ∷ gs) ((x ∷ []) ∷ (y ∷ g) ∷ gs)) ≡ width_of x + sum_of_all ((y ∷ g) ∷ gs)
    go true = omega arith
    go false = omega arith

groups_sum : (l : List Placed) → sum_of_all (groups_of l) ≡ sum_of l
unfolding groups_of sum_of_all sum_of
groups_sum [] = refl
groups_sum (x ∷ l) = omega (arith, joined_sum x (groups_of l), groups_sum l)

placed_sum : (cs : List Component) (ps : List Placement) → sum_of (placed_of cs ps) ≤ width_sum cs
unfolding placed_of sum_of width_sum
placed_sum [] ps = omega arith
placed_sum (c ∷ cs) [] = omega arith
placed_sum (c ∷ cs) (p ∷ ps) = omega (arith, placed_sum cs ps)

pub width_most : (cs : List Component) (ps : List Placement) → (outline_of cs ps).width.0 ≤ width_sum cs
width_most cs ps = omega (arith, layout_most (groups_of (placed_of cs ps)), groups_sum (placed_of cs ps), placed_sum cs ps)

-- The row where the first component starts has its width.
first_row : (x : Placed) (g : List Placed) → start_of x < end_of x → width_of x ≤ group_width (x ∷ g)
unfolding row_sum
first_row x g h =
    let e : width_of x ≤ row_sum (x ∷ g) (start_of x) = rw (takes_of x (start_of x) (omega arith) h) (omega arith) in
    omega (arith, row_most (x ∷ g) (start_of x))

pub width_some : (cs : List Component) (ps : List Placement) → AllSized cs → 0 < length cs → length ps ≡ length cs → 0 < (outline_of cs ps).width.0
unfolding placed_of layout_width
width_some [] ps s h e = absurd (omega arith)
width_some (c ∷ cs) [] s h e = absurd (omega arith)
width_some (c ∷ cs) (p ∷ ps) s h e =
    let x : Placed = record { component = c; placement = p } in
    let g = groups_head x (placed_of cs ps) in
    rw g.2 (omega (arith, first_row x g.0 (omega (arith, s.0.height_some)), s.0.width_some))
