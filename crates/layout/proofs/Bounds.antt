-- How wide and how high a legal group can be.
use Prim.Native.Nat.{ℕ, suc, ◌+◌, ◌*◌, ◌≤◌, ◌<◌, max}
use mathlib.Core.Path.{◌≡◌}
use mathlib.Core.List.{List, [], ◌∷◌}
use mathlib.Core.Bool.{Bool, true, false, cond}
use native.Mathlib.Omega.{arith}
use lib.ListN.{length}
use borrow.Author.Tests.{leb-true, eqb-true}
use Rattle.terms.specs.declared.Component.{Component}
use Rattle.terms.specs.declared.Kind.{Kind}
use Rattle.terms.specs.Component.{good_gap, ends, every}
use Rattle.terms.proofs.Bools.{both}
use Rattle.terms.proofs.Lists.{AllSized}
use Rattle.folding.specs.declared.Placed.{Placed}
use Rattle.folding.specs.Placement.{width_of, gap_of, left}
use Rattle.folding.specs.Outline.{top_of, takes, row_sum, group_width, group_height, last_gap, folded, fold_gap}
use Rattle.folding.proofs.Rules.{Alone}
use Rattle.folding.proofs.Groups.{Run}
use Rattle.folding.proofs.Rows.{greatest_le}
use Rattle.group.proofs.Lower.{components_of}

-- No gap of a stack is over 4,000.
abbrev pub AllGaps : List Component → Type 0
AllGaps [] = Unit {0}
AllGaps (c ∷ cs) = (c.gap.0 ≤ 4000) × AllGaps cs

gap_most : (c : Component) (last : Bool) → good_gap c last ≡ true → c.gap.0 ≤ 4000
gap_most c true e = let z : c.gap.0 ≡ 0 = eqb-true _ _ e in omega arith
gap_most c false e = leb-true _ _ e

pub all_gaps : (cs : List Component) → every good_gap cs ≡ true → AllGaps cs
unfolding every
all_gaps [] e = tt
all_gaps (c ∷ cs) e = let b = both (good_gap c (ends cs)) (every good_gap cs) e in (gap_most c (ends cs) b.0, all_gaps cs b.1)

-- No group is wider than all its widths together.
row_most : (g : List Placed) (r : ℕ) → AllSized (components_of g) → row_sum g r ≤ 4000 * length (components_of g)
unfolding row_sum
row_most [] r s = omega arith
row_most (x ∷ g) r s = go (takes x r) (row_most g r s.1)
  where
    go : (b : Bool) → row_sum g r ≤ 4000 * length (components_of g) → cond b (width_of x) 0 + row_sum g r ≤ 4000 * suc (length (components_of g))
    go true i = omega (arith, s.0.width_most)
    go false i = omega arith

pub width_most : (g : List Placed) → AllSized (components_of g) → group_width g ≤ 4000 * length (components_of g)
width_most g s = greatest_le (row_sum g) (top_of g) (4000 * length (components_of g)) (λ r h. row_most g r s)

-- The height.
module _ (kind : Kind) where
  top_most : (x : Placed) (a : List Placed) → Alone kind x → Run kind x a → AllSized (components_of (x ∷ a)) → top_of (x ∷ a) ≤ 1028000
  unfolding top_of
  top_most x [] e r s = omega (arith, e.low, s.0.height_most)
  top_most x (y ∷ a) e r s = omega (arith, e.low, s.0.height_most, top_most y a r.2 r.3 s.1)

  last_most : (l : List Placed) → AllGaps (components_of l) → last_gap l ≤ 4000
  unfolding last_gap
  last_most [] g = omega arith
  last_most (x ∷ []) g = g.0
  last_most (x ∷ y ∷ l) g = last_most (y ∷ l) g.1

  fold_most : (l : List Placed) → AllGaps (components_of l) → fold_gap l ≤ 4000
  unfolding fold_gap
  fold_most [] g = omega arith
  fold_most (x ∷ []) g = g.0
  fold_most (x ∷ y ∷ l) g = go (left y) (fold_most (y ∷ l) g.1)
    where
      go : (b : Bool) → fold_gap (y ∷ l) ≤ 4000 → cond b (fold_gap (y ∷ l)) (gap_of x) ≤ 4000
      go true i = i
      go false i = g.0

  pub group_most : (g0 : ℕ) (x : Placed) (a : List Placed) → g0 ≤ 4000 → Alone kind x → Run kind x a → AllSized (components_of (x ∷ a)) → AllGaps (components_of (x ∷ a)) → group_height g0 (x ∷ a) ≤ 1036000
  group_most g0 x a h e r s g = go (folded (x ∷ a)) (top_most x a e r s) (last_most (x ∷ a) g) (fold_most (x ∷ a) g)
    where
      go : (b : Bool) → top_of (x ∷ a) ≤ 1028000 → last_gap (x ∷ a) ≤ 4000 → fold_gap (x ∷ a) ≤ 4000
          → cond b (top_of (x ∷ a) + max g0 (last_gap (x ∷ a)) + fold_gap (x ∷ a)) (top_of (x ∷ a) + g0 + last_gap (x ∷ a)) ≤ 1036000
      go true t u v = omega arith
      go false t u v = omega arith

  pub group_some : (g0 : ℕ) (x : Placed) (a : List Placed) → AllSized (components_of (x ∷ a)) → 0 < group_height g0 (x ∷ a)
  unfolding top_of
  group_some g0 x a s = go (folded (x ∷ a)) s.0.height_some
    where
      go : (b : Bool) → 1 ≤ x.component.height.0
          → 0 < cond b (top_of (x ∷ a) + max g0 (last_gap (x ∷ a)) + fold_gap (x ∷ a)) (top_of (x ∷ a) + g0 + last_gap (x ∷ a))
      go true h = omega arith
      go false h = omega arith
