-- A walk along the two sides of a group: it goes the same way from each row.
use Prim.Native.Nat.{ℕ, ◌+◌, ◌-◌, ◌≤◌, ◌<◌, max}
use mathlib.Core.Path.{◌≡◌, sym, ap, ◌∙◌}
use mathlib.Core.Logic.{◌⊎◌, inl, inr}
use mathlib.Core.List.{List, [], ◌∷◌}
use native.Mathlib.Omega.{arith}
use lib.ListN.{length, get_or}
use Rattle.terms.specs.declared.Component.{Component}
use Rattle.terms.specs.Seams.{component_in}
use Rattle.group.specs.Rows.{ht, wd, rows}
use Rattle.group.specs.Group.{left_side, right_side}
use Rattle.group.specs.Table.{bare}
use Rattle.terms.proofs.Order.{order}
use Rattle.group.proofs.Chains.{rows_left, rows_right, rows_clash}
use Rattle.group.proofs.Indices.{at_left, at_right}
use Rattle.group_table.specs.declared.Standing.{Standing}
use Rattle.group_table.specs.declared.Stop.{Stop}
use Rattle.group_table.specs.Walks.{WalkAsks, Walked}

-- Rows from row k on.
abbrev Shifts : ℕ → ℕ → List Component → List Component → Type 0
Shifts cap k l r = (a b : ℕ) → rows cap (k + a) (k + b) l r ≡ k + rows cap a b l r

shift_step : (cap k : ℕ) (x : Component) (l : List Component) (y : Component) (r : List Component) → Shifts cap k l (y ∷ r) → Shifts cap k (x ∷ l) r → Shifts cap k (x ∷ l) (y ∷ r)
shift_step cap k x l y r il ir a b = go (order (wd x + wd y) cap) (order (a + ht x) (b + ht y))
  where
    go : (wd x + wd y ≤ cap) ⊎ (cap < wd x + wd y) → (a + ht x ≤ b + ht y) ⊎ (b + ht y < a + ht x) → rows cap (k + a) (k + b) (x ∷ l) (y ∷ r) ≡ k + rows cap a b (x ∷ l) (y ∷ r)
    go (inr p) q = omega (arith, rows_clash cap a b x l y r p, rows_clash cap (k + a) (k + b) x l y r p)
    go (inl p) (inl q) =
        let z : k + a + ht x ≡ k + (a + ht x) = omega arith in
        rows_left cap (k + a) (k + b) x l y r p (omega arith) ∙ ap (λ (i : ℕ). rows cap i (k + b) l (y ∷ r)) z ∙ il (a + ht x) b ∙ ap (λ (i : ℕ). k + i) (sym (rows_left cap a b x l y r p q))
    go (inl p) (inr q) =
        let z : k + b + ht y ≡ k + (b + ht y) = omega arith in
        rows_right cap (k + a) (k + b) x l y r p (omega arith) ∙ ap (λ (i : ℕ). rows cap (k + a) i (x ∷ l) r) z ∙ ir a (b + ht y) ∙ ap (λ (i : ℕ). k + i) (sym (rows_right cap a b x l y r p q))

shifts : (cap k : ℕ) (l r : List Component) → Shifts cap k l r
unfolding rows
shifts cap k [] r a b = omega arith
shifts cap k (x ∷ l) [] a b = omega arith
shifts cap k (x ∷ l) (y ∷ r) a b = shift_step cap k x l y r (shifts cap k l (y ∷ r)) (shifts cap k (x ∷ l) r) a b

from_row : (cap k : ℕ) (l r : List Component) → rows cap k k l r ≡ k + rows cap 0 0 l r
from_row cap k l r = let z : k + 0 ≡ k = omega arith in rw z at (shifts cap k l r 0 0)

abbrev pub stop_at : Standing → ℕ → Stop
stop_at at fit = record { at = at; fit = record { 0 = fit } }

pub walk_start : {hs ws : List ℕ} {p q row : ℕ} (cap fit : ℕ) → WalkAsks hs ws p q row → Walked hs ws p q row cap fit (stop_at (record { left = p; right = q; left_row = row; right_row = row }) fit)
walk_start {hs} {ws} {p} {q} {row} cap fit r = record {
  left_in = omega arith;
  right_from = omega arith;
  right_in = r.more;
  left_low = omega arith;
  right_low = omega arith;
  more_fits = omega arith;
  fits = λ h. h;
  same = λ c h. from_row c row (left_side p (bare hs ws)) (right_side q (bare hs ws));
}

module _ {hs ws : List ℕ} {p q row cap fit fit' : ℕ} {at : Standing} (r : WalkAsks hs ws p q row) (i : Walked hs ws p q row cap fit (stop_at at fit')) (some : 0 < at.left) (more : at.right < length hs) (fits : get_or ws (at.left - 1) 0 + get_or ws at.right 0 ≤ cap)
    (f : ℕ) (is-fit : f ≡ max fit' (get_or ws (at.left - 1) 0 + get_or ws at.right 0)) where
  pub to_left : (a' : ℕ) → a' ≡ at.left_row + get_or hs (at.left - 1) 0 → a' ≤ at.right_row + get_or hs at.right 0 → Walked hs ws p q row cap fit (stop_at (record { left = at.left - 1; right = at.right; left_row = a'; right_row = at.right_row }) f)
  to_left a' e o = record {
    left_in = omega (arith, i.left_in);
    right_from = i.right_from;
    right_in = i.right_in;
    left_low = omega (arith, i.left_low, r.columns.low (at.left - 1));
    right_low = i.right_low;
    more_fits = omega (arith, i.more_fits);
    fits = λ h. omega (arith, i.fits h);
    same = λ c h. rw e (sym (at_left (component_in hs ws []) (length hs) c at.left_row at.right_row at.left at.right some (omega (arith, i.left_in, r.within)) more (omega arith) (omega arith)) ∙ i.same c (omega arith));
  }

  pub to_right : (b' : ℕ) → b' ≡ at.right_row + get_or hs at.right 0 → b' < at.left_row + get_or hs (at.left - 1) 0 → Walked hs ws p q row cap fit (stop_at (record { left = at.left; right = at.right + 1; left_row = at.left_row; right_row = b' }) f)
  to_right b' e o = record {
    left_in = i.left_in;
    right_from = omega (arith, i.right_from);
    right_in = omega arith;
    left_low = i.left_low;
    right_low = omega (arith, i.right_low, r.columns.low at.right);
    more_fits = omega (arith, i.more_fits);
    fits = λ h. omega (arith, i.fits h);
    same = λ c h. rw e (sym (at_right (component_in hs ws []) (length hs) c at.left_row at.right_row at.left at.right some (omega (arith, i.left_in, r.within)) more (omega arith) (omega arith)) ∙ i.same c (omega arith));
  }
