-- A group in order and its two sides, lowest first: `reverse_aux l r` has the sides l and r.
use Prim.Native.Nat.{ℕ, suc, ◌+◌, max}
use mathlib.Core.Path.{◌≡◌, refl, ◌∙◌}
use mathlib.Core.List.{List, [], ◌∷◌, ◌++◌, reverse_aux, append-nil}
use native.Mathlib.Nat.{add-suc, suc-add, add-zero}
use native.Mathlib.Omega.{arith}
use lib.ListN.{length, take, drop, take-append-drop}
use Rattle.terms.specs.declared.Component.{Component}
use Rattle.model.specs.Groups.{gap_behind}
use Rattle.group.specs.Rows.{gap, tall}
use Rattle.group.specs.Group.{left_side, right_side, gap_after, widest}

module _ {A : Type 0} where
  take-sides : (l r : List A) (n : ℕ) → take (length l + n) (reverse_aux l r) ≡ reverse_aux l (take n r)
  take-sides [] r n = rw (native.Mathlib.Nat.zero-add n)
  take-sides (x ∷ l) r n = rw (suc-add (length l) n, ← add-suc (length l) n) (take-sides l (x ∷ r) (suc n))

  drop-sides : (l r : List A) (n : ℕ) → drop (length l + n) (reverse_aux l r) ≡ drop n r
  drop-sides [] r n = rw (native.Mathlib.Nat.zero-add n)
  drop-sides (x ∷ l) r n = rw (suc-add (length l) n, ← add-suc (length l) n) (drop-sides l (x ∷ r) (suc n))

  pub twice : (l k m : List A) → reverse_aux (reverse_aux l k) m ≡ reverse_aux k (l ++ m)
  twice [] k m = refl
  twice (x ∷ l) k m = twice l (x ∷ k) m

pub take_left : (l r : List Component) → take (length l) (reverse_aux l r) ≡ reverse_aux l []
take_left l r = rw (← add-zero (length l)) (take-sides l r 0)

pub left_side_lem : (l r : List Component) → left_side (length l) (reverse_aux l r) ≡ l
left_side_lem l r = rw (take_left l r) (twice l [] [] ∙ append-nil l)

pub right_side_lem : (l r : List Component) → right_side (length l) (reverse_aux l r) ≡ r
right_side_lem l r = rw (← add-zero (length l)) (drop-sides l r 0)

-- The other way: the sides of a fold behind p components make the group.
pub both_sides : (p : ℕ) (cs : List Component) → reverse_aux (left_side p cs) (right_side p cs) ≡ cs
both_sides p cs = twice (take p cs) [] (drop p cs) ∙ take-append-drop p cs

-- Heights, the last gap and the greatest width of the two sides together.
pub tall_sides : (l r : List Component) → tall (reverse_aux l r) ≡ tall l + tall r
unfolding tall
tall_sides [] r = omega arith
tall_sides (x ∷ l) r = omega (arith, tall_sides l (x ∷ r))

pub gap_sides : (l : List Component) (x : Component) (r : List Component) → gap_after (reverse_aux l (x ∷ r)) ≡ gap_after (x ∷ r)
unfolding gap_behind
gap_sides [] x r = refl
gap_sides (y ∷ l) x r = gap_sides l y (x ∷ r)

pub widest_sides : (l r : List Component) → widest (reverse_aux l r) ≡ max (widest l) (widest r)
unfolding widest
widest_sides [] r = omega arith
widest_sides (x ∷ l) r = omega (arith, widest_sides l (x ∷ r))

pub gap_front : (x : Component) (l : List Component) → gap_after (reverse_aux (x ∷ l) []) ≡ gap x
unfolding gap_behind
gap_front x l = gap_sides l x []
