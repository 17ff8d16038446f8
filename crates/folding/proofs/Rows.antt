-- Row sums, and the greatest of them.
use Prim.Native.Nat.{ℕ, zero, suc, ◌+◌, ◌≤◌, ◌<◌, max}
use mathlib.Core.Path.{◌≡◌, refl}
use mathlib.Core.Logic.{◌⊎◌, inl, inr}
use mathlib.Core.List.{List, [], ◌∷◌}
use mathlib.Core.Bool.{Bool, true, false, cond}
use native.Mathlib.Nat.{eq-or-lt_of_le, le_of_suc-le-suc}
use native.Mathlib.Decide.{dec_lt}
use native.Mathlib.Omega.{arith}
use lib.Dec.{leb, ltb}
use borrow.Author.Tests.{leb-true, ltb-true, le-leb, lt-ltb}
use Rattle.terms.proofs.Bools.{both, and_is}
use Rattle.folding.specs.declared.Placed.{Placed}
use Rattle.folding.specs.Placement.{height_of, width_of, start_of, end_of}
use Rattle.folding.specs.Outline.{top_of, takes, row_sum, greatest, group_width}

pub greatest_le : (f : ℕ → ℕ) (n c : ℕ) → ((r : ℕ) → r < n → f r ≤ c) → greatest f n ≤ c
unfolding greatest
greatest_le f zero c h = omega arith
greatest_le f (suc n) c h = omega (arith, greatest_le f n c (λ r l. h r (omega arith)), h n (omega arith))

pub greatest_ge : (f : ℕ → ℕ) (n r : ℕ) → r < n → f r ≤ greatest f n
unfolding greatest
greatest_ge f zero r h = absurd (omega arith)
greatest_ge f (suc n) r h = go (eq-or-lt_of_le (le_of_suc-le-suc h)) (greatest_ge f n r)
  where
    go : (r ≡ n) ⊎ (r < n) → (r < n → f r ≤ greatest f n) → f r ≤ max (greatest f n) (f n)
    go (inl e) k = rw e (omega arith)
    go (inr l) k = omega (arith, k l)

-- Where a component takes a row.
pub takes_is : (x : Placed) (r : ℕ) → takes x r ≡ true → (start_of x ≤ r) × (r < end_of x)
takes_is x r e = let b = both (leb (start_of x) r) (ltb r (end_of x)) e in (leb-true _ _ b.0, ltb-true _ _ b.1)

pub takes_of : (x : Placed) (r : ℕ) → start_of x ≤ r → r < end_of x → takes x r ≡ true
takes_of x r h g = and_is (le-leb (start_of x) r h) (lt-ltb r (end_of x) g)

-- Above the top of a group there is nothing, so that no row at all has more than the width.
row_above : (g : List Placed) (r : ℕ) → top_of g ≤ r → row_sum g r ≡ 0
unfolding top_of row_sum
row_above [] r h = refl
row_above (x ∷ g) r h = go (takes x r) refl (row_above g r (omega arith))
  where
    go : (b : Bool) → takes x r ≡ b → row_sum g r ≡ 0 → cond b (width_of x) 0 + row_sum g r ≡ 0
    go true e i = absurd (omega (arith, (takes_is x r e).1))
    go false e i = omega arith

pub row_most : (g : List Placed) (r : ℕ) → row_sum g r ≤ group_width g
row_most g r = elim (dec_lt r (top_of g)) [ yes h ↦ greatest_ge (row_sum g) (top_of g) r h | no h ↦ omega (arith, row_above g r (omega arith)) ]

-- Each component has a height.
abbrev pub Tall : List Placed → Type 0
Tall [] = Unit {0}
Tall (x ∷ g) = (0 < height_of x) × Tall g
