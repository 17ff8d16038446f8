-- A group's width is at most c exactly when every single width, and every sum of two widths that share a row, is at most c.
use Prim.Native.Nat.{ℕ, ◌+◌, ◌≤◌, ◌<◌, max}
use mathlib.Core.Path.{◌≡◌, refl}
use mathlib.Core.Logic.{◌⊎◌, inl, inr}
use mathlib.Core.List.{List, [], ◌∷◌, reverse_aux}
use mathlib.Core.Bool.{true, false, cond}
use native.Mathlib.Omega.{arith}
use Rattle.terms.proofs.Bools.{either}
use Rattle.folding.specs.declared.Placed.{Placed}
use Rattle.folding.specs.Placement.{height_of, width_of, start_of, end_of}
use Rattle.folding.specs.Outline.{top_of, takes, row_sum, group_width}
use Rattle.folding.proofs.Rows.{greatest_le, takes_is, takes_of, row_most, Tall}
use Rattle.folding.proofs.Sides.{Chain, row_sides}

-- No single width is over c.
abbrev pub Narrow : ℕ → List Placed → Type 0
Narrow c [] = Unit {0}
Narrow c (x ∷ l) = (width_of x ≤ c) × Narrow c l

-- Where x and y share a row, their widths together are at most c.
abbrev pub Fit : ℕ → Placed → Placed → Type 0
Fit c x y = start_of x < end_of y → start_of y < end_of x → width_of x + width_of y ≤ c

abbrev pub FitAll : ℕ → Placed → List Placed → Type 0
FitAll c x [] = Unit {0}
FitAll c x (y ∷ r) = Fit c x y × FitAll c x r

abbrev pub AllFit : ℕ → List Placed → List Placed → Type 0
AllFit c [] r = Unit {0}
AllFit c (x ∷ l) r = FitAll c x r × AllFit c l r

-- A component that takes a row adds its width there.
row_adds : (x : Placed) (l : List Placed) (row : ℕ) → takes x row ≡ true → width_of x + row_sum l row ≡ row_sum (x ∷ l) row
unfolding row_sum
row_adds x l row e = rw e

row_rest : (x : Placed) (l : List Placed) (row : ℕ) → row_sum l row ≤ row_sum (x ∷ l) row
unfolding row_sum
row_rest x l row = omega arith

-- From row sums to single widths and pairs.
narrow_of : (c : ℕ) (l : List Placed) → Tall l → ((row : ℕ) → row_sum l row ≤ c) → Narrow c l
narrow_of c [] t k = tt
narrow_of c (x ∷ l) t k = (
  omega (arith, k (start_of x), row_adds x l (start_of x) (takes_of x (start_of x) (omega arith) (omega arith))),
  narrow_of c l t.1 (λ row. omega (arith, k row, row_rest x l row)),
)

fit_of : (c : ℕ) (x : Placed) (r : List Placed) → 0 < height_of x → Tall r → ((row : ℕ) → takes x row ≡ true → width_of x + row_sum r row ≤ c) → FitAll c x r
fit_of c x [] p t k = tt
fit_of c x (y ∷ r) p t k = (
  λ u v.
      let row : ℕ = max (start_of x) (start_of y) in
      omega (arith, k row (takes_of x row (omega arith) (omega arith)), row_adds y r row (takes_of y row (omega arith) (omega arith))),
  fit_of c x r p t.1 (λ row e. omega (arith, k row e, row_rest y r row)),
)

all_fit_of : (c : ℕ) (l r : List Placed) → Tall l → Tall r → ((row : ℕ) → row_sum l row + row_sum r row ≤ c) → AllFit c l r
all_fit_of c [] r s t k = tt
all_fit_of c (x ∷ l) r s t k = (
  fit_of c x r s.0 t (λ row e. omega (arith, k row, row_adds x l row e)),
  all_fit_of c l r s.1 t (λ row. omega (arith, k row, row_rest x l row)),
)

-- The group's width bounds both.
module _ (c : ℕ) (l r : List Placed) (s : Tall l) (t : Tall r) (w : group_width (reverse_aux l r) ≤ c) where
  at_row : (row : ℕ) → row_sum l row + row_sum r row ≤ c
  at_row row = omega (arith, row_sides l r row, row_most (reverse_aux l r) row)

  pub cap_narrow_left : Narrow c l
  cap_narrow_left = narrow_of c l s (λ row. omega (arith, at_row row))

  pub cap_narrow_right : Narrow c r
  cap_narrow_right = narrow_of c r t (λ row. omega (arith, at_row row))

  pub cap_fits : AllFit c l r
  cap_fits = all_fit_of c l r s t at_row

-- A row of a chain holds nothing, or one component.
no_row : (lo row : ℕ) (l : List Placed) → Chain lo l → row < lo → row_sum l row ≡ 0
unfolding row_sum
no_row lo row [] c h = refl
no_row lo row (x ∷ l) c h = go (either (takes x row)) (no_row (end_of x) row l c.1 (omega arith))
  where
    go : (takes x row ≡ true) ⊎ (takes x row ≡ false) → row_sum l row ≡ 0 → cond (takes x row) (width_of x) 0 + row_sum l row ≡ 0
    go (inl e) i = absurd (omega (arith, (takes_is x row e).0))
    go (inr e) i = rw e (omega arith)

narrow_row : (c lo row : ℕ) (l : List Placed) → Chain lo l → Narrow c l → row_sum l row ≤ c
unfolding row_sum
narrow_row c lo row [] d n = omega arith
narrow_row c lo row (x ∷ l) d n = go (either (takes x row)) (narrow_row c (end_of x) row l d.1 n.1)
  where
    go : (takes x row ≡ true) ⊎ (takes x row ≡ false) → row_sum l row ≤ c → cond (takes x row) (width_of x) 0 + row_sum l row ≤ c
    go (inl e) i = rw e (omega (arith, no_row (end_of x) row l d.1 (takes_is x row e).1))
    go (inr e) i = rw e (omega arith)

fit_row : (c lo row : ℕ) (x : Placed) (r : List Placed) → takes x row ≡ true → width_of x ≤ c → Chain lo r → FitAll c x r → width_of x + row_sum r row ≤ c
unfolding row_sum
fit_row c lo row x [] t n d f = omega arith
fit_row c lo row x (y ∷ r) t n d f = go (either (takes y row)) (fit_row c (end_of y) row x r t n d.1 f.1)
  where
    go : (takes y row ≡ true) ⊎ (takes y row ≡ false) → width_of x + row_sum r row ≤ c → width_of x + (cond (takes y row) (width_of y) 0 + row_sum r row) ≤ c
    go (inl e) i =
        let a = takes_is x row t in
        let b = takes_is y row e in
        rw e (omega (arith, f.0 (omega arith) (omega arith), no_row (end_of y) row r d.1 b.1))
    go (inr e) i = rw e (omega arith)

both_rows : (c lo lo' row : ℕ) (l r : List Placed) → Chain lo l → Chain lo' r → Narrow c l → Narrow c r → AllFit c l r → row_sum l row + row_sum r row ≤ c
unfolding row_sum
both_rows c lo lo' row [] r d e m n f = omega (arith, narrow_row c lo' row r e n)
both_rows c lo lo' row (x ∷ l) r d e m n f = go (either (takes x row)) (both_rows c (end_of x) lo' row l r d.1 e m.1 n f.1)
  where
    go : (takes x row ≡ true) ⊎ (takes x row ≡ false) → row_sum l row + row_sum r row ≤ c → cond (takes x row) (width_of x) 0 + row_sum l row + row_sum r row ≤ c
    go (inl t) i = rw t (omega (arith, no_row (end_of x) row l d.1 (takes_is x row t).1, fit_row c lo' row x r t m.0 e f.0))
    go (inr t) i = rw t (omega arith)

-- Both bound the group's width.
pub cap_of : (c lo lo' : ℕ) (l r : List Placed) → Chain lo l → Chain lo' r → Narrow c l → Narrow c r → AllFit c l r → group_width (reverse_aux l r) ≤ c
cap_of c lo lo' l r d e m n f =
    greatest_le (row_sum (reverse_aux l r)) (top_of (reverse_aux l r)) c (λ row h. omega (arith, row_sides l r row, both_rows c lo lo' row l r d e m n f))
