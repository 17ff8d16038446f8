-- `rows` is the least number of rows: nothing legal takes fewer, and `place` takes no more.
use Prim.Native.Nat.{ℕ, ◌+◌, ◌≤◌, ◌<◌, min}
use mathlib.Core.Path.{◌≡◌, refl}
use mathlib.Core.Logic.{◌⊎◌, inl, inr}
use mathlib.Core.List.{List, [], ◌∷◌}
use native.Mathlib.Nat.{zero-add, add-zero, add_assoc}
use native.Mathlib.Omega.{arith}
use borrow.Author.Tests.{le-leb, lt-leb}
use Rattle.terms.specs.declared.Component.{Component}
use Rattle.terms.proofs.Order.{order}
use Rattle.group.specs.Rows.{ht, wd, tall, rows, Starts, packed, put_left, put_right, place}

-- The components l at the start rows s, each at or above the end of the one before, all within the rows lo to hi.
abbrev pub Stacked : ℕ → ℕ → List Component → List ℕ → Type 0
Stacked lo hi [] [] = lo ≤ hi
Stacked lo hi [] (s ∷ ss) = ⊥
Stacked lo hi (x ∷ l) [] = ⊥
Stacked lo hi (x ∷ l) (s ∷ ss) = (lo ≤ s) × Stacked (s + ht x) hi l ss

-- x at row s and y at row t: where they share a row, their widths are within the cap.
abbrev pub Clear : ℕ → Component → ℕ → Component → ℕ → Type 0
Clear cap x s y t = s < t + ht y → t < s + ht x → wd x + wd y ≤ cap

abbrev pub ClearOf : ℕ → Component → ℕ → List Component → List ℕ → Type 0
ClearOf cap x s [] ts = Unit {0}
ClearOf cap x s (y ∷ r) [] = Unit {0}
ClearOf cap x s (y ∷ r) (t ∷ ts) = Clear cap x s y t × ClearOf cap x s r ts

abbrev pub AllClear : ℕ → List Component → List ℕ → List Component → List ℕ → Type 0
AllClear cap [] ss r ts = Unit {0}
AllClear cap (x ∷ l) [] r ts = Unit {0}
AllClear cap (x ∷ l) (s ∷ ss) r ts = ClearOf cap x s r ts × AllClear cap l ss r ts

-- The clauses of `rows` and `place`, as equations.
module _ (cap a b : ℕ) (x : Component) (l : List Component) (y : Component) (r : List Component) where
  pub rows_left : wd x + wd y ≤ cap → a + ht x ≤ b + ht y → rows cap a b (x ∷ l) (y ∷ r) ≡ rows cap (a + ht x) b l (y ∷ r)
  unfolding rows
  rows_left f o = rw (le-leb (wd x + wd y) cap f, le-leb (a + ht x) (b + ht y) o, rows) refl

  pub rows_right : wd x + wd y ≤ cap → b + ht y < a + ht x → rows cap a b (x ∷ l) (y ∷ r) ≡ rows cap a (b + ht y) (x ∷ l) r
  unfolding rows
  rows_right f o = rw (le-leb (wd x + wd y) cap f, lt-leb (a + ht x) (b + ht y) o, rows) refl

  pub rows_clash : cap < wd x + wd y → rows cap a b (x ∷ l) (y ∷ r) ≡ min (a + ht x + rows cap 0 0 l (y ∷ r)) (b + ht y + rows cap 0 0 (x ∷ l) r)
  unfolding rows
  rows_clash f = rw (lt-leb (wd x + wd y) cap f, rows) refl

  pub place_left : wd x + wd y ≤ cap → a + ht x ≤ b + ht y → place cap a b (x ∷ l) (y ∷ r) ≡ put_left a (place cap (a + ht x) b l (y ∷ r))
  unfolding place
  place_left f o = rw (le-leb (wd x + wd y) cap f, le-leb (a + ht x) (b + ht y) o, place) refl

  pub place_right : wd x + wd y ≤ cap → b + ht y < a + ht x → place cap a b (x ∷ l) (y ∷ r) ≡ put_right b (place cap a (b + ht y) (x ∷ l) r)
  unfolding place
  place_right f o = rw (le-leb (wd x + wd y) cap f, lt-leb (a + ht x) (b + ht y) o, place) refl

  pub place_left_first : cap < wd x + wd y → a + ht x + rows cap 0 0 l (y ∷ r) ≤ b + ht y + rows cap 0 0 (x ∷ l) r
      → place cap a b (x ∷ l) (y ∷ r) ≡ put_left a (place cap (a + ht x) (a + ht x) l (y ∷ r))
  unfolding place
  place_left_first f o = rw (lt-leb (wd x + wd y) cap f, le-leb (a + ht x + rows cap 0 0 l (y ∷ r)) (b + ht y + rows cap 0 0 (x ∷ l) r) o, place) refl

  pub place_right_first : cap < wd x + wd y → b + ht y + rows cap 0 0 (x ∷ l) r < a + ht x + rows cap 0 0 l (y ∷ r)
      → place cap a b (x ∷ l) (y ∷ r) ≡ put_right b (place cap (b + ht y) (b + ht y) (x ∷ l) r)
  unfolding place
  place_right_first f o = rw (lt-leb (wd x + wd y) cap f, lt-leb (a + ht x + rows cap 0 0 l (y ∷ r)) (b + ht y + rows cap 0 0 (x ∷ l) r) o, place) refl

pub stacked_tall : (lo hi : ℕ) (l : List Component) (ss : List ℕ) → Stacked lo hi l ss → lo + tall l ≤ hi
unfolding tall
stacked_tall lo hi [] [] g = omega arith
stacked_tall lo hi [] (s ∷ ss) g = absurd g
stacked_tall lo hi (x ∷ l) [] g = absurd g
stacked_tall lo hi (x ∷ l) (s ∷ ss) g = omega (arith, stacked_tall (s + ht x) hi l ss g.1)

pub stacked_wider : (lo lo' hi hi' : ℕ) (l : List Component) (ss : List ℕ) → lo' ≤ lo → hi ≤ hi' → Stacked lo hi l ss → Stacked lo' hi' l ss
stacked_wider lo lo' hi hi' [] [] d e g = omega arith
stacked_wider lo lo' hi hi' [] (s ∷ ss) d e g = absurd g
stacked_wider lo lo' hi hi' (x ∷ l) [] d e g = absurd g
stacked_wider lo lo' hi hi' (x ∷ l) (s ∷ ss) d e g = (omega arith, stacked_wider (s + ht x) (s + ht x) hi hi' l ss (omega arith) e g.1)

stacked_down : (lo lo' hi : ℕ) (l : List Component) (ss : List ℕ) → lo' ≤ lo → Stacked lo hi l ss → Stacked lo' hi l ss
stacked_down lo lo' hi l ss e g = stacked_wider lo lo' hi hi l ss e (omega arith) g

clear_rest : (cap : ℕ) (l : List Component) (ss : List ℕ) (y : Component) (r : List Component) (t : ℕ) (ts : List ℕ) → AllClear cap l ss (y ∷ r) (t ∷ ts) → AllClear cap l ss r ts
clear_rest cap [] ss y r t ts g = tt
clear_rest cap (x ∷ l) [] y r t ts g = tt
clear_rest cap (x ∷ l) (s ∷ ss) y r t ts g = (g.0.1, clear_rest cap l ss y r t ts g.1)

-- Nothing is lower, from every row k on.
abbrev Lower : ℕ → List Component → List Component → Type 0
Lower cap l r = (k a b hi : ℕ) (ss ts : List ℕ) → Stacked (k + a) hi l ss → Stacked (k + b) hi r ts → AllClear cap l ss r ts → k + rows cap a b l r ≤ hi

lower_step : (cap : ℕ) (x : Component) (l : List Component) (y : Component) (r : List Component) → Lower cap l (y ∷ r) → Lower cap (x ∷ l) r → Lower cap (x ∷ l) (y ∷ r)
lower_step cap x l y r il ir k a b hi [] ts f g h = absurd f
lower_step cap x l y r il ir k a b hi (s ∷ ss) [] f g h = absurd g
lower_step cap x l y r il ir k a b hi (s ∷ ss) (t ∷ ts) f g h = go (order (wd x + wd y) cap) (order (a + ht x) (b + ht y))
  where
    -- one of the two ends before the other starts
    below : s + ht x ≤ t → s + ht x + rows cap 0 0 l (y ∷ r) ≤ hi
    below o = il (s + ht x) 0 0 hi ss (t ∷ ts) (stacked_down (s + ht x) (s + ht x + 0) hi l ss (omega arith) f.1) (omega arith, g.1) h.1

    above : t + ht y ≤ s → t + ht y + rows cap 0 0 (x ∷ l) r ≤ hi
    above o = ir (t + ht y) 0 0 hi (s ∷ ss) ts (omega arith, f.1) (stacked_down (t + ht y) (t + ht y + 0) hi r ts (omega arith) g.1) (clear_rest cap (x ∷ l) (s ∷ ss) y r t ts h)

    clash : cap < wd x + wd y → (s + ht x ≤ t) ⊎ (t < s + ht x) → (t + ht y ≤ s) ⊎ (s < t + ht y) → k + min (a + ht x + rows cap 0 0 l (y ∷ r)) (b + ht y + rows cap 0 0 (x ∷ l) r) ≤ hi
    clash p (inl u) v = omega (arith, below u)
    clash p (inr u) (inl v) = omega (arith, above v)
    clash p (inr u) (inr v) = absurd (omega (arith, h.0.0 v u))

    go : (wd x + wd y ≤ cap) ⊎ (cap < wd x + wd y) → (a + ht x ≤ b + ht y) ⊎ (b + ht y < a + ht x) → k + rows cap a b (x ∷ l) (y ∷ r) ≤ hi
    go (inr p) q = rw (rows_clash cap a b x l y r p) (clash p (order (s + ht x) t) (order (t + ht y) s))
    go (inl p) (inl q) = rw (rows_left cap a b x l y r p q) (il k (a + ht x) b hi ss (t ∷ ts) (stacked_down (s + ht x) (k + (a + ht x)) hi l ss (omega arith) f.1) g h.1)
    go (inl p) (inr q) = rw (rows_right cap a b x l y r p q) (ir k a (b + ht y) hi (s ∷ ss) ts f (stacked_down (t + ht y) (k + (b + ht y)) hi r ts (omega arith) g.1) (clear_rest cap (x ∷ l) (s ∷ ss) y r t ts h))

lower : (cap : ℕ) (l r : List Component) → Lower cap l r
unfolding rows
lower cap [] r k a b hi ss ts f g h = omega (arith, stacked_tall (k + b) hi r ts g)
lower cap (x ∷ l) [] k a b hi ss ts f g h = omega (arith, stacked_tall (k + a) hi (x ∷ l) ss f)
lower cap (x ∷ l) (y ∷ r) k a b hi ss ts f g h = lower_step cap x l y r (lower cap l (y ∷ r)) (lower cap (x ∷ l) r) k a b hi ss ts f g h

pub nothing_lower : (cap hi : ℕ) (l r : List Component) (ss ts : List ℕ) → Stacked 0 hi l ss → Stacked 0 hi r ts → AllClear cap l ss r ts → rows cap 0 0 l r ≤ hi
nothing_lower cap hi l r ss ts f g h = omega (arith, lower cap l r 0 0 0 hi ss ts f g h)

-- `place` needs no more rows.
pub record Placing (cap lo lo' hi : ℕ) (l r : List Component) (s : Starts) : Type 0 where
  pub left_stacked : Stacked lo hi l s.on_the_left
  pub right_stacked : Stacked lo' hi r s.on_the_right
  pub clear : AllClear cap l s.on_the_left r s.on_the_right

first : List Component → ℕ
first [] = 0
first (x ∷ l) = ht x

first_tall : (l : List Component) → first l ≤ tall l
unfolding first tall
first_tall [] = omega arith
first_tall (x ∷ l) = omega arith

pub packed_stacked : (lo hi : ℕ) (l : List Component) → lo + tall l ≤ hi → Stacked lo hi l (packed lo l)
unfolding packed tall
packed_stacked lo hi [] e = omega arith
packed_stacked lo hi (x ∷ l) e = (omega arith, packed_stacked (lo + ht x) hi l (omega arith))

clear_none : (cap : ℕ) (l : List Component) (ss : List ℕ) → AllClear cap l ss [] []
clear_none cap [] ss = tt
clear_none cap (x ∷ l) [] = tt
clear_none cap (x ∷ l) (s ∷ ss) = (tt, clear_none cap l ss)

-- x ends below all of r; y ends below all of l.
clear_below : (cap : ℕ) (x : Component) (s lo hi : ℕ) (r : List Component) (ts : List ℕ) → s + ht x ≤ lo → Stacked lo hi r ts → ClearOf cap x s r ts
clear_below cap x s lo hi [] ts e g = tt
clear_below cap x s lo hi (y ∷ r) [] e g = tt
clear_below cap x s lo hi (y ∷ r) (t ∷ ts) e g = (omega arith, clear_below cap x s (t + ht y) hi r ts (omega arith) g.1)

all_clear_below : (cap : ℕ) (y : Component) (t lo hi : ℕ) (l : List Component) (ss : List ℕ) (r : List Component) (ts : List ℕ) → t + ht y ≤ lo → Stacked lo hi l ss → AllClear cap l ss r ts → AllClear cap l ss (y ∷ r) (t ∷ ts)
all_clear_below cap y t lo hi [] ss r ts e g h = tt
all_clear_below cap y t lo hi (x ∷ l) [] r ts e g h = tt
all_clear_below cap y t lo hi (x ∷ l) (s ∷ ss) r ts e g h = ((omega arith, h.0), all_clear_below cap y t (s + ht x) hi l ss r ts (omega arith) g.1 h.1)

-- x fits y and ends below the rest of r; y fits x and ends below the rest of l.
clear_beside : (cap : ℕ) (x : Component) (s lo hi : ℕ) (y : Component) (r : List Component) (ts : List ℕ) → wd x + wd y ≤ cap → s + ht x ≤ lo + ht y → Stacked lo hi (y ∷ r) ts → ClearOf cap x s (y ∷ r) ts
clear_beside cap x s lo hi y r [] f e g = absurd g
clear_beside cap x s lo hi y r (t ∷ ts) f e g = (λ u v. f, clear_below cap x s (t + ht y) hi r ts (omega arith) g.1)

all_clear_beside : (cap : ℕ) (y : Component) (t lo hi : ℕ) (x : Component) (l : List Component) (ss : List ℕ) (r : List Component) (ts : List ℕ) → wd x + wd y ≤ cap → t + ht y ≤ lo + ht x → Stacked lo hi (x ∷ l) ss → AllClear cap (x ∷ l) ss r ts
    → AllClear cap (x ∷ l) ss (y ∷ r) (t ∷ ts)
all_clear_beside cap y t lo hi x l [] r ts f e g h = absurd g
all_clear_beside cap y t lo hi x l (s ∷ ss) r ts f e g h = ((λ u v. f, h.0), all_clear_below cap y t (s + ht x) hi l ss r ts (omega arith) g.1 h.1)

-- k is the row of the last clash: both chains are packed from there.
abbrev Reach : ℕ → List Component → List Component → Type 0
Reach cap l r = (k a b : ℕ) → a ≤ b + first r → b ≤ a + first l → Placing cap (k + a) (k + b) (k + rows cap a b l r) l r (place cap (k + a) (k + b) l r)

-- One more component in front of a chain that is placed already.
module _ (cap : ℕ) (x : Component) (l : List Component) (y : Component) (r : List Component) where
  -- on top of it all comes the rest, from row e on
  on_left_first : (lo lo' hi m : ℕ) → lo' ≤ lo + ht x → lo + ht x + m ≤ hi → Placing cap (lo + ht x) (lo + ht x) (lo + ht x + m) l (y ∷ r) (place cap (lo + ht x) (lo + ht x) l (y ∷ r))
      → Placing cap lo lo' hi (x ∷ l) (y ∷ r) (put_left lo (place cap (lo + ht x) (lo + ht x) l (y ∷ r)))
  on_left_first lo lo' hi m d e q =
      let s = place cap (lo + ht x) (lo + ht x) l (y ∷ r) in
      record {
        left_stacked = (omega arith, stacked_wider (lo + ht x) (lo + ht x) (lo + ht x + m) hi l s.on_the_left (omega arith) e q.left_stacked);
        right_stacked = stacked_wider (lo + ht x) lo' (lo + ht x + m) hi (y ∷ r) s.on_the_right d e q.right_stacked;
        clear = (clear_below cap x lo (lo + ht x) (lo + ht x + m) (y ∷ r) s.on_the_right (omega arith) q.right_stacked, q.clear);
      }

  on_right_first : (lo lo' hi m : ℕ) → lo ≤ lo' + ht y → lo' + ht y + m ≤ hi → Placing cap (lo' + ht y) (lo' + ht y) (lo' + ht y + m) (x ∷ l) r (place cap (lo' + ht y) (lo' + ht y) (x ∷ l) r)
      → Placing cap lo lo' hi (x ∷ l) (y ∷ r) (put_right lo' (place cap (lo' + ht y) (lo' + ht y) (x ∷ l) r))
  on_right_first lo lo' hi m d e q =
      let s = place cap (lo' + ht y) (lo' + ht y) (x ∷ l) r in
      record {
        left_stacked = stacked_wider (lo' + ht y) lo (lo' + ht y + m) hi (x ∷ l) s.on_the_left d e q.left_stacked;
        right_stacked = (omega arith, stacked_wider (lo' + ht y) (lo' + ht y) (lo' + ht y + m) hi r s.on_the_right (omega arith) e q.right_stacked);
        clear = all_clear_below cap y lo' (lo' + ht y) (lo' + ht y + m) (x ∷ l) s.on_the_left r s.on_the_right (omega arith) q.left_stacked q.clear;
      }

  -- beside the first of the other chain
  beside_left : (lo lo' hi : ℕ) → wd x + wd y ≤ cap → lo + ht x ≤ lo' + ht y → Placing cap (lo + ht x) lo' hi l (y ∷ r) (place cap (lo + ht x) lo' l (y ∷ r))
      → Placing cap lo lo' hi (x ∷ l) (y ∷ r) (put_left lo (place cap (lo + ht x) lo' l (y ∷ r)))
  beside_left lo lo' hi f o q = record {
    left_stacked = (omega arith, q.left_stacked);
    right_stacked = q.right_stacked;
    clear = (clear_beside cap x lo lo' hi y r (place cap (lo + ht x) lo' l (y ∷ r)).on_the_right f o q.right_stacked, q.clear);
  }

  beside_right : (lo lo' hi : ℕ) → wd x + wd y ≤ cap → lo' + ht y ≤ lo + ht x → Placing cap lo (lo' + ht y) hi (x ∷ l) r (place cap lo (lo' + ht y) (x ∷ l) r)
      → Placing cap lo lo' hi (x ∷ l) (y ∷ r) (put_right lo' (place cap lo (lo' + ht y) (x ∷ l) r))
  beside_right lo lo' hi f o q =
      let s = place cap lo (lo' + ht y) (x ∷ l) r in
      record {
        left_stacked = q.left_stacked;
        right_stacked = (omega arith, q.right_stacked);
        clear = all_clear_beside cap y lo' lo hi x l s.on_the_left r s.on_the_right f o q.left_stacked q.clear;
      }

reach_step : (cap : ℕ) (x : Component) (l : List Component) (y : Component) (r : List Component) → Reach cap l (y ∷ r) → Reach cap (x ∷ l) r → Reach cap (x ∷ l) (y ∷ r)
unfolding first
reach_step cap x l y r il ir k a b d e = go (order (wd x + wd y) cap) (order (a + ht x) (b + ht y))
  where
    m1 : ℕ
    m1 = rows cap 0 0 l (y ∷ r)

    m2 : ℕ
    m2 = rows cap 0 0 (x ∷ l) r

    clash : cap < wd x + wd y → (a + ht x + m1 ≤ b + ht y + m2) ⊎ (b + ht y + m2 < a + ht x + m1)
        → Placing cap (k + a) (k + b) (k + min (a + ht x + m1) (b + ht y + m2)) (x ∷ l) (y ∷ r) (place cap (k + a) (k + b) (x ∷ l) (y ∷ r))
    clash p (inl u) =
        rw (place_left_first cap (k + a) (k + b) x l y r p (omega arith))
        (on_left_first cap x l y r (k + a) (k + b) _ m1 (omega arith) (omega arith) (rw (add-zero (k + a + ht x)) at (il (k + a + ht x) 0 0 (omega arith) (omega arith))))
    clash p (inr u) =
        rw (place_right_first cap (k + a) (k + b) x l y r p (omega arith))
        (on_right_first cap x l y r (k + a) (k + b) _ m2 (omega arith) (omega arith) (rw (add-zero (k + b + ht y)) at (ir (k + b + ht y) 0 0 (omega arith) (omega arith))))

    go : (wd x + wd y ≤ cap) ⊎ (cap < wd x + wd y) → (a + ht x ≤ b + ht y) ⊎ (b + ht y < a + ht x)
        → Placing cap (k + a) (k + b) (k + rows cap a b (x ∷ l) (y ∷ r)) (x ∷ l) (y ∷ r) (place cap (k + a) (k + b) (x ∷ l) (y ∷ r))
    go (inr p) q = rw (rows_clash cap a b x l y r p) (clash p (order (a + ht x + m1) (b + ht y + m2)))
    go (inl p) (inl q) =
        rw (rows_left cap a b x l y r p q, place_left cap (k + a) (k + b) x l y r p (omega arith))
        (beside_left cap x l y r (k + a) (k + b) _ p (omega arith) (rw (← add_assoc k a (ht x)) at (il k (a + ht x) b (omega arith) (omega arith))))
    go (inl p) (inr q) =
        rw (rows_right cap a b x l y r p q, place_right cap (k + a) (k + b) x l y r p (omega arith))
        (beside_right cap x l y r (k + a) (k + b) _ p (omega arith) (rw (← add_assoc k b (ht y)) at (ir k a (b + ht y) (omega arith) (omega arith))))

reach : (cap : ℕ) (l r : List Component) → Reach cap l r
unfolding rows place first tall
reach cap [] r k a b d e = record { left_stacked = omega (arith, first_tall r); right_stacked = packed_stacked (k + b) (k + (b + tall r)) r (omega arith); clear = tt }
reach cap (x ∷ l) [] k a b d e = record {
  left_stacked = packed_stacked (k + a) (k + (a + tall (x ∷ l))) (x ∷ l) (omega arith);
  right_stacked = omega arith;
  clear = clear_none cap (x ∷ l) (packed (k + a) (x ∷ l));
}
reach cap (x ∷ l) (y ∷ r) k a b d e = reach_step cap x l y r (reach cap l (y ∷ r)) (reach cap (x ∷ l) r) k a b d e

pub reached : (cap : ℕ) (l r : List Component) → Placing cap 0 0 (rows cap 0 0 l r) l r (place cap 0 0 l r)
reached cap l r = rw (zero-add (rows cap 0 0 l r)) at (reach cap l r 0 0 0 (omega arith) (omega arith))
