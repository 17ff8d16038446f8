-- Ticket 2 of document 02: "A group's greatest row sum always occurs at a row where one of its components starts." No rule
-- of legality is needed for it.
use Prim.Native.Nat.{ℕ, zero, suc, ◌+◌, ◌≤◌, ◌<◌, max}
use mathlib.Core.Path.{◌≡◌, refl, sym, ap, ◌∙◌}
use mathlib.Core.Logic.{◌⊎◌, inl, inr}
use mathlib.Core.List.{List, [], ◌∷◌}
use mathlib.Core.Bool.{Bool, true, false, cond, ◌||◌, false≢true}
use native.Mathlib.Decide.{dec_le}
use native.Mathlib.Omega.{arith}
use lib.ListN.{length}
use Rattle.terms.proofs.Bools.{either}
use Rattle.folding.specs.declared.Placed.{Placed}
use Rattle.folding.specs.Placement.{width_of, start_of}
use Rattle.folding.specs.Legal.{same_group}
use Rattle.folding.specs.Outline.{joined, groups_of, top_of, takes, row_sum, greatest, group_width}
use Rattle.folding.specs.StartRows.{StartRow, WidthAtStart, AllAtStart}
use Rattle.folding.proofs.Rows.{takes_is, takes_of, row_most}

-- The latest start among the components that take row r, and whether there is one.
latest : ℕ → List Placed → ℕ
latest r [] = 0
latest r (x ∷ g) = cond (takes x r) (max (start_of x) (latest r g)) (latest r g)

taken : ℕ → List Placed → Bool
taken r [] = false
taken r (x ∷ g) = takes x r || taken r g

none_taken : (r : ℕ) (g : List Placed) → taken r g ≡ false → (row_sum g r ≡ 0) × (latest r g ≡ 0)
unfolding taken latest row_sum
none_taken r [] e = (refl, refl)
none_taken r (x ∷ g) e = go (takes x r) (none_taken r g) e
  where
    go : (b : Bool) → (taken r g ≡ false → (row_sum g r ≡ 0) × (latest r g ≡ 0)) → (b || taken r g) ≡ false → (cond b (width_of x) 0 + row_sum g r ≡ 0) × (cond b (max (start_of x) (latest r g)) (latest r g) ≡ 0)
    go true i z = absurd (false≢true (sym z))
    go false i z = let k = i z in (omega arith, k.1)

latest_le : (r : ℕ) (g : List Placed) → latest r g ≤ r
unfolding latest
latest_le r [] = omega arith
latest_le r (x ∷ g) = go (takes x r) refl (latest_le r g)
  where
    go : (b : Bool) → takes x r ≡ b → latest r g ≤ r → cond b (max (start_of x) (latest r g)) (latest r g) ≤ r
    go true e i = omega (arith, (takes_is x r e).0)
    go false e i = i

-- Whoever takes row r takes each row from the latest of their starts up to r.
sum_latest : (r s : ℕ) (g : List Placed) → latest r g ≤ s → s ≤ r → row_sum g r ≤ row_sum g s
unfolding latest row_sum
sum_latest r s [] h k = omega arith
sum_latest r s (x ∷ g) h k = go (takes x r) refl (λ m. sum_latest r s g m k) h
  where
    go : (b : Bool) → takes x r ≡ b → (latest r g ≤ s → row_sum g r ≤ row_sum g s) → cond b (max (start_of x) (latest r g)) (latest r g) ≤ s → cond b (width_of x) 0 + row_sum g r ≤ cond (takes x s) (width_of x) 0 + row_sum g s
    go true e i m =
        let t = takes_is x r e in
        let j = i (omega arith) in
        rw (takes_of x s (omega arith) (omega arith)) (omega arith)
    go false e i m = omega (arith, i m)

-- One of those components starts there.
starts_later : (x : Placed) (g : List Placed) (s : ℕ) → StartRow g s → StartRow (x ∷ g) s
starts_later x g s t = record {
  before = x ∷ t.before;
  component = t.component;
  behind = t.behind;
  of_group = ap (λ (l : List Placed). x ∷ l) t.of_group;
  starts = t.starts;
}

starts_first : (x : Placed) (g : List Placed) (s : ℕ) → start_of x ≡ s → StartRow (x ∷ g) s
starts_first x g s e = record { before = []; component = x; behind = g; of_group = refl; starts = e }

latest_starts : (r : ℕ) (g : List Placed) → taken r g ≡ true → StartRow g (latest r g)
unfolding taken latest
latest_starts r [] e = absurd (false≢true e)
latest_starts r (x ∷ g) e = go (takes x r) (either (taken r g)) (latest_starts r g) e
  where
    later : (s : ℕ) → latest r g ≡ s → (taken r g ≡ true → StartRow g (latest r g)) → taken r g ≡ true → StartRow (x ∷ g) s
    later s m i t = starts_later x g s (rw (← m) (i t))

    go : (b : Bool) → (taken r g ≡ true) ⊎ (taken r g ≡ false) → (taken r g ≡ true → StartRow g (latest r g)) → (b || taken r g) ≡ true
        → StartRow (x ∷ g) (cond b (max (start_of x) (latest r g)) (latest r g))
    go true (inl t) i z = elim (dec_le (start_of x) (latest r g)) [
      | yes h ↦ later _ (omega arith) i t
      | no h ↦ starts_first x g _ (omega arith)
    ]
    go true (inr t) i z = starts_first x g _ (omega (arith, (none_taken r g t).1))
    go false (inl t) i z = later _ refl i t
    go false (inr t) i z = absurd (false≢true (sym t ∙ z))

-- The greatest of some numbers is 0 or one of them.
greatest_at : (f : ℕ → ℕ) (n : ℕ) → (greatest f n ≡ 0) ⊎ ((r : ℕ) × (f r ≡ greatest f n))
unfolding greatest
greatest_at f zero = inl refl
greatest_at f (suc n) = elim (dec_le (greatest f n) (f n)) [
  | yes h ↦ inr (n, omega arith)
  | no h ↦ go (omega arith) (greatest_at f n)
]
  where
    go : greatest f n ≡ max (greatest f n) (f n) → (greatest f n ≡ 0) ⊎ ((r : ℕ) × (f r ≡ greatest f n)) → (max (greatest f n) (f n) ≡ 0) ⊎ ((r : ℕ) × (f r ≡ max (greatest f n) (f n)))
    go m (inl e) = inl (sym m ∙ e)
    go m (inr e) = inr (e.0, e.1 ∙ m)

-- Where all sums are 0, so is that of the row where the first component starts.
empty_row : (g : List Placed) → 0 < length g → group_width g ≡ 0 → WidthAtStart g
empty_row [] h e = absurd (omega arith)
empty_row (x ∷ l) h e = record { row = start_of x; start = starts_first x l (start_of x) refl; sum_is = omega (arith, row_most (x ∷ l) (start_of x), row_most (x ∷ l) 0) }

-- In every group that is not empty some component's start row has the group's width as its sum.
pub width_at_start : (g : List Placed) → 0 < length g → WidthAtStart g
width_at_start g h = go (greatest_at (row_sum g) (top_of g))
  where
    found : (r : ℕ) → row_sum g r ≡ group_width g → (taken r g ≡ true) ⊎ (taken r g ≡ false) → WidthAtStart g
    found r e (inr f) = empty_row g h (sym e ∙ (none_taken r g f).0)
    found r e (inl t) = record {
      row = latest r g;
      start = latest_starts r g t;
      sum_is = omega (arith, sum_latest r (latest r g) g (omega arith) (latest_le r g), row_most g (latest r g));
    }

    go : (group_width g ≡ 0) ⊎ ((r : ℕ) × (row_sum g r ≡ group_width g)) → WidthAtStart g
    go (inl e) = empty_row g h e
    go (inr e) = found e.0 e.1 (either (taken e.0 g))

-- So has every group of a folding: none is empty.
pub all_at_start : (l : List Placed) → AllAtStart (groups_of l)
unfolding groups_of
all_at_start [] = tt
all_at_start (x ∷ l) = joins (groups_of l) (all_at_start l)
  where
    joins : (gs : List (List Placed)) → AllAtStart gs → AllAtStart (joined x gs)
    joins [] t = (width_at_start (x ∷ []) (omega arith), tt)
    joins ([] ∷ gs) t = (width_at_start (x ∷ []) (omega arith), t.1)
    joins ((y ∷ g) ∷ gs) t = pick (same_group x y)
      where
        pick : (b : Bool) → AllAtStart (cond b ((x ∷ y ∷ g) ∷ gs) ((x ∷ []) ∷ (y ∷ g) ∷ gs))
        pick true = (width_at_start (x ∷ y ∷ g) (omega arith), t.1)
        pick false = (width_at_start (x ∷ []) (omega arith), t)
