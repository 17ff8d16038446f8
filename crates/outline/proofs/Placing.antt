-- The outline of placed components that stand in columns: each of its parts as the code finds it, index by index.
use Prim.Native.Nat.{ℕ, zero, suc, ◌+◌, ◌-◌, ◌≤◌, ◌<◌, max}
use mathlib.Core.Path.{◌≡◌, refl, sym, ap, subst, ◌∙◌}
use mathlib.Core.Logic.{◌⊎◌, inl, inr}
use mathlib.Core.List.{List, [], ◌∷◌, ◌++◌}
use mathlib.Core.Bool.{true, false, cond}
use native.Mathlib.Nat.{eq-or-lt_of_le, add-zero}
use native.Mathlib.Omega.{arith}
use lib.ListN.{length, drop}
use lib.Dec.{ltb}
use borrow.Author.Tests.{lt-ltb, le-ltb, eq-eqb, ne_eqb}
use Rattle.terms.specs.Component.{tabulate}
use Rattle.terms.specs.Seams.{gap_at}
use Rattle.terms.proofs.Tabulate.{tabulate-drop, tabulate_end, tabulate_front, tabulate_same}
use Rattle.folding.specs.declared.Placement.{Placement}
use Rattle.folding.specs.declared.Placed.{Placed}
use Rattle.folding.specs.Placement.{width_of, gap_of, group_of, end_of, left}
use Rattle.folding.specs.Outline.{top_of, takes, row_sum, greatest, last_gap, folded, fold_gap, group_height, groups_of}
use Rattle.folding.specs.Asks.{placed_at, placed_in, side_at, end_at}
use Rattle.outline.specs.Inner.{Lefts}
use Rattle.folding.proofs.Sums.{total}
use Rattle.folding.proofs.Groups.{groups_join, groups_open}

-- Numbers of tabulated components.
module _ (g : ℕ → Placed) where
  top_last : (l : List Placed) (x : Placed) → top_of (l ++ (x ∷ [])) ≡ max (top_of l) (end_of x)
  unfolding top_of
  top_last [] x = omega arith
  top_last (y ∷ l) x = omega (arith, top_last l x)

  pub top_tabulate : (n : ℕ) → top_of (tabulate g n) ≡ greatest (λ i. end_of (g i)) n
  unfolding tabulate greatest top_of
  top_tabulate zero = refl
  top_tabulate (suc n) = top_last (tabulate g n) (g n) ∙ rw (top_tabulate n)

  sum_last : (row : ℕ) (l : List Placed) (x : Placed) → row_sum (l ++ (x ∷ [])) row ≡ row_sum l row + cond (takes x row) (width_of x) 0
  unfolding row_sum
  sum_last row [] x = omega arith
  sum_last row (y ∷ l) x = omega (arith, sum_last row l x)

  pub sum_tabulate : (row n : ℕ) → row_sum (tabulate g n) row ≡ total (λ i. cond (takes (g i) row) (width_of (g i)) 0) n
  unfolding tabulate total row_sum
  sum_tabulate row zero = refl
  sum_tabulate row (suc n) = sum_last row (tabulate g n) (g n) ∙ rw (sum_tabulate row n)

  gap_last : (l : List Placed) (x : Placed) → last_gap (l ++ (x ∷ [])) ≡ gap_of x
  unfolding last_gap
  gap_last [] x = refl
  gap_last (y ∷ []) x = refl
  gap_last (y ∷ z ∷ l) x = gap_last (z ∷ l) x

  pub gap_tabulate : (n : ℕ) → last_gap (tabulate g (suc n)) ≡ gap_of (g n)
  unfolding tabulate
  gap_tabulate n = gap_last (tabulate g n) (g n)

-- Where the first component on the right is.
module _ (g : ℕ → Placed) (n k : ℕ) (within : k ≤ n) (lefts : (i : ℕ) → i < k → left (g i) ≡ true) (next : k < n → left (g k) ≡ false) where
  folded_from : (d i : ℕ) → i + d ≡ k → folded (drop i (tabulate g n)) ≡ ltb k n
  unfolding folded
  folded_from zero i e = go (eq-or-lt_of_le within)
    where
      go : (k ≡ n) ⊎ (k < n) → folded (drop i (tabulate g n)) ≡ ltb k n
      go (inl z) = rw (tabulate_end g n i (omega arith), le-ltb k n (omega arith))
      go (inr l) = let m : i ≡ k = omega arith in rw (m, tabulate-drop g n k l, next l, lt-ltb k n l)
  folded_from (suc d) i e = rw (tabulate-drop g n i (omega arith), lefts i (omega arith)) (folded_from d (i + 1) (omega arith))

  pub folded_tabulate : folded (tabulate g n) ≡ ltb k n
  folded_tabulate = folded_from k 0 (omega arith)

  module _ (some : k < n) where
    fold_from : (d i : ℕ) → i + suc d ≡ k → fold_gap (drop i (tabulate g n)) ≡ gap_of (g (k - 1))
    unfolding fold_gap
    fold_from zero i e =
        let m : k - 1 ≡ i = omega arith in
        let s : i + 1 ≡ k = omega arith in
        rw (tabulate-drop g n i (omega arith), s, tabulate-drop g n k some, next some, m)
    fold_from (suc d) i e =
        let i' = fold_from d (i + 1) (omega arith) in
        rw (tabulate-drop g n i (omega arith), tabulate-drop g n (i + 1) (omega arith), lefts (i + 1) (omega arith))
        (rw (tabulate-drop g n (i + 1) (omega arith)) at i')

    pub fold_tabulate : 0 < k → fold_gap (tabulate g n) ≡ gap_of (g (k - 1))
    fold_tabulate h = fold_from (k - 1) 0 (omega arith)

-- A run of equal group numbers is a group.
module _ (g : ℕ → Placed) (n : ℕ) (from to : ℕ) (within : to ≤ n) (same : (i : ℕ) → from ≤ i → i < to → group_of (g i) ≡ group_of (g from)) (other : to < n → group_of (g to) ≡ group_of (g from) → ⊥) where
  cut_from : (d i : ℕ) → from ≤ i → i + suc d ≡ to → groups_of (drop i (tabulate g n)) ≡ tabulate (λ j. g (i + j)) (suc d) ∷ groups_of (drop to (tabulate g n))
  unfolding tabulate groups_of
  cut_from zero i h e = go (eq-or-lt_of_le within)
    where
      s : i + 1 ≡ to
      s = omega arith

      one : tabulate (λ j. g (i + j)) 1 ≡ g i ∷ []
      one = rw (add-zero i)

      go : (to ≡ n) ⊎ (to < n) → groups_of (drop i (tabulate g n)) ≡ tabulate (λ j. g (i + j)) 1 ∷ groups_of (drop to (tabulate g n))
      go (inl z) = rw (one, tabulate-drop g n i (omega arith), s, tabulate_end g n to (omega arith))
      go (inr l) =
          rw (one, tabulate-drop g n i (omega arith), s, tabulate-drop g n to l)
          (groups_open (g i) (g to) (drop (to + 1) (tabulate g n)) (λ z. other l (z ∙ same i h (omega arith))))
  cut_from (suc d) i h e =
      let later = cut_from d (i + 1) (omega arith) (omega arith) in
      let a : tabulate (λ j. g (i + 1 + j)) (suc d) ≡ g (i + 1) ∷ tabulate (λ j. g (i + 1 + suc j)) d = tabulate_front (λ j. g (i + 1 + j)) d ∙ rw (add-zero (i + 1)) in
      let b : tabulate (λ j. g (i + j)) (suc (suc d)) ≡ g i ∷ tabulate (λ j. g (i + 1 + j)) (suc d) =
      tabulate_front (λ j. g (i + j)) (suc d) ∙ rw (add-zero i) (ap (λ (l : List Placed). g i ∷ l) (tabulate_same (λ j. g (i + suc j)) (λ j. g (i + 1 + j)) (suc d) (λ j l. ap g (omega arith)))) in
      let k : groups_of (g (i + 1) ∷ drop (i + 1 + 1) (tabulate g n)) ≡ (g (i + 1) ∷ tabulate (λ j. g (i + 1 + suc j)) d) ∷ groups_of (drop to (tabulate g n)) =
      sym (ap groups_of (tabulate-drop g n (i + 1) (omega arith))) ∙ later ∙ ap (λ (l : List Placed). l ∷ groups_of (drop to (tabulate g n))) a in
      rw (b, a, tabulate-drop g n i (omega arith), tabulate-drop g n (i + 1) (omega arith))
      (groups_join (g i) (g (i + 1)) (drop (i + 1 + 1) (tabulate g n)) (tabulate (λ j. g (i + 1 + suc j)) d) (groups_of (drop to (tabulate g n))) (same (i + 1) (omega arith) (omega arith) ∙ sym (same i h (omega arith))) k)

  pub cut_tabulate : from < to → groups_of (drop from (tabulate g n)) ≡ tabulate (λ j. g (from + j)) (to - from) ∷ groups_of (drop to (tabulate g n))
  cut_tabulate h =
      let e : suc (to - from - 1) ≡ to - from = omega arith in
      subst (λ (d : ℕ). groups_of (drop from (tabulate g n)) ≡ tabulate (λ j. g (from + j)) d ∷ groups_of (drop to (tabulate g n))) e
      (cut_from (to - from - 1) from (omega arith) (omega arith))

-- The height of a group that stands in columns.
module _ (hs ws seams : List ℕ) (ps : List Placement) (k : ℕ) (some : 0 < length hs) (first : side_at ps 0 ≡ 0) (l : Lefts ps (length hs) k) (g0 : ℕ) where
  g : ℕ → Placed
  g = placed_at hs ws seams ps

  pub has_left : 0 < k
  has_left = go (eq-or-lt_of_le {n = 0} {m = k} (omega arith))
    where
      go : (0 ≡ k) ⊎ (0 < k) → 0 < k
      go (inl e) = absurd (l.next (omega arith) (rw (← e) first))
      go (inr h) = h

  last : last_gap (placed_in hs ws seams ps) ≡ gap_at seams (length hs - 1)
  unfolding g
  last =
      let e : suc (length hs - 1) ≡ length hs = omega arith in
      subst (λ (n : ℕ). last_gap (tabulate g n) ≡ gap_at seams (length hs - 1)) e (gap_tabulate g (length hs - 1))

  fold : folded (placed_in hs ws seams ps) ≡ ltb k (length hs)
  unfolding g
  fold = folded_tabulate g (length hs) k l.within (λ i h. eq-eqb _ _ (l.on_the_left i h)) (λ h. ne_eqb _ _ (l.next h))

  pub height_folded : k < length hs → group_height g0 (placed_in hs ws seams ps) ≡ greatest (end_at hs ps) (length hs) + max g0 (gap_at seams (length hs - 1)) + gap_at seams (k - 1)
  unfolding g
  height_folded h =
      let f : fold_gap (placed_in hs ws seams ps) ≡ gap_at seams (k - 1) = fold_tabulate g (length hs) k l.within (λ i m. eq-eqb _ _ (l.on_the_left i m)) (λ m. ne_eqb _ _ (l.next m)) h has_left in
      rw (fold, lt-ltb k (length hs) h, top_tabulate g (length hs), last, f)

  pub height_flat : length hs ≤ k → group_height g0 (placed_in hs ws seams ps) ≡ greatest (end_at hs ps) (length hs) + g0 + gap_at seams (length hs - 1)
  unfolding g
  height_flat h = rw (fold, le-ltb k (length hs) h, top_tabulate g (length hs), last)
