-- The least rows of the sides of one group, at the indices that the code has.
use Prim.Native.Nat.{ℕ, zero, suc, ◌+◌, ◌-◌, ◌*◌, ◌≤◌, ◌<◌, min}
use mathlib.Core.Path.{◌≡◌, refl, ◌∙◌}
use mathlib.Core.Logic.{◌⊎◌, inl, inr}
use mathlib.Core.List.{List, [], ◌∷◌, ◌++◌, reverse_aux}
use native.Mathlib.Nat.{zero-add, eq-or-lt_of_le}
use native.Mathlib.Numerals.{add-one}
use native.Mathlib.Omega.{arith}
use lib.ListN.{take}
use lib.Seq.{take_all, take-append-le}
use Rattle.terms.specs.declared.Component.{Component}
use Rattle.terms.specs.Component.{tabulate}
use Rattle.terms.proofs.Tabulate.{tabulate-length, tabulate-drop, tabulate_end}
use Rattle.group.specs.Rows.{ht, wd, tall, rows}
use Rattle.group.specs.Group.{left_side, right_side}
use Rattle.terms.proofs.Order.{order}
use Rattle.group.proofs.Chains.{rows_left, rows_right, rows_clash}

-- The clauses of `rows` where a side is empty.
pub rows_no_left : (cap a b : ℕ) (r : List Component) → rows cap a b [] r ≡ b + tall r
unfolding rows
rows_no_left cap a b r = refl

pub rows_no_right : (cap a b : ℕ) (x : Component) (l : List Component) → rows cap a b (x ∷ l) [] ≡ a + tall (x ∷ l)
unfolding rows
rows_no_right cap a b x l = refl

pub rows_only_left : (cap : ℕ) (l : List Component) → rows cap 0 0 l [] ≡ tall l
unfolding rows
rows_only_left cap [] = zero-add (tall [])
rows_only_left cap (x ∷ l) = zero-add (tall (x ∷ l))

-- No walk takes more than all of both sides on top of each other.
le_step : (cap a b : ℕ) (x : Component) (l : List Component) (y : Component) (r : List Component) → ((a b : ℕ) → rows cap a b l (y ∷ r) ≤ a + b + tall l + tall (y ∷ r)) → ((a b : ℕ) → rows cap a b (x ∷ l) r ≤ a + b + tall (x ∷ l) + tall r)
    → rows cap a b (x ∷ l) (y ∷ r) ≤ a + b + tall (x ∷ l) + tall (y ∷ r)
unfolding tall
le_step cap a b x l y r il ir = go (order (wd x + wd y) cap) (order (a + ht x) (b + ht y))
  where
    go : (wd x + wd y ≤ cap) ⊎ (cap < wd x + wd y) → (a + ht x ≤ b + ht y) ⊎ (b + ht y < a + ht x) → rows cap a b (x ∷ l) (y ∷ r) ≤ a + b + tall (x ∷ l) + tall (y ∷ r)
    go (inr p) q = omega (arith, rows_clash cap a b x l y r p, il 0 0)
    go (inl p) (inl q) = omega (arith, rows_left cap a b x l y r p q, il (a + ht x) b)
    go (inl p) (inr q) = omega (arith, rows_right cap a b x l y r p q, ir a (b + ht y))

pub rows_le : (cap : ℕ) (l r : List Component) (a b : ℕ) → rows cap a b l r ≤ a + b + tall l + tall r
unfolding rows tall
rows_le cap [] r a b = omega arith
rows_le cap (x ∷ l) [] a b = omega arith
rows_le cap (x ∷ l) (y ∷ r) a b = le_step cap a b x l y r (rows_le cap l (y ∷ r)) (rows_le cap (x ∷ l) r)

reverse_snoc : {A : Type 0} (l : List A) (x : A) (r : List A) → reverse_aux (l ++ (x ∷ [])) r ≡ x ∷ reverse_aux l r
reverse_snoc [] x r = refl
reverse_snoc (y ∷ l) x r = reverse_snoc l x (y ∷ r)

pub take-tabulate : {A : Type 0} (g : ℕ → A) (n p : ℕ) → p ≤ n → take p (tabulate g n) ≡ tabulate g p
unfolding tabulate
take-tabulate g zero p h = let z : p ≡ 0 = omega arith in rw z refl
take-tabulate g (suc n) p h = go (eq-or-lt_of_le h) (take-tabulate g n p)
  where
    go : (p ≡ suc n) ⊎ (p < suc n) → (p ≤ n → take p (tabulate g n) ≡ tabulate g p) → take p (tabulate g (suc n)) ≡ tabulate g p
    go (inl e) k = rw e (take_all (suc n) (tabulate g (suc n)) (omega (arith, tabulate-length g (suc n))))
    go (inr l) k = take-append-le p (tabulate g n) (g n ∷ []) (omega (arith, tabulate-length g n)) ∙ k (omega arith)

reverse-tabulate : {A : Type 0} (g : ℕ → A) (p : ℕ) → reverse_aux (tabulate g (suc p)) [] ≡ g p ∷ reverse_aux (tabulate g p) []
unfolding tabulate
reverse-tabulate g p = reverse_snoc (tabulate g p) (g p) []

module _ (g : ℕ → Component) (n : ℕ) where
  left_suc : (p : ℕ) → p < n → left_side (suc p) (tabulate g n) ≡ g p ∷ left_side p (tabulate g n)
  left_suc p k = rw (take-tabulate g n (suc p) k, take-tabulate g n p (omega arith)) (reverse-tabulate g p)

  pub left_pred : (p : ℕ) → 0 < p → p ≤ n → left_side p (tabulate g n) ≡ g (p - 1) ∷ left_side (p - 1) (tabulate g n)
  left_pred zero h k = absurd (omega arith)
  left_pred (suc p) h k = let z : suc p - 1 ≡ p = omega arith in rw z (left_suc p k)

  module _ (cap : ℕ) where
    abbrev at : ℕ → ℕ → ℕ → ℕ → ℕ
    at a b p q = rows cap a b (left_side p (tabulate g n)) (right_side q (tabulate g n))

    module _ (a b p q : ℕ) where
      pub at_top : at a b 0 q ≡ b + at 0 0 0 q
      at_top = rw (rows_no_left cap a b (right_side q (tabulate g n)), rows_no_left cap 0 0 (right_side q (tabulate g n)), zero-add (tall (right_side q (tabulate g n)))) refl

      module _ (some : 0 < p) (within : p ≤ n) where
        pub at_side : n ≤ q → at a b p q ≡ a + at 0 0 p q
        at_side h = rw (left_pred p some within, tabulate_end g n q h, rows_no_right cap a b (g (p - 1)) (left_side (p - 1) (tabulate g n)), rows_no_right cap 0 0 (g (p - 1)) (left_side (p - 1) (tabulate g n)), zero-add (tall (g (p - 1) ∷ left_side (p - 1) (tabulate g n)))) refl

        module _ (more : q < n) where
          pub at_left : wd (g (p - 1)) + wd (g q) ≤ cap → a + ht (g (p - 1)) ≤ b + ht (g q) → at a b p q ≡ at (a + ht (g (p - 1))) b (p - 1) q
          at_left f o = rw (left_pred p some within, tabulate-drop g n q more) (rows_left cap a b (g (p - 1)) _ (g q) _ f o)

          pub at_right : wd (g (p - 1)) + wd (g q) ≤ cap → b + ht (g q) < a + ht (g (p - 1)) → at a b p q ≡ at a (b + ht (g q)) p (q + 1)
          at_right f o = rw (left_pred p some within, tabulate-drop g n q more) (rows_right cap a b (g (p - 1)) _ (g q) _ f o)

          pub at_clash : cap < wd (g (p - 1)) + wd (g q) → at a b p q ≡ min (a + ht (g (p - 1)) + at 0 0 (p - 1) q) (b + ht (g q) + at 0 0 p (q + 1))
          at_clash f = rw (left_pred p some within, tabulate-drop g n q more) (rows_clash cap a b (g (p - 1)) _ (g q) _ f)

    pub corner : (q : ℕ) → n ≤ q → at 0 0 0 q ≡ 0
    unfolding rows tall
    corner q h = rw (tabulate_end g n q h) refl

    pub top_next : (q : ℕ) → q < n → at 0 0 0 q ≡ ht (g q) + at 0 0 0 (q + 1)
    unfolding rows tall
    top_next q h = rw (tabulate-drop g n q h) (simp zero-add)

    pub side_next : (p q : ℕ) → p < n → n ≤ q → at 0 0 (p + 1) q ≡ ht (g p) + at 0 0 p q
    unfolding tall
    side_next p q h k = rw (tabulate_end g n q k, add-one, left_suc p h, rows_only_left cap (left_side p (tabulate g n)), rows_only_left cap (g p ∷ left_side p (tabulate g n))) refl

  -- Each side is as tall as its components.
  module _ (low : (i : ℕ) → ht (g i) ≤ 4000) where
    tall_left : (p : ℕ) → p ≤ n → tall (left_side p (tabulate g n)) ≤ 4000 * p
    unfolding tall
    tall_left zero h = omega arith
    tall_left (suc p) h = rw (left_suc p h) (omega (arith, tall_left p (omega arith), low p))

    tall_right : (k q : ℕ) → k + q ≡ n → tall (right_side q (tabulate g n)) ≤ 4000 * k
    unfolding tall
    tall_right zero q e = rw (tabulate_end g n q (omega arith)) (omega arith)
    tall_right (suc k) q e = rw (tabulate-drop g n q (omega arith)) (omega (arith, tall_right k (q + 1) (omega arith), low q))

    pub at_le : (cap p q : ℕ) → p ≤ n → q ≤ n → at cap 0 0 p q ≤ 4000 * p + 4000 * (n - q)
    at_le cap p q h k = omega (arith, rows_le cap (left_side p (tabulate g n)) (right_side q (tabulate g n)) 0 0, tall_left p h, tall_right (n - q) q (omega arith))
