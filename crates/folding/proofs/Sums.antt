-- Sums of a number for each of 0, 1, 2 and so on.
use Prim.Native.Nat.{ℕ, zero, suc, ◌+◌, ◌*◌, ◌≤◌, ◌<◌}
use mathlib.Core.Path.{◌≡◌, refl}
use mathlib.Core.Logic.{◌⊎◌, inl, inr}
use native.Mathlib.Nat.{eq-or-lt_of_le, le_of_suc-le-suc, suc-mul}
use native.Mathlib.Numerals.{add-one}
use native.Mathlib.Omega.{arith}

-- f 0 + f 1 + .. + f (n - 1)
unfoldable pub total : (ℕ → ℕ) → ℕ → ℕ
total f zero = 0
total f (suc n) = total f n + f n

pub total_none : (f : ℕ → ℕ) → total f 0 ≡ 0
unfolding total
total_none f = refl

pub total_more : (f : ℕ → ℕ) (i : ℕ) → total f (i + 1) ≡ total f i + f i
unfolding total
total_more f i = rw add-one

pub total_most : (f : ℕ → ℕ) (n c : ℕ) → ((r : ℕ) → r < n → f r ≤ c) → total f n ≤ n * c
unfolding total
total_most f zero c h = omega arith
total_most f (suc n) c h = omega (arith, total_most f n c (λ r l. h r (omega arith)), h n (omega arith), suc-mul n c)

-- Of two sums from low up to high the first is at most the second, number by number.
pub total_le : (f g : ℕ → ℕ) (low high : ℕ) → low ≤ high → ((i : ℕ) → low ≤ i → i < high → f i ≤ g i) → total f high + total g low ≤ total g high + total f low
unfolding total
total_le f g low zero h k = let e : low ≡ 0 = omega arith in rw e (omega arith)
total_le f g low (suc high) h k = go (eq-or-lt_of_le h) (λ l. total_le f g low high l (λ i a b. k i a (omega arith)))
  where
    go : (low ≡ suc high) ⊎ (low < suc high) → (low ≤ high → total f high + total g low ≤ total g high + total f low) → total f (suc high) + total g low ≤ total g (suc high) + total f low
    go (inl e) i = rw e (omega arith)
    go (inr l) i = omega (arith, i (le_of_suc-le-suc l), k high (le_of_suc-le-suc l) (omega arith))

abbrev nothing : ℕ → ℕ
nothing i = 0

pub total_grows : (f : ℕ → ℕ) (low high : ℕ) → low ≤ high → total f low ≤ total f high
total_grows f low high h = omega (arith, total_le nothing f low high h (λ i a b. omega arith), total_le nothing nothing low high h (λ i a b. omega arith), total_most nothing low 0 (λ i l. omega arith), total_most nothing high 0 (λ i l. omega arith))

-- From low up to high nothing is added.
pub total_same : (f : ℕ → ℕ) (low high : ℕ) → low ≤ high → ((i : ℕ) → low ≤ i → i < high → f i ≡ 0) → total f high ≡ total f low
total_same f low high h k = omega (arith, total_grows f low high h, total_le f nothing low high h (λ i a b. omega (arith, k i a b)), total_most nothing low 0 (λ i l. omega arith), total_most nothing high 0 (λ i l. omega arith))
