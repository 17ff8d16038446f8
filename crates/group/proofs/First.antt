-- The first of several numbers at which a function keeps a limit.
use Prim.Native.Nat.{ℕ, zero, suc, ◌+◌, ◌≤◌, ◌<◌}
use mathlib.Core.Path.{◌≡◌, refl, ◌∙◌}
use mathlib.Core.Logic.{◌⊎◌, inl, inr}
use native.Mathlib.Omega.{arith}
use borrow.Author.Tests.{le-leb, lt-leb}
use Rattle.group.specs.Group.{none, first_from}
use Rattle.terms.proofs.Order.{order}

module _ (f : ℕ → ℕ) (limit : ℕ) where
  pub first_here : (c n : ℕ) → f c ≤ limit → first_from f limit c (suc n) ≡ c
  unfolding first_from
  first_here c n h = rw (le-leb (f c) limit h)

  first_later : (c n : ℕ) → limit < f c → first_from f limit c (suc n) ≡ first_from f limit (suc c) n
  unfolding first_from
  first_later c n h = rw (lt-leb (f c) limit h)

  -- There is none, or one of the n numbers from c on keeps the limit.
  abbrev pub Found : ℕ → ℕ → ℕ → Type 0
  Found c n r = (r ≡ none) ⊎ ((c ≤ r) × (r < c + n) × (f r ≤ limit))

  pub first_found : (c n : ℕ) → Found c n (first_from f limit c n)
  unfolding first_from
  first_found c zero = inl refl
  first_found c (suc n) = go (order (f c) limit) (first_found (suc c) n)
    where
      wider : Found (suc c) n (first_from f limit (suc c) n) → Found c (suc n) (first_from f limit (suc c) n)
      wider (inl e) = inl e
      wider (inr e) = inr (omega (arith, e.0), omega (arith, e.1), e.2)

      go : (f c ≤ limit) ⊎ (limit < f c) → Found (suc c) n (first_from f limit (suc c) n) → Found c (suc n) (first_from f limit c (suc n))
      go (inl h) i = rw (first_here c n h) (inr (omega arith, omega arith, h))
      go (inr h) i = rw (first_later c n h) (wider i)

  pub first_met : (c n : ℕ) → first_from f limit c n < none → (c ≤ first_from f limit c n) × (first_from f limit c n < c + n) × (f (first_from f limit c n) ≤ limit)
  first_met c n h = go (first_found c n)
    where
      go : Found c n (first_from f limit c n) → (c ≤ first_from f limit c n) × (first_from f limit c n < c + n) × (f (first_from f limit c n) ≤ limit)
      go (inl e) = absurd (omega arith)
      go (inr e) = e

  -- It is the first: none before it keeps the limit, and none is left out.
  pub first_is : (c n k : ℕ) → c ≤ k → k < c + n → f k ≤ limit → ((j : ℕ) → c ≤ j → j < k → limit < f j) → first_from f limit c n ≡ k
  first_is c zero k l u h b = absurd (omega arith)
  first_is c (suc n) k l u h b = go (order k c) (first_is (suc c) n k)
    where
      go : (k ≤ c) ⊎ (c < k) → (suc c ≤ k → k < suc c + n → f k ≤ limit → ((j : ℕ) → suc c ≤ j → j < k → limit < f j) → first_from f limit (suc c) n ≡ k) → first_from f limit c (suc n) ≡ k
      go (inl e) i = let z : k ≡ c = omega arith in rw z (first_here c n (rw z at h))
      go (inr e) i = first_later c n (b c (omega arith) e) ∙ i (omega arith) (omega arith) h (λ j p q. b j (omega arith) q)

  pub first_le : (c n k : ℕ) → c ≤ k → k < c + n → f k ≤ limit → first_from f limit c n ≤ k
  first_le c zero k l u h = absurd (omega arith)
  first_le c (suc n) k l u h = go (order (f c) limit) (order k c) (first_le (suc c) n k)
    where
      go : (f c ≤ limit) ⊎ (limit < f c) → (k ≤ c) ⊎ (c < k) → (suc c ≤ k → k < suc c + n → f k ≤ limit → first_from f limit (suc c) n ≤ k) → first_from f limit c (suc n) ≤ k
      go (inl e) o i = rw (first_here c n e) l
      go (inr e) (inl o) i = let z : k ≡ c = omega arith in absurd (omega (arith, e, rw z at h))
      go (inr e) (inr o) i = rw (first_later c n e) (i (omega arith) (omega arith) h)

  pub first_none : (c n : ℕ) → ((k : ℕ) → c ≤ k → k < c + n → limit < f k) → first_from f limit c n ≡ none
  unfolding first_from
  first_none c zero h = refl
  first_none c (suc n) h = first_later c n (h c (omega arith) (omega arith)) ∙ first_none (suc c) n (λ k l u. h k (omega arith) (omega arith))
