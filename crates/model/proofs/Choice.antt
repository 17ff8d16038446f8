-- Which of two layouts is chosen.
use Prim.Native.Nat.{ℕ, ◌≤◌, ◌<◌}
use mathlib.Core.Path.{◌≡◌, refl, sym, ap, ◌∙◌}
use mathlib.Core.Logic.{◌⊎◌, inl, inr}
use mathlib.Core.Bool.{Bool, true, false, ◌&&◌, true≢false}
use native.Mathlib.Omega.{arith}
use lib.Dec.{ltb, eqb}
use borrow.Author.Tests.{ltb-true, eqb-true, lt-ltb, eq-eqb, le-ltb, ne_eqb}
use Rattle.terms.proofs.Bools.{both, one_of, or_left, or_right, and_is, either}
use Rattle.terms.proofs.Order.{order}
use Rattle.model.specs.Groups.{none}
use Rattle.model.specs.Layout.{Layout, unmet, better, choice, NoWorse}

-- What is no worse is no wider; and what is no wider is no worse, if it is no higher where it is as wide.
pub no_wider : {a b w h : ℕ} → (a < w) ⊎ ((a ≡ w) × (b ≤ h)) → a ≤ w
no_wider (inl p) = omega arith
no_wider (inr p) = omega (arith, p.0)

pub no_wider_nor_higher : {a b w h : ℕ} → a ≤ w → (a ≡ w → b ≤ h) → (a < w) ⊎ ((a ≡ w) × (b ≤ h))
no_wider_nor_higher {a} {b} {w} {h} p q = go (order w a)
  where
    go : (w ≤ a) ⊎ (a < w) → (a < w) ⊎ ((a ≡ w) × (b ≤ h))
    go (inl o) = let e : a ≡ w = omega arith in inr (e, q e)
    go (inr o) = inl o

pub no_worse_trans : (b c : Layout) (w h : ℕ) → NoWorse b c.width c.height → NoWorse c w h → NoWorse b w h
no_worse_trans b c w h (inl p) (inl q) = inl (omega arith)
no_worse_trans b c w h (inl p) (inr q) = inl (omega (arith, q.0))
no_worse_trans b c w h (inr p) (inl q) = inl (omega (arith, p.0))
no_worse_trans b c w h (inr p) (inr q) = inr (p.0 ∙ q.0, omega (arith, p.1, q.1))

better_true : (a b : Layout) → better a b ≡ true → NoWorse a b.width b.height
better_true a b e = go (one_of (ltb a.width b.width) (eqb a.width b.width && ltb a.height b.height) e)
  where
    go : (ltb a.width b.width ≡ true) ⊎ ((eqb a.width b.width && ltb a.height b.height) ≡ true) → NoWorse a b.width b.height
    go (inl p) = inl (ltb-true _ _ p)
    go (inr p) =
        let q = both (eqb a.width b.width) (ltb a.height b.height) p in
        let l : a.height < b.height = ltb-true _ _ q.1 in
        inr (eqb-true _ _ q.0, omega arith)

pub better_false : (a b : Layout) → better a b ≡ false → NoWorse b a.width a.height
better_false a b e = go (order b.width a.width) (order a.width b.width) (order b.height a.height)
  where
    go : (b.width ≤ a.width) ⊎ (a.width < b.width) → (a.width ≤ b.width) ⊎ (b.width < a.width) → (b.height ≤ a.height) ⊎ (a.height < b.height)
        → NoWorse b a.width a.height
    go (inr p) q r = absurd (true≢false (sym (or_left _ (lt-ltb a.width b.width p)) ∙ e))
    go (inl p) (inr q) r = inl q
    go (inl p) (inl q) (inl r) = inr (omega arith, r)
    go (inl p) (inl q) (inr r) =
        absurd (true≢false (sym (or_right (ltb a.width b.width) (and_is (eq-eqb a.width b.width (omega arith)) (lt-ltb a.height b.height r))) ∙ e))

pub and_none : (c : Bool) → (c && false) ≡ false
and_none true = refl
and_none false = refl

not_better : (a b : Layout) → NoWorse b a.width a.height → better a b ≡ false
not_better a b (inl p) = rw (le-ltb a.width b.width (omega arith), ne_eqb a.width b.width (λ e. omega arith))
not_better a b (inr p) = rw (le-ltb a.width b.width (omega (arith, p.0)), le-ltb a.height b.height p.1) (and_none (eqb a.width b.width))

-- What is better than b is better than all that b is no worse than.
pub better_still : (a b c : Layout) → better a b ≡ true → NoWorse b c.width c.height → better a c ≡ true
better_still a b c e n = go (either (better a c))
  where
    go : (better a c ≡ true) ⊎ (better a c ≡ false) → better a c ≡ true
    go (inl p) = p
    go (inr p) = absurd (true≢false (sym e ∙ not_better a b (no_worse_trans b c _ _ n (better_false a c p))))

-- The chosen one is one of the two, and no worse than either.
pub choice_first : (a b : Layout) → better a b ≡ true → choice a b ≡ a
choice_first a b e = rw e

pub choice_second : (a b : Layout) → better a b ≡ false → choice a b ≡ b
choice_second a b e = rw e

pub choice_no_worse_first : (a b : Layout) → NoWorse (choice a b) a.width a.height
choice_no_worse_first a b = go (either (better a b))
  where
    go : (better a b ≡ true) ⊎ (better a b ≡ false) → NoWorse (choice a b) a.width a.height
    go (inl e) = rw (choice_first a b e) (inr (refl, omega arith))
    go (inr e) = rw (choice_second a b e) (better_false a b e)

pub choice_no_worse_second : (a b : Layout) → NoWorse (choice a b) b.width b.height
choice_no_worse_second a b = go (either (better a b))
  where
    go : (better a b ≡ true) ⊎ (better a b ≡ false) → NoWorse (choice a b) b.width b.height
    go (inl e) = rw (choice_first a b e) (better_true a b e)
    go (inr e) = rw (choice_second a b e) (inr (refl, omega arith))

-- The second is kept unless the first is better.
pub choice_keeps : (a b : Layout) → NoWorse b a.width a.height → choice a b ≡ b
choice_keeps a b n = choice_second a b (not_better a b n)

-- All that a scan gives is no worse than none.
abbrev pub Fair : Layout → Type 0
Fair b = NoWorse b none none

pub fair_choice : (a b : Layout) → Fair b → Fair (choice a b)
fair_choice a b f = no_worse_trans (choice a b) b none none (choice_no_worse_second a b) f

pub choice_unmet : (b : Layout) → Fair b → choice unmet b ≡ b
choice_unmet b f = choice_keeps unmet b f

-- What is chosen where nothing as wide as a bound is wanted: the same, or something that wide as well.
abbrev pub Below : ℕ → Layout → Layout → Type 0
Below bound s b = (b ≡ s) ⊎ ((bound < none) × (bound ≤ s.width) × (bound ≤ b.width))

narrower_first : (a b : Layout) → a.width < b.width → choice a b ≡ a
narrower_first a b h = choice_first a b (or_left _ (lt-ltb a.width b.width h))

pub below_choice : (bound : ℕ) (a s b : Layout) → Below bound s b → Below bound (choice a s) (choice a b)
below_choice bound a s b (inl e) = inl (ap (λ (z : Layout). choice a z) e)
below_choice bound a s b (inr p) = go (order bound a.width)
  where
    wide : (z : Layout) → bound ≤ a.width → bound ≤ z.width → bound ≤ (choice a z).width
    wide z h k = pick (either (better a z))
      where
        pick : (better a z ≡ true) ⊎ (better a z ≡ false) → bound ≤ (choice a z).width
        pick (inl e) = rw (choice_first a z e) h
        pick (inr e) = rw (choice_second a z e) k

    go : (bound ≤ a.width) ⊎ (a.width < bound) → Below bound (choice a s) (choice a b)
    go (inl h) = inr (p.0, wide s h p.1, wide b h p.2)
    go (inr h) = inl (narrower_first a b (omega (arith, p.2)) ∙ sym (narrower_first a s (omega (arith, p.1))))
