-- A fold adds its gaps where it is not barred, and is too high for every limit where it is.
use Prim.Native.Nat.{ℕ, ◌+◌, ◌-◌, ◌≤◌, ◌<◌}
use mathlib.Core.Path.{◌≡◌, sym, ◌∙◌}
use mathlib.Core.Logic.{◌⊎◌, inl, inr}
use mathlib.Core.List.{List}
use mathlib.Core.Bool.{true, false}
use native.Mathlib.Omega.{arith}
use lib.ListN.{length, take}
use borrow.Author.Tests.{not-true}
use Rattle.terms.specs.Seams.{gap_at, barred_at, components_in}
use Rattle.terms.proofs.Bools.{either}
use Rattle.group.specs.Group.{none, unbarred}
use Rattle.group.proofs.Gaps.{unbarred_behind}
use Rattle.group_height.specs.Heights.{fold_rows}

module _ (hs ws gs : List ℕ) (outer p : ℕ) (s : 0 < p) (h : p ≤ length hs) where
  pub rows_free : unbarred (take p (components_in hs ws gs)) ≡ true → fold_rows outer gs p ≡ outer + gap_at gs (p - 1)
  rows_free u = let n : barred_at gs (p - 1) ≡ false = not-true _ (sym (unbarred_behind hs ws gs p s h) ∙ u) in rw n

  pub free_or_far : (unbarred (take p (components_in hs ws gs)) ≡ true) ⊎ (none ≤ fold_rows outer gs p)
  free_or_far = go (either (barred_at gs (p - 1)))
    where
      go : (barred_at gs (p - 1) ≡ true) ⊎ (barred_at gs (p - 1) ≡ false) → (unbarred (take p (components_in hs ws gs)) ≡ true) ⊎ (none ≤ fold_rows outer gs p)
      go (inl e) = inr (rw e (omega arith))
      go (inr e) = inl (rw (unbarred_behind hs ws gs p s h, e))
