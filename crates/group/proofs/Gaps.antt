-- What the gaps and marks of a group's components are for: the rows do not see them, and the heights see two or three.
use Prim.Native.Nat.{ℕ, zero, suc, ◌-◌, ◌≤◌, ◌<◌}
use mathlib.Core.Path.{◌≡◌, refl, sym, ap, ◌∙◌}
use mathlib.Core.List.{List, [], ◌∷◌, ◌++◌}
use mathlib.Core.Bool.{not}
use native.Mathlib.Nat.{zero-add}
use native.Mathlib.Omega.{arith}
use lib.ListN.{length, take}
use Rattle.terms.specs.declared.Component.{Component}
use Rattle.terms.specs.Component.{tabulate}
use Rattle.terms.specs.Seams.{gap_at, barred_at, component_in, components_in}
use Rattle.model.specs.Groups.{gap_behind}
use Rattle.group.specs.Rows.{gap, tall}
use Rattle.group.specs.Group.{gap_after, unbarred}
use Rattle.group.specs.Table.{bare, entry}
use Rattle.group.proofs.Bare.{tall_bare, bare_is}
use Rattle.group.proofs.Indices.{rows_no_left, take-tabulate}

module _ (part : Component → ℕ) where
  last_snoc : (l : List Component) (x : Component) → gap_behind part (l ++ (x ∷ [])) ≡ part x
  unfolding gap_behind
  last_snoc [] x = refl
  last_snoc (y ∷ []) x = refl
  last_snoc (y ∷ z ∷ l) x = last_snoc (z ∷ l) x

  -- A part of the last of the first p components, and of the last of all.
  last_behind : (g : ℕ → Component) (n p : ℕ) → 0 < p → p ≤ n → gap_behind part (take p (tabulate g n)) ≡ part (g (p - 1))
  unfolding tabulate
  last_behind g n zero s h = absurd (omega arith)
  last_behind g n (suc p) s h = let z : suc p - 1 ≡ p = omega arith in rw (take-tabulate g n (suc p) h, z) (last_snoc (tabulate g p) (g p))

  last_behind_all : (g : ℕ → Component) (n : ℕ) → 0 < n → gap_behind part (tabulate g n) ≡ part (g (n - 1))
  last_behind_all g n s = ap (gap_behind part) (sym (take-tabulate g n n (omega arith))) ∙ last_behind g n n s (omega arith)

module _ (hs ws gs : List ℕ) where
  pub tall_entry : (cap : ℕ) → tall (components_in hs ws gs) ≡ entry hs ws cap 0 0
  tall_entry cap = sym (rw (rows_no_left cap 0 0 (bare hs ws), zero-add (tall (bare hs ws)), bare_is hs ws gs) (tall_bare (components_in hs ws gs)))

  pub gap_behind_lem : (p : ℕ) → 0 < p → p ≤ length hs → gap_after (take p (components_in hs ws gs)) ≡ gap_at gs (p - 1)
  gap_behind_lem = last_behind (λ x. gap x) (component_in hs ws gs) (length hs)

  pub gap_behind_all : 0 < length hs → gap_after (components_in hs ws gs) ≡ gap_at gs (length hs - 1)
  gap_behind_all = last_behind_all (λ x. gap x) (component_in hs ws gs) (length hs)

  pub unbarred_behind : (p : ℕ) → 0 < p → p ≤ length hs → unbarred (take p (components_in hs ws gs)) ≡ not (barred_at gs (p - 1))
  unbarred_behind p s h = rw (last_behind (λ x. x.mark) (component_in hs ws gs) (length hs) p s h)
