-- Laws of `every` over tabulated components: one component in turn.
use Prim.Native.Nat.{ℕ, ◌+◌, ◌<◌, ◌≤◌}
use mathlib.Core.Path.{◌≡◌}
use mathlib.Core.Logic.{◌⊎◌, inl, inr}
use mathlib.Core.Bool.{Bool, true, false, ◌&&◌}
use native.Mathlib.Nat.{eq-or-lt_of_le}
use native.Mathlib.Omega.{arith}
use lib.ListN.{drop}
use lib.Dec.{eqb}
use borrow.Author.Tests.{eq-eqb, ne_eqb}
use Rattle.terms.specs.declared.Component.{Component}
use Rattle.terms.specs.Component.{ends, every, tabulate}
use Rattle.terms.proofs.Tabulate.{tabulate-drop, tabulate_end}

module _ (rule : Component → Bool → Bool) (g : ℕ → Component) (n : ℕ) where
  ends_at : (i : ℕ) → i ≤ n → ends (drop i (tabulate g n)) ≡ eqb i n
  ends_at i h = go (eq-or-lt_of_le h)
    where
      go : (i ≡ n) ⊎ (i < n) → ends (drop i (tabulate g n)) ≡ eqb i n
      go (inl e) = rw (tabulate_end g n i (omega arith), eq-eqb i n e)
      go (inr l) = rw (tabulate-drop g n i l, ne_eqb i n (λ e. omega arith))

  module _ (i : ℕ) (h : i < n) where
    every_at : every rule (drop i (tabulate g n)) ≡ rule (g i) (eqb (i + 1) n) && every rule (drop (i + 1) (tabulate g n))
    unfolding every
    every_at = rw (tabulate-drop g n i h, ends_at (i + 1) (omega arith))

    pub every_kept : {b : Bool} → rule (g i) (eqb (i + 1) n) ≡ true → every rule (drop i (tabulate g n)) ≡ b → every rule (drop (i + 1) (tabulate g n)) ≡ b
    every_kept k e = rw (every_at, k) at e

    pub every_broken : {b : Bool} → rule (g i) (eqb (i + 1) n) ≡ false → every rule (drop i (tabulate g n)) ≡ b → false ≡ b
    every_broken k e = rw (every_at, k) at e

  pub every_done : (i : ℕ) {b : Bool} → n ≤ i → every rule (drop i (tabulate g n)) ≡ b → true ≡ b
  unfolding every
  every_done i h e = rw (tabulate_end g n i h) at e
