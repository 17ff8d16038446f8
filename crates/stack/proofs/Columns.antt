-- The components of a file: how many they are, a list that is filled with a part of each, and that their marks are small.
use Prim.Native.Nat.{ℕ, ◌+◌, ◌<◌, ◌≤◌}
use mathlib.Core.Path.{◌≡◌, refl}
use mathlib.Core.List.{List, ◌++◌, map}
use mathlib.Core.Bool.{true}
use lib.ListN.{length, drop, set}
use Rattle.terms.specs.declared.Component.{Component}
use Rattle.terms.specs.Component.{good_mark, every, tabulate}
use Rattle.stack.specs.File.{component_at, components_of}
use Rattle.stack.specs.Inner.{column_into}
use Rattle.terms.proofs.Lists.{none, all_marked, marked_at}
use Rattle.terms.proofs.Tabulate.{tabulate-set, tabulate-map, tabulate_at, tabulate-length}

pub tabulated : (g : ℕ → Component) (n : ℕ) → length (tabulate g n) ≡ n
tabulated g n = tabulate-length g n

pub counts : (file : List ℕ) (n : ℕ) → length (components_of file n) ≡ n
counts file n = tabulate-length (component_at file) n

module _ {A : Type 0} (part : Component → A) (file : List ℕ) (old : List A) where
  pub column_none : old ≡ column_into part file 0 old
  unfolding tabulate
  column_none = refl

  pub column_step : (l : List A) (i : ℕ) (v : A) → i < length old → l ≡ column_into part file i old → v ≡ part (component_at file i) → set l i v ≡ column_into part file (i + 1) old
  column_step l i v h e k = rw (e, k) (tabulate-set (λ j. part (component_at file j)) old i h)

  pub column-map : (n : ℕ) → column_into part file n old ≡ map part (components_of file n) ++ drop n old
  column-map n = rw (tabulate-map part (component_at file) n)

pub mark_fits : (file : List ℕ) (n : ℕ) → every good_mark (components_of file n) ≡ true → (i : ℕ) → i < n → (component_at file i).mark ≤ 1
mark_fits file n e i h =
    rw (tabulate_at (component_at file) n i none h) at (marked_at (components_of file n) (all_marked (components_of file n) e) i)
