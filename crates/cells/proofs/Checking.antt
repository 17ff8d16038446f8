-- What a row's sizes say of each of its cells.
use Prim.Native.Nat.{ℕ, ◌≤◌, ◌<◌}
use mathlib.Core.Path.{◌≡◌, refl, ◌∙◌}
use mathlib.Core.List.{List, [], ◌∷◌}
use mathlib.Core.Bool.{true, ◌&&◌}
use native.Mathlib.Omega.{arith}
use lib.ListN.{length}
use lib.Dec.{leb}
use Rattle.std.proofs.lemmas.Bool.{leb-true, le-leb}
use Rattle.terms.specs.Component.{in_size}
use Rattle.terms.specs.Numbers.{most_size}
use Rattle.terms.proofs.Bools.{both, and_is, same_truth}
use Rattle.cells.specs.declared.Sizes.{Sizes}
use Rattle.cells.specs.Calls.{all_in_size, tallest_cell}
use Rattle.cells.specs.Filling.{lowest, SizesOf}

size_in : (h : ℕ) → in_size h ≡ true → (1 ≤ h) × (h ≤ most_size)
size_in h e = let b = both (leb 1 h) (leb h most_size) e in (leb-true _ _ b.0, leb-true _ _ b.1)

in_size_so : (h : ℕ) → 1 ≤ h → h ≤ most_size → in_size h ≡ true
in_size_so h l m = and_is (le-leb 1 h l) (le-leb h most_size m)

all_within : (hs : List ℕ) → all_in_size hs ≡ true → (1 ≤ lowest hs) × (tallest_cell hs ≤ most_size)
unfolding all_in_size lowest tallest_cell
all_within [] e = (omega arith, omega arith)
all_within (h ∷ hs) e =
    let b = both (in_size h) (all_in_size hs) e in
    let s = size_in h b.0 in
    let r = all_within hs b.1 in
    (omega (arith, s.0, r.0), omega (arith, s.1, r.1))

each_within : (hs : List ℕ) → 1 ≤ lowest hs → tallest_cell hs ≤ most_size → all_in_size hs ≡ true
unfolding all_in_size lowest tallest_cell
each_within [] l m = refl
each_within (h ∷ hs) l m = and_is (in_size_so h (omega (arith, l)) (omega (arith, m))) (each_within hs (omega (arith, l)) (omega (arith, m)))

in_order : (hs : List ℕ) → 0 < length hs → lowest hs ≤ tallest_cell hs
unfolding lowest tallest_cell
in_order [] some = absurd (omega arith)
in_order (h ∷ hs) some = omega arith

module _ (hs : List ℕ) (s : Sizes) (some : 0 < length hs) (z : SizesOf hs s) where
  pub all_sized : all_in_size hs ≡ (in_size s.lowest && in_size s.tallest)
  all_sized =
      let o = in_order hs some in
      same_truth (all_in_size hs) (in_size s.lowest && in_size s.tallest)
      (λ e.
      let r = all_within hs e in
      and_is
      (in_size_so s.lowest (omega (arith, z.lowest_is, r.0)) (omega (arith, z.lowest_is, o, r.1)))
      (in_size_so s.tallest (omega (arith, z.tallest_is, o, r.0)) (omega (arith, z.tallest_is, r.1))))
      (λ e.
      let b = both (in_size s.lowest) (in_size s.tallest) e in
      each_within hs (omega (arith, z.lowest_is, size_in s.lowest b.0)) (omega (arith, z.tallest_is, size_in s.tallest b.1)))

  pub row_sized : (in_size s.lowest && in_size s.tallest) ≡ true → tallest_cell hs ≤ most_size
  row_sized e = (all_within hs (all_sized ∙ e)).1
