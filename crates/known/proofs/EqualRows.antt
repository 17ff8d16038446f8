-- Rows that are too long to be computed: all cells in one stack, and cells of one height.
use Prim.Native.Nat.{ℕ, zero, suc, ◌+◌, ◌-◌, ◌*◌, ◌≤◌, ◌<◌}
use mathlib.Core.Path.{◌≡◌, refl, ap, ◌∙◌}
use mathlib.Core.Logic.{inl, inr}
use mathlib.Core.List.{List, [], ◌∷◌}
use mathlib.Core.Bool.{true, false}
use native.Mathlib.Omega.{arith}
use lib.ListN.{length, replicate}
use Rattle.std.proofs.lemmas.Bool.{cases_lt, le-leb}
use Rattle.std.proofs.lemmas.List.{length-replicate}
use Rattle.terms.specs.Answer.{refusal, result}
use Rattle.terms.specs.Component.{in_size}
use Rattle.terms.proofs.Bools.{and_is}
use Rattle.cells.specs.Endings.{total, greatest_behind, greatest_height, Ending}
use Rattle.cells.specs.Calls.{all_in_size, in_row_size, in_row_limit, tallest_cell, row_of}
use Rattle.cells.specs.Filling.{filled_behind, filled}
use Rattle.cells.proofs.Heights.{up_to_all}
use Rattle.cells.proofs.Fewest.{filled_ends, filled_keeps}
use Rattle.cells.proofs.Least.{all_shared}

all_equal : (n h : ℕ) → in_size h ≡ true → all_in_size (replicate n h) ≡ true
unfolding all_in_size
all_equal zero h e = refl
all_equal (suc n) h e = and_is e (all_equal n h e)

pub equal_total : (n h : ℕ) → total (replicate n h) ≡ n * h
unfolding total
equal_total zero h = omega arith
equal_total (suc n) h = omega (arith, equal_total n h)

module _ (n h limit : ℕ) where
  pub equal_row : in_row_size n ≡ true → in_size h ≡ true → in_row_limit limit ≡ true → row_of (replicate n h) limit ≡ result (replicate n h)
  equal_row e f g = rw (length-replicate n h, e, all_equal n h f, g)

  -- A row that is too long is so whatever its cells are.
  pub too_many : in_row_size n ≡ false → row_of (replicate n h) limit ≡ refusal 12
  too_many e = rw (length-replicate n h, e)

-- The rest goes onto the growing stack where it keeps the limit with it.
all_onto : (limit at growing : ℕ) (rest : List ℕ) → growing + total rest ≤ limit → filled_behind limit at growing rest ≡ (at + length rest) ∷ []
unfolding filled_behind total
all_onto limit at growing [] l = let n : at ≡ at + 0 = omega arith in ap (λ (k : ℕ). k ∷ []) n
all_onto limit at growing (h ∷ rest) l =
    let n : (at + 1) + length rest ≡ at + length (h ∷ rest) = omega arith in
    rw (le-leb (growing + h) limit (omega (arith, l))) (all_onto limit (at + 1) (growing + h) rest (omega (arith, l)) ∙ ap (λ (k : ℕ). k ∷ []) n)

-- A stack that is the only one has all cells.
one_has_all : (hs es : List ℕ) → Ending hs es → length es ≤ 1 → total hs ≤ greatest_height hs es
one_has_all hs [] e l = omega (arith, all_shared hs [] e)
one_has_all hs (d ∷ []) e l = omega (arith, all_shared hs (d ∷ []) e)
one_has_all hs (d ∷ f ∷ es) e l = absurd (omega (arith, l))

module _ (hs : List ℕ) where
  pub one_stack : (limit : ℕ) → total hs ≤ limit → filled limit hs ≡ length hs ∷ []
  one_stack limit l = let z : 0 + length hs ≡ length hs = omega arith in all_onto limit 0 0 hs (omega (arith, l)) ∙ ap (λ (k : ℕ). k ∷ []) z

  -- As high as all cells.
  pub one_height : greatest_height hs (filled (total hs) hs) ≡ total hs
  unfolding greatest_behind
  one_height = rw (one_stack (total hs) (omega arith)) (omega (arith, up_to_all hs))

  -- At one less they are more.
  pub more_stacks : 0 < length hs → tallest_cell hs < total hs → 1 < length (filled (total hs - 1) hs)
  more_stacks some l =
      let t : tallest_cell hs ≤ total hs - 1 = omega (arith, l) in
      elim (cases_lt 1 (length (filled (total hs - 1) hs))) [
        | inl m ↦ m
        | inr m ↦ absurd (omega (arith, l, one_has_all hs (filled (total hs - 1) hs) (filled_ends hs (total hs - 1) some t) m, filled_keeps hs (total hs - 1) some t))
      ]
