-- The rows and the greatest width of the first components.
use Prim.Native.Nat.{ℕ, suc, ◌+◌, ◌*◌, ◌≤◌, ◌<◌, max}
use mathlib.Core.Path.{◌≡◌, refl}
use mathlib.Core.Bool.{false}
use mathlib.Core.List.{List, []}
use native.Mathlib.Numerals.{add-one}
use native.Mathlib.Omega.{arith}
use lib.ListN.{length, get_or, take, get_or-map}
use lib.Seq.{take_all}
use Rattle.terms.specs.declared.Piece.{Piece}
use Rattle.terms.specs.Seams.{component_in}
use Rattle.terms.specs.Pieces.{heights_in, widths_in, seams_in, stack_in}
use Rattle.terms.proofs.Pieces.{heights_length}
use Rattle.group.specs.Rows.{tall}
use Rattle.group.specs.Group.{widest}
use Rattle.plan.specs.declared.Sizes.{Sizes}
use Rattle.plan.specs.Asks.{SizesOf}
use Rattle.plan.proofs.Columns.{component_at_lem, stack_length, tall_more, widest_more}

-- In place of a piece, where there is none.
abbrev pub no_piece : Piece
no_piece = record { height = 0; width = 0; gap = 0; barred = false }

-- The first i are added up.
pub record SizesTo (s : List Piece) (z : Sizes) (i : ℕ) : Type 0 where
  pub tall_is : z.tall.0 ≡ tall (take i (stack_in s))
  pub widest_is : z.widest.0 ≡ widest (take i (stack_in s))
  pub low : z.tall.0 ≤ 4000 * i

module _ (s : List Piece) where
  pub sizes_start : SizesTo s (record { tall = record { 0 = 0 }; widest = record { 0 = 0 } }) 0
  unfolding tall widest
  sizes_start = record { tall_is = refl; widest_is = refl; low = omega arith }

  pub sizes_more : {z z' : Sizes} {i : ℕ} → ((j : ℕ) → get_or (heights_in s) j 0 ≤ 4000) → i < length s → SizesTo s z i
      → z'.tall.0 ≡ z.tall.0 + (get_or s i no_piece).height → z'.widest.0 ≡ max z.widest.0 (get_or s i no_piece).width → SizesTo s z' (i + 1)
  sizes_more {z} {z'} {i} low h t et ew =
      let here : i < length (stack_in s) = omega (arith, stack_length s) in
      let is = component_at_lem (heights_in s) (widths_in s) (seams_in s) i (omega (arith, heights_length s)) in
      let high : get_or (heights_in s) i 0 ≡ (get_or s i no_piece).height = get_or-map (λ x. x.height) s i no_piece in
      let wide : get_or (widths_in s) i 0 ≡ (get_or s i no_piece).width = get_or-map (λ x. x.width) s i no_piece in
      let e : tall (take (suc i) (stack_in s)) ≡ tall (take i (stack_in s)) + get_or (heights_in s) i 0 = rw is at (tall_more (stack_in s) i (component_in [] [] [] 0) here) in
      let f : widest (take (suc i) (stack_in s)) ≡ max (widest (take i (stack_in s))) (get_or (widths_in s) i 0) = rw is at (widest_more (stack_in s) i (component_in [] [] [] 0) here) in
      rw (add-one i) (record {
        tall_is = omega (arith, et, t.tall_is, high);
        widest_is = omega (arith, ew, t.widest_is, wide);
        low = omega (arith, et, t.low, low i, high);
      })

  pub sizes_all : {z : Sizes} {i : ℕ} → length (heights_in s) ≤ 256 → i ≡ length s → SizesTo s z i → SizesOf (stack_in s) z
  sizes_all {z} {i} few e t =
      let all = take_all i (stack_in s) (omega (arith, stack_length s)) in
      record { tall_is = rw all at t.tall_is; widest_is = rw all at t.widest_is; low = omega (arith, t.low, heights_length s) }
