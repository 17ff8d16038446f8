-- A stack without a fold, summed up from its components.
use Prim.Native.Nat.{ℕ, zero, suc, ◌+◌, ◌-◌, ◌*◌, ◌≤◌, ◌<◌, max}
use mathlib.Core.Path.{◌≡◌, refl, sym, ◌∙◌}
use mathlib.Core.List.{List, [], ◌∷◌}
use mathlib.Core.Bool.{false}
use native.Mathlib.Nat.{mul-le-mul}
use native.Mathlib.Numerals.{add-one}
use native.Mathlib.Omega.{arith}
use lib.ListN.{length, get_or, get_or-map, take}
use lib.Seq.{take_all}
use Rattle.terms.specs.declared.Component.{Component}
use Rattle.terms.specs.declared.Kind.TheVariants.{Apart}
use Rattle.terms.specs.declared.Piece.{Piece}
use Rattle.terms.specs.Component.{cell_sum, tallest}
use Rattle.terms.specs.Pieces.{heights_in, widths_in, seams_in, columns, stack_in}
use Rattle.terms.specs.Seams.{gap_at, component_in}
use Rattle.terms.proofs.Pieces.{heights_length}
use Rattle.group.proofs.Gaps.{gap_behind_all}
use Rattle.layout.specs.Plan.{StackLists}
use Rattle.layout.proofs.Columns.{components_length}
use Rattle.plan.proofs.Columns.{component_at_lem}
use Rattle.plan.specs.declared.Sizes.{Sizes}
use Rattle.plan.specs.Asks.{SizesOf}
use Rattle.best.specs.declared.Cells.{Cells}
use Rattle.best.specs.Asks.{CellsOf, Unfolded}

abbrev none : Piece
none = record { height = 0; width = 0; gap = 0; barred = false }

abbrev nil : Component
nil = component_in [] [] [] 0

-- What one more component adds.
cells_more : (cs : List Component) (k : ℕ) (d : Component) → k < length cs → cell_sum (take (suc k) cs) ≡ cell_sum (take k cs) + (get_or cs k d).width.0 * (get_or cs k d).height.0
unfolding cell_sum
cells_more [] k d h = absurd (omega arith)
cells_more (x ∷ cs) zero d h = omega arith
cells_more (x ∷ cs) (suc k) d h = omega (arith, cells_more cs k d (omega arith))

tallest_more : (cs : List Component) (k : ℕ) (d : Component) → k < length cs → tallest (take (suc k) cs) ≡ max (tallest (take k cs)) (get_or cs k d).height.0
unfolding tallest
tallest_more [] k d h = absurd (omega arith)
tallest_more (x ∷ cs) zero d h = omega arith
tallest_more (x ∷ cs) (suc k) d h = omega (arith, tallest_more cs k d (omega arith))

-- The cells of the first k components, and the tallest of them.
pub record Summed (s : List Piece) (count high k : ℕ) : Type 0 where
  pub count_is : count ≡ cell_sum (take k (stack_in s))
  pub tallest_is : high ≡ tallest (take k (stack_in s))
  pub most : count ≤ 16000000 * k

pub sum_start : (s : List Piece) → Summed s 0 0 0
unfolding cell_sum tallest
sum_start s = record { count_is = refl; tallest_is = refl; most = omega arith }

-- The whole stack.
module _ (s : List Piece) (a : columns s (StackLists Apart)) where
  abbrev cs : List Component
  cs = stack_in s

  count_of : length cs ≡ length s
  count_of = components_length (heights_in s) (widths_in s) (seams_in s) ∙ heights_length s

  all_of : (k : ℕ) → k ≡ length s → take k cs ≡ cs
  all_of k e = take_all k cs (omega (arith, count_of))

  module _ {count high k : ℕ} (t : Summed s count high k) where
    -- The next piece.
    module _ (l : k < length s) (h w p : ℕ) (eh : h ≡ (get_or s k none).height) (ew : w ≡ (get_or s k none).width) (ep : p ≡ w * h) where
      high_is : get_or (heights_in s) k 0 ≡ h
      high_is = get_or-map (λ x. x.height) s k none ∙ sym eh

      wide_is : get_or (widths_in s) k 0 ≡ w
      wide_is = get_or-map (λ x. x.width) s k none ∙ sym ew

      pub product_most : p ≤ 16000000
      product_most =
          let u : w ≤ 4000 = omega (arith, wide_is, a.slim k) in
          let v : h ≤ 4000 = omega (arith, high_is, a.low k) in
          omega (arith, mul-le-mul u v)

      pub sum_more : (high' : ℕ) → high' ≡ max high h → Summed s (count + p) high' (k + 1)
      sum_more high' m =
          let here : k < length cs = omega (arith, count_of) in
          let at = component_at_lem (heights_in s) (widths_in s) (seams_in s) k (omega (arith, heights_length s)) in
          let e : cell_sum (take (suc k) cs) ≡ cell_sum (take k cs) + w * h = rw (at, high_is, wide_is) at (cells_more cs k nil here) in
          let f : tallest (take (suc k) cs) ≡ max (tallest (take k cs)) h = rw (at, high_is) at (tallest_more cs k nil here) in
          rw (add-one k) (record {
            count_is = omega (arith, t.count_is);
            tallest_is = omega (arith, t.tallest_is);
            most = omega (arith, t.most, product_most);
          })

    pub sum_all : k ≡ length s → CellsOf cs (record { count = count; tallest = record { 0 = high } })
    sum_all e = record {
      count_is = rw (all_of k e) at t.count_is;
      tallest_is = rw (all_of k e) at t.tallest_is;
      most = omega (arith, t.most, a.few, heights_length s);
    }

  pub unfolded : 0 < length s → (z : Sizes) → SizesOf cs z → (high : ℕ) → high ≡ z.tall.0 + 0 + gap_at (seams_in s) (length s - 1) → (d : Cells) → CellsOf cs d
      → Unfolded cs (record { widest = z.widest; tallest = d.tallest; height = record { 0 = high }; cells = d.count })
  unfolded some z m high h d t =
      let last : gap_at (seams_in s) (length (heights_in s) - 1) ≡ gap_at (seams_in s) (length s - 1) = rw (heights_length s) refl in
      record {
        widest_is = m.widest_is;
        tallest_is = t.tallest_is;
        height_is = omega (
          arith,
          m.tall_is,
          h,
          gap_behind_all (heights_in s) (widths_in s) (seams_in s) (omega (arith, heights_length s)),
          last,
        );
        low = omega (arith, h, m.low, a.near (length s - 1));
        cells_is = t.count_is;
        cells_most = t.most;
      }
