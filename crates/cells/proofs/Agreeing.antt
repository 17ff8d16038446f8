-- Where an apart fold call takes the cells and the limit, so does the call over the row, and they answer alike.
use Prim.Native.Nat.{ℕ, ◌≤◌, ◌<◌}
use mathlib.Core.Path.{◌≡◌, refl, sym, ap, ◌∙◌}
use mathlib.Core.List.{List, [], ◌∷◌}
use mathlib.Core.Bool.{Bool, true, false}
use native.Mathlib.Omega.{arith}
use lib.ListN.{length}
use lib.Dec.{ltb}
use Rattle.std.proofs.lemmas.Bool.{ltb-true, le-leb}
use Rattle.terms.specs.Numbers.{most_apart}
use Rattle.terms.specs.Answer.{Answer, refusal, result, refuse_if}
use Rattle.terms.specs.Component.{in_size, good_size, every, ends}
use Rattle.terms.specs.declared.Kind.TheVariants.{Apart}
use Rattle.terms.proofs.Answers.{went_on}
use Rattle.terms.proofs.Bools.{both, and_is}
use Rattle.stack.proofs.Valid.{Valid, valid}
use Rattle.folding.specs.declared.Outline.{Outline}
use Rattle.stack.specs.File.{check_of}
use Rattle.fold.specs.Calls.{fold_checks, valid_of, by_height, by_width, Searched}
use Rattle.fold.proofs.Checks.{Lent, lent}
use Rattle.fold.proofs.OneAnswer.{valid_file}
use Rattle.cells.specs.declared.Stacks.{Stacks}
use Rattle.cells.specs.Endings.{FewestFor, LowestFor, NoneFor}
use Rattle.cells.specs.Calls.{all_in_size, in_row_size, in_row_limit, row_of, tallest_cell, Stacked, RowAnswered, CellsToHeight, CellsToCount}
use Rattle.cells.specs.Apart.{cell, cell_stack, SameWidth, SameHeight, ToHeightAsApart, ToCountAsApart}
use Rattle.cells.proofs.Least.{tallest_held}
use Rattle.cells.proofs.Cells.{cells-length}
use Rattle.cells.proofs.AsApart.{some_as_apart, none_as_apart, fewest_as_apart, any_as_apart, lowest_as_apart}

sized_cells : (hs : List ℕ) → every good_size (cell_stack hs) ≡ true → all_in_size hs ≡ true
unfolding every all_in_size
sized_cells [] e = refl
sized_cells (h ∷ hs) e =
    let b = both (good_size (cell h) (ends (cell_stack hs))) (every good_size (cell_stack hs)) e in
    and_is (both (in_size h) (in_size 1) b.0).0 (sized_cells hs b.1)

-- Under the tallest cell there are none.
pub none_for : (hs : List ℕ) (limit : ℕ) → limit < tallest_cell hs → NoneFor hs limit
none_for hs limit l es e k = omega (arith, l, k, tallest_held hs es e)

module _ (hs : List ℕ) (limit : ℕ) (file out work : List ℕ) (taken : valid_of Apart file limit out work ≡ result (cell_stack hs)) where
  checked : Valid Apart file (cell_stack hs)
  checked = valid Apart file (cell_stack hs) (valid_file Apart file limit out work (cell_stack hs) taken).0

  sized : all_in_size hs ≡ true
  sized = sized_cells hs checked.stack.sizes

  few : length hs ≤ most_apart
  few = omega (arith, checked.stack.few, cells-length hs)

  within : Lent limit (length out) (length work) (length (went_on (check_of Apart file) (λ ds. fold_checks limit (length out) (length work) (length ds) ds) (cell_stack hs) taken).0)
  within =
      let w = went_on (check_of Apart file) (λ ds. fold_checks limit (length out) (length work) (length ds) ds) (cell_stack hs) taken in
      lent limit (length out) (length work) (length w.0) w.0 (cell_stack hs) w.2

  -- So the row is taken.
  row_taken : row_of hs limit ≡ result hs
  row_taken =
      let n : in_row_size (length hs) ≡ true = and_is (le-leb 1 (length hs) (omega (arith, checked.stack.some, cells-length hs))) (le-leb (length hs) 60000 (omega (arith, few))) in
      let l : in_row_limit limit ≡ true = and_is (le-leb 1 limit within.low) (le-leb limit 240000000 (omega (arith, within.high))) in
      rw (n, sized, l) refl

  module _ (out' : List ℕ) where
    -- For a height.
    alike : (a : Answer Stacks) (apart : Answer Outline) (ends new : List ℕ) → Stacked (FewestFor hs limit) hs ends new a
        → Searched (by_height Apart limit) (cell_stack hs) out out' apart → SameWidth a apart
    alike (refusal j) (refusal k) ends new s t = absurd (some_as_apart hs few sized limit s.1.0 s.1.1.ending s.1.1.keeps t.1)
    alike (refusal j) (result o) ends new s t = s.0
    alike (result s) (refusal k) ends new p t = some_as_apart hs few sized limit p.0 p.1.ending p.1.keeps t.1
    alike (result s) (result o) ends new p t = p.2.count ∙ fewest_as_apart hs few sized limit p.0 p.1 _ o t.0

    none_alike : (apart : Answer Outline) → limit < tallest_cell hs → Searched (by_height Apart limit) (cell_stack hs) out out' apart → SameWidth (refusal 9) apart
    none_alike (refusal k) l t = sym t.0
    none_alike (result o) l t = absurd (none_as_apart hs few sized limit (none_for hs limit l) _ t.0.is_legal (omega (arith, ap (λ (o : Outline). o.height.0) t.0.has, t.0.keeps)))

    -- For a number of stacks.
    as_high : (a : Answer Stacks) (apart : Answer Outline) (ends new : List ℕ) → Stacked (LowestFor hs limit) hs ends new a
        → Searched (by_width Apart limit) (cell_stack hs) out out' apart → SameHeight a apart
    as_high (refusal j) (refusal k) ends new s t = any_as_apart hs few sized limit s.1.0 s.1.1 t.1
    as_high (refusal j) (result o) ends new s t = s.0
    as_high (result s) (refusal k) ends new p t = any_as_apart hs few sized limit p.0 p.1 t.1
    as_high (result s) (result o) ends new p t = p.2.greatest ∙ lowest_as_apart hs few sized limit p.0 p.1 _ o t.0

-- What the calls over a row answer is what the apart calls do.
module _ (hs : List ℕ) (limit : ℕ) (ends new : List ℕ) (a : Answer Stacks) where
  pub to_height_alike : CellsToHeight hs limit ends a new → ToHeightAsApart hs limit a
  to_height_alike p few file out work out' work' apart v t =
      go (ltb limit (tallest_cell hs)) refl (rw (row_taken hs limit file out work v) at p) (rw v at t)
    where
      go : (b : Bool) → ltb limit (tallest_cell hs) ≡ b → RowAnswered (FewestFor hs limit) ends new a (refuse_if b 9 (result hs))
          → Searched (by_height Apart limit) (cell_stack hs) out out' apart → SameWidth a apart
      go true e q s = rw q.0 (none_alike hs limit file out work v out' apart (ltb-true limit (tallest_cell hs) e) s)
      go false e q s = alike hs limit file out work v out' a apart ends new q s

  pub to_count_alike : CellsToCount hs limit ends a new → ToCountAsApart hs limit a
  to_count_alike p few file out work out' work' apart v t =
      as_high hs limit file out work v out' a apart ends new (rw (row_taken hs limit file out work v) at p) (rw v at t)
