-- Measuring a stack in columns, and one that stands in a file.
use Rattle.std.proofs.Common.{◌≡◌, ℕ, ◌/◌, ◌≤◌, ◌<◌, List, true, false, not, length, take, sym, ◌∙◌, arith}
use borrow.Author.Tests.{lt-ltb, le-ltb}
use Rattle.std.proofs.lemmas.List.{length-map}
use Rattle.std.specs.Simd.{first_chunks}
use Rattle.terms.specs.declared.Kind.{Kind}
use Rattle.terms.specs.declared.Piece.{Piece}
use Rattle.terms.specs.Answer.{refusal, result, refuse_if}
use Rattle.terms.specs.Pieces.{columns, stack_in}
use Rattle.terms.specs.Seams.{component_in, components_in}
use Rattle.terms.proofs.Tabulate.{tabulate-length}
use Rattle.terms.proofs.Answers.{most_256}
use Rattle.terms.proofs.Lists.{heights_of, all_sized, heights_some}
use Rattle.stack.proofs.Valid.{valid}
use Rattle.stack.proofs.Reading.{Held, components_held, heights_held, widths_held, seams_held}
use Rattle.folding.specs.Legal.{legal}
use Rattle.folding.specs.Calls.{measure_in, measure_of}
use Rattle.folding.specs.Asks.{placed_in, outline_in, StackIn}
use Rattle.folding.specs.declared.Placed.{Placed}
use Rattle.folding.specs.Placement.{placements_in}
use Rattle.folding.proofs.InLists.{placed_columns}

module _ (kind : Kind) (hs ws seams flat : List ℕ) where
  -- Fewer whole placements than that are not handed out.
  pub too_few : length flat / 3 < length hs → refusal 8 ≡ measure_in kind (components_in hs ws seams) flat
  unfolding measure_in
  too_few h = rw (tabulate-length (component_in hs ws seams) (length hs), lt-ltb (length flat / 3) (length hs) h)

  -- The placements, as they stand three by three, as many as the stack has components.
  abbrev placed : List Placed
  placed = placed_in hs ws seams (placements_in (take (length hs) (first_chunks 3 (length flat / 3) flat)))

  module _ (h : length hs ≤ length flat / 3) where
    measured : measure_in kind (components_in hs ws seams) flat ≡ refuse_if (not (legal kind placed)) 10 (result (outline_in placed))
    unfolding measure_in
    measured = rw (
      tabulate-length (component_in hs ws seams) (length hs),
      le-ltb (length flat / 3) (length hs) h,
      placed_columns hs ws seams flat (length flat / 3) h,
    )

    pub broken : legal kind placed ≡ false → refusal 10 ≡ measure_in kind (components_in hs ws seams) flat
    broken e = rw (measured, e)

    pub outlined : legal kind placed ≡ true → result (outline_in placed) ≡ measure_in kind (components_in hs ws seams) flat
    outlined e = rw (measured, e)

-- The pieces that were read are a stack.
module _ {kind : Kind} {file : List ℕ} {s : List Piece} (h : Held kind file s) where
  pub stack_held : columns s StackIn
  stack_held =
      let cs = h.components in
      let v = (valid kind file cs h.checked).stack in
      let l : length (heights_of cs) ≡ length cs = length-map cs _ in
      rw (heights_held h, widths_held h, seams_held h) (record {
        some = omega (arith, v.some);
        few = omega (arith, v.few, most_256 kind);
        widths_long = length-map cs _ ∙ sym l;
        seams_long = length-map cs _ ∙ sym l;
        tall = heights_some cs (all_sized cs v.sizes);
      })

  pub measure_held : (flat : List ℕ) → measure_in kind (stack_in s) flat ≡ measure_of kind file flat
  measure_held flat = rw (components_held h) (sym (rw h.checked))
