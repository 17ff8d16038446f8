use mathlib.Core.Path.{sym, ◌∙◌}
use Prim.Native.Nat.{◌≤◌}
use native.Mathlib.Omega.{arith}
use lib.ListN.{length, take}
use lib.Seq.{length-take-le}
use Rattle.std.proofs.lemmas.List.{length-map}
use Rattle.terms.specs.Pieces.{heights_in, widths_in, seams_in}
use Rattle.terms.proofs.Pieces.{heights_length}
use Rattle.folding.specs.Placement.{placement_of}
use Rattle.folding.proofs.InLists.{placed_front}
use Rattle.folding.proofs.StartRows.{all_at_start}
use Rattle.outline.proofs.outline_of.Goals as goal

pub of_each-requires : goal.of_each-requires
of_each-requires c =
    let s = c.args.stack.now in
    let rows = c.args.placements.now in
    let r = c.requires in
    let h = heights_length s in
    let l : length s ≤ length rows = omega (arith, r.placed, length-map rows placement_of, h) in
    record {
      stack = r.stack;
      one_each = length-map (take (length s) rows) placement_of ∙ length-take-le (length s) rows l ∙ sym h;
      is_legal = (r.is_legal.0, rw (placed_front (heights_in s) (widths_in s) (seams_in s) rows (length s) (omega (arith, h))) r.is_legal.1);
    }

pub returns-clause-value : goal.returns-clause-value
returns-clause-value c =
    let s = c.args.stack.now in
    let h = heights_length s in
    rw (placed_front (heights_in s) (widths_in s) (seams_in s) c.args.placements.now (length s) (omega (arith, h))) at c.of_each.ensures

pub returns-clause-all_at_start : goal.returns-clause-all_at_start
returns-clause-all_at_start c = all_at_start _
