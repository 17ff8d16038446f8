use Rattle.std.proofs.Common.{◌≡◌, ◌-◌, length, sym, arith}
use Rattle.std.proofs.lemmas.Result.{err_from_is_err_and}
use Rattle.terms.specs.declared.Refusal.TheVariants.{ShortBuffer}
use Rattle.terms.specs.Pieces.{heights_in, widths_in, seams_in}
use Rattle.terms.proofs.Pieces.{heights_length}
use Rattle.measure.proofs.Measuring.{too_few, broken, outlined}
use Rattle.measure.proofs.measure_stack.Goals as goal

pub returns-in_err-placements : goal.returns-in_err-placements
returns-in_err-placements c =
    let s = c.args.stack.now in
    let p = err_from_is_err_and c.from_residual.result c.from_residual.ensures.1 in
    let none = c.in_err-placements.ensures.ok_part in
    let v = rw none at c.in_err-placements.ensures.value in
    let e : c.in_err-placements.field-0.0 ≡ ShortBuffer = cc in
    rw (p.1, p.2, e) (too_few c.args.kind (heights_in s) (widths_in s) (seams_in s) c.args.flat.now
    (omega (arith, heights_length c.args.stack.now, c.as_chunks.ensures.front_len, rw none at c.get.ensures.lookup.0)))

pub returns-then-not-is_legal : goal.returns-then-not-is_legal
returns-then-not-is_legal c =
    let s = c.args.stack.now in
    let z : length s - 0 ≡ length (heights_in s) = omega (arith, heights_length s) in
    let g = rw c.in_ok-placements.ensures.ok_part at c.get.ensures.lookup.0 in
    broken c.args.kind (heights_in s) (widths_in s) (seams_in s) c.args.flat.now
    (omega (arith, heights_length c.args.stack.now, c.as_chunks.ensures.front_len, g.1))
    (rw (c.if-not-is_legal.true, g.2, z, c.as_chunks.ensures.front) at (sym c.is_legal.ensures))

pub returns : goal.returns
returns c =
    let s = c.args.stack.now in
    let z : length s - 0 ≡ length (heights_in s) = omega (arith, heights_length s) in
    let g = rw c.in_ok-placements.ensures.ok_part at c.get.ensures.lookup.0 in
    rw (c.outline_of.ensures.value, g.2, z, c.as_chunks.ensures.front)
    (outlined c.args.kind (heights_in s) (widths_in s) (seams_in s) c.args.flat.now
    (omega (arith, heights_length c.args.stack.now, c.as_chunks.ensures.front_len, g.1))
    (rw (c.if-not-is_legal.false, g.2, z, c.as_chunks.ensures.front) at (sym c.is_legal.ensures)))
