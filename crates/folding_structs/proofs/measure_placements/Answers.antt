use lib.Seq.{length-take-le, take_all}
use Rattle.std.proofs.Common.{take, ◌∙◌, arith}
use Rattle.folding_structs.proofs.Enough.{rows_read}
use Rattle.folding_structs.proofs.measure_placements.Goals as goal

pub returns : goal.returns
returns c =
    let ps = c.args.placements.now in
    let n = c.min-n.result in
    let l = length-take-le n ps (omega (arith, c.min-n.ensures)) in
    c.measure.ensures ∙ rw (c.as_flattened.ensures.value, c.as_slice.ensures.value)
    (rows_read c.args.kind c.args.file.now ps n c.loop-placement.numbers.items c.min-n.ensures
    (rw (take_all c.loop-placement.placement-index (take n ps) (omega arith)) at c.loop-placement.invariant))
