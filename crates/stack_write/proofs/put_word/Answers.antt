-- The part that the two bytes are copied into comes back as two stores.
use Rattle.std.proofs.Common.{◌≡◌, ◌+◌, ◌-◌, [], ◌∷◌, sym, arith, append_assoc, add-one}
use Rattle.std.proofs.Math.Seq.{drop-drop}
use Rattle.std.proofs.lemmas.List.Edits.{sets-eq}
use Rattle.stack_write.specs.File.{low, high}
use Rattle.stack_write.proofs.put_word.Goals as goal

pub returns : goal.returns
returns c =
    let m : c.args.at + 2 - c.args.at ≡ 2 = omega arith in
    let e = sets-eq (low c.args.x ∷ high c.args.x ∷ []) c.args.out.now c.args.at c.requires in
    rw (c.copy_from_slice.ensures.after, c.to_le_bytes.ensures, m, drop-drop 2 c.args.at c.args.out.now, add-one)
    (sym (rw append_assoc at e))
