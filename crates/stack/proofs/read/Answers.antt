use Rattle.std.proofs.Common.{arith, sym}
use Rattle.terms.specs.declared.Kind.TheVariants.{Apart}
use Rattle.stack.proofs.Reading.{fillable, all_read}
use Rattle.stack.proofs.read.Goals as goal

pub fill-requires : goal.fill-requires
fill-requires c =
    rw c.in_ok-checked.ensures.same_file (fillable Apart _ (sym c.in_ok-checked.ensures.count) _ (omega arith))

pub returns : goal.returns
returns c = all_read _ _ _ _ _ (sym c.in_ok-checked.ensures.count) (omega arith) (rw c.in_ok-checked.ensures.same_file at c.fill.ensures)
