use Rattle.std.proofs.Common.{rules, refl, ap}
use Rattle.terms.proofs.Answers.{handed_on}
use Rattle.terms.specs.Answer.{answer_of}
use Rattle.stack.proofs.Reading.{no_pieces, room_kept}
use Rattle.stack.proofs.Stack.refill.Goals as goal

pub returns-in_err-n-clause-answers : goal.returns-in_err-n-clause-answers
returns-in_err-n-clause-answers c =
    rw (handed_on _ _ c.from_residual.ensures.1, ← no_pieces _ _ _ (search rules) c.read_pieces.ensures _ (ap answer_of c.in_err-n.was)) refl

pub returns-in_err-n-clause-held : goal.returns-in_err-n-clause-held
returns-in_err-n-clause-held c =
    rw (room_kept _ _ _ (search rules) c.read_pieces.ensures _ (ap answer_of c.in_err-n.was), ← no_pieces _ _ _ (search rules) c.read_pieces.ensures _ (ap answer_of c.in_err-n.was)) (search rules)
