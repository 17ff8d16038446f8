use Rattle.terms.proofs.Pieces.{heights_length}
use Rattle.group_search.proofs.Turns.{settle_top, settle_side, settle_clash}
use native.Mathlib.Omega.{arith}
use Rattle.group_search.proofs.settle.Goals as goal

pub returns-then-x-eq0 : goal.returns-then-x-eq0
returns-then-x-eq0 c = settle_top c.requires _ c.if-x-eq0.true c.offer.ensures

pub returns-then-y-stack : goal.returns-then-y-stack
returns-then-y-stack c =
    settle_side c.requires _ (omega arith) (omega (arith, c.if-y-stack.true, heights_length c.args.stack.now)) c.offer-then-y-stack.ensures

pub returns : goal.returns
returns c =
    settle_clash c.requires _ _ (omega arith) (omega (arith, c.requires.within, heights_length c.args.stack.now))
    (omega (arith, c.height.ensures.value)) (omega (arith, c.height-2.ensures.value))
    (omega (arith, c.min.ensures, c.width.ensures.value, c.width-2.ensures.value)) c.offer-one.ensures c.offer-2.ensures
