use mathlib.Core.Path.{sym}
use Rattle.std.proofs.Common.{rules}
use Rattle.terms.proofs.Pieces.{heights_length}
use Rattle.plan.proofs.Trying.{flat_is, wide_4000, wider, flat_high, flat_tried}
use native.Mathlib.Omega.{arith}
use Rattle.plan.proofs.try_flat.Goals as goal

pub overflow_add-rest : goal.overflow_add-rest
overflow_add-rest c = omega (arith, wide_4000 c.requires.group_asks, c.requires.group_asks.rest_width)

pub returns-then-best-rest : goal.returns-then-best-rest
returns-then-best-rest c =
    λ last. wider c.requires.group_asks last (search rules)

pub returns-then-lt : goal.returns-then-lt
returns-then-lt c =
    let a = c.requires.group_asks in
    λ last. flat_high last a (flat_is a (sym (heights_length c.args.stack.now)) c.flat_height-height.ensures) c.requires.free (search rules)

pub returns : goal.returns
returns c =
    let a = c.requires.group_asks in
    λ last. flat_tried last a (flat_is a (sym (heights_length c.args.stack.now)) c.flat_height-height.ensures) c.requires.free _ _ (search rules)
    (sym (heights_length c.args.stack.now)) c.improved.ensures
