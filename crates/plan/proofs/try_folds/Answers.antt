use mathlib.Core.Path.{sym}
use Rattle.terms.proofs.Pieces.{heights_length}
use Rattle.plan.proofs.Trying.{flat_is, wide_4000, wide_some, best_low, narrow_asks, too_wide, folds_none, found_low, folds_tried}
use native.Mathlib.Omega.{arith}
use Rattle.plan.proofs.try_folds.Goals as goal

pub overflow_add-rest : goal.overflow_add-rest
overflow_add-rest c = omega (arith, wide_4000 c.requires.group_asks, c.requires.group_asks.rest_width)

pub returns-then-bound-rest-clause-result_value : goal.returns-then-bound-rest-clause-result_value
returns-then-bound-rest-clause-result_value c =
    too_wide c.requires.group_asks c.args.last _ c.too_wide-bound.ensures.width_le_result c.if-bound-rest.true

pub narrowest-requires : goal.narrowest-requires
narrowest-requires c =
    narrow_asks c.args.last c.requires.group_asks c.requires.word_asks _ _ (flat_is c.requires.group_asks (sym (heights_length c.args.stack.now)) c.flat_height.ensures)
    c.requires.free (omega (arith, c.min.ensures, c.if-bound-rest.false)) (omega (arith, c.min.ensures))

pub improved-requires : goal.improved-requires
improved-requires c = omega (
  arith,
  found_low c.args.last c.requires.group_asks _ c.too_wide-bound.ensures.width_le_result _ c.min.ensures c.narrowest.ensures.narrow (c.in_ok-group.was),
  c.min.ensures,
  wide_4000 c.requires.group_asks,
  c.requires.group_asks.rest_width,
  c.requires.group_asks.lists.few,
  heights_length c.args.stack.now,
)

pub returns-clause-result_value : goal.returns-clause-result_value
returns-clause-result_value c =
    folds_tried c.args.last c.requires.group_asks _ c.too_wide-bound.ensures.width_le_result _ c.min.ensures
    c.narrowest.ensures.narrow (c.in_ok-group.was) _ _ (omega (
      arith,
      c.if-bound-rest.false,
      c.too_wide-bound.ensures.result_bound,
      best_low c.requires.group_asks,
      wide_some c.requires.group_asks,
    )) (sym (heights_length c.args.stack.now)) c.improved.ensures

pub returns-in_err-group-clause-result_value : goal.returns-in_err-group-clause-result_value
returns-in_err-group-clause-result_value c =
    rw c.from_residual.ensures
    (folds_none c.args.last c.requires.group_asks _ c.too_wide-bound.ensures.width_le_result _ c.min.ensures
    c.narrowest.ensures.narrow c.in_err-group.was)
