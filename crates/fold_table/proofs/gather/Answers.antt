use mathlib.Core.Path.{◌∙◌}
use native.Mathlib.Omega.{arith}
use Rattle.best.proofs.Planning.{met, unmet}
use Rattle.fold.proofs.Held.{stacked_room}
use Rattle.fold_table.proofs.Tables.{all_counted, no_more, counted}
use Rattle.fold_table.proofs.gather.Goals as goal

pub returns-in_default : goal.returns-in_default
returns-in_default c =
    no_more (stacked_room c.requires.room) c.loop-limit.invariant.gathered (unmet _ _ _ c.loop-limit.invariant.same c.outline.ensures.outlined c.in_default.is)

pub overflow_sub-limit : goal.overflow_sub-limit
overflow_sub-limit c =
    let f = counted (stacked_room c.requires.room) c.loop-limit.invariant.gathered (met _ _ _ c.loop-limit.invariant.same c.outline.ensures.outlined c.in-Some.is) in
    omega (arith, f.high)

pub overflow_add-n : goal.overflow_add-n
overflow_add-n c =
    let f = counted (stacked_room c.requires.room) c.loop-limit.invariant.gathered (met _ _ _ c.loop-limit.invariant.same c.outline.ensures.outlined c.in-Some.is) in
    omega (arith, f.few)

pub loop-limit-smaller : goal.loop-limit-smaller
loop-limit-smaller c =
    let f = counted (stacked_room c.requires.room) c.loop-limit.invariant.gathered (met _ _ _ c.loop-limit.invariant.same c.outline.ensures.outlined c.in-Some.is) in
    omega (arith, f.high, f.falls)

pub loop-limit-preserved : goal.loop-limit-preserved
loop-limit-preserved c =
    let f = counted (stacked_room c.requires.room) c.loop-limit.invariant.gathered (met _ _ _ c.loop-limit.invariant.same c.outline.ensures.outlined c.in-Some.is) in
    record {
      same = c.outline.ensures.same ∙ c.loop-limit.invariant.same;
      gathered = f.more c.keep_pair.ensures c.keep_pair.auto.pairs;
    }

pub returns : goal.returns
returns c = all_counted (stacked_room c.requires.room) c.loop-limit.invariant.gathered c.loop-limit-test.false
