use mathlib.Core.Path.{◌∙◌}
use native.Mathlib.Omega.{arith}
use Rattle.std.proofs.Common.{rules}
use Rattle.best.proofs.Planning.{met}
use Rattle.fold.proofs.Limits.{falls, lower, exact}
use Rattle.fold.proofs.least_height.Goals as goal

pub loop-lo-preserved-then-eq : goal.loop-lo-preserved-then-eq
loop-lo-preserved-then-eq c =
    let i = c.loop-lo.invariant in
    rw c.in-Some.is (record {
      between = exact _ _ c.requires.stacked _ c.requires.w_most _ _ _ c.pick-mid.ensures.0
          c.pick-mid.ensures.1 i.between _ (met _ _ _ i.same c.outline-found.ensures.outlined c.in-Some.is).0
          (search rules) (search rules);
      same = c.outline-found.ensures.same ∙ i.same;
      counted = omega (arith, i.counted, c.loop-lo-test.true);
      few = omega arith;
    })

pub loop-lo-smaller-else-eq : goal.loop-lo-smaller-else-eq
loop-lo-smaller-else-eq c =
    let i = c.loop-lo.invariant in
    let f = falls _ _ c.requires.stacked _ c.requires.w_most _ _ _ c.pick-mid.ensures.0 c.pick-mid.ensures.1
    i.between _ (met _ _ _ i.same c.outline-found.ensures.outlined c.in-Some.is).0 (search rules) in
    rw c.in-Some.is (omega (arith, c.loop-lo-test.true, f))

pub loop-lo-preserved-else-eq : goal.loop-lo-preserved-else-eq
loop-lo-preserved-else-eq c =
    let i = c.loop-lo.invariant in
    let m = (met _ _ _ i.same c.outline-found.ensures.outlined c.in-Some.is).0 in
    let f = falls _ _ c.requires.stacked _ c.requires.w_most _ _ _ c.pick-mid.ensures.0 c.pick-mid.ensures.1 i.between _ m (search rules) in
    rw c.in-Some.is (record {
      between = lower _ _ c.requires.stacked _ c.requires.w_most _ _ _ c.pick-mid.ensures.0
          c.pick-mid.ensures.1 i.between _ m (search rules);
      same = c.outline-found.ensures.same ∙ i.same;
      counted = omega (arith, i.counted, f);
      few = omega arith;
    })
