use Rattle.std.proofs.Common.{◌≡◌, ℕ, ◌+◌, max, length, arith, rules, refl}
use Rattle.std.proofs.lemmas.List.{drop-drop}
use Rattle.std.proofs.lemmas.List.Sorted.{answers_always}
use Rattle.terms.specs.declared.Piece.{Piece}
use Rattle.outline.specs.Inner.{alike}
use Rattle.outline.proofs.Runs.{none_left, group_ends, run_placed, more_left}
use Rattle.outline.proofs.Walk.{map_part, walk_start, group_in, walk_on, walk_done}
use Rattle.outline.proofs.of_each.Goals as goal

pub loop-run-init : goal.loop-run-init
loop-run-init c = record { from = 0; walked = walk_start c.requires; pieces = refl; placed = search rules }

pub outline-outline-requires : goal.outline-outline-requires
outline-outline-requires c =
    let s = c.in-Some.ensures.steps in
    let by = s.2 alike (answers_always _ (λ a r. r ≡ alike a.0.now a.1.0.now) _ (λ f a r f' k. let m = k.met in search rules)) in
    let i = c.loop-run.invariant in
    let e = group_ends c.args.placements.now _ _ _ i.from i.placed s.0 s.1 by.1 in
    let p = run_placed c.args.placements.now _ _ _ i.from i.placed s.0 s.1 by.1 in
    let q = λ (f : Piece → ℕ). map_part f i.from (length c.in-Some.run'.now) c.args.stack.now c.loop-run.rest.now i.pieces in
    (rw (c.split_at.ensures.front, q (λ p. p.height), q (λ p. p.width), q _, p) (group_in c.requires i.walked e), i.walked.small)

pub loop-run-preserved : goal.loop-run-preserved
loop-run-preserved c =
    let s = c.in-Some.ensures.steps in
    let by = s.2 alike (answers_always _ (λ a r. r ≡ alike a.0.now a.1.0.now) _ (λ f a r f' k. let m = k.met in search rules)) in
    let i = c.loop-run.invariant in
    let e = group_ends c.args.placements.now _ _ _ i.from i.placed s.0 s.1 by.1 in
    let p = run_placed c.args.placements.now _ _ _ i.from i.placed s.0 s.1 by.1 in
    let q = λ (f : Piece → ℕ). map_part f i.from (length c.in-Some.run'.now) c.args.stack.now c.loop-run.rest.now i.pieces in
    let o = rw (c.split_at.ensures.front, q (λ p. p.height), q (λ p. p.width), q _, p) at c.outline-outline.ensures in
    let m : c.max-highest.result.0 ≡ max c.loop-run.highest.0 c.outline-outline.result.height.0 = search rules in
    record {
      from = i.from + length c.in-Some.run'.now;
      walked = walk_on c.requires i.walked e o.width_is o.height_is o.slim m (omega (arith, s.1))
          (rw (c.split_at.ensures.front_len, c.split_at.ensures.front, q _) at c.gap_behind-before.ensures.value) (omega (arith, c.gap_behind-before.ensures.upper_bound));
      pieces = rw (c.split_at.ensures.back, i.pieces) (drop-drop _ i.from _);
      placed = more_left c.args.placements.now _ _ _ i.from i.placed s.0 s.1 by.1;
    }

pub returns : goal.returns
returns c =
    let i = c.loop-run.invariant in
    let l = none_left c.args.placements.now _ i.from i.placed c.in-None.ensures.steps.0 in
    let d = walk_done c.requires i.walked (omega (arith, l, c.requires.one_each)) in
    rw (← d.0, ← d.1)
