use Rattle.std.proofs.Common.{rules, true, false, length}
use mathlib.Core.Path.{◌≡◌, refl, sym, ◌∙◌}
use Rattle.cells.specs.Calls.{in_row_size, in_row_limit}
use Rattle.cells.proofs.Checking.{all_sized, row_sized}
use Rattle.cells.proofs.check_row.Goals as goal

pub returns-then-not-in_range : goal.returns-then-not-in_range
returns-then-not-in_range c =
    let n : in_row_size (length c.args.heights.now) ≡ true = search rules in
    let a = all_sized _ _ (search rules) c.sizes_of-sizes.ensures in
    rw (n, a, sym c.in_range.ensures ∙ c.if-not-in_range.true) refl

pub returns-then-not-contains-2 : goal.returns-then-not-contains-2
returns-then-not-contains-2 c =
    let n : in_row_size (length c.args.heights.now) ≡ true = search rules in
    let a = all_sized _ _ (search rules) c.sizes_of-sizes.ensures in
    let l : in_row_limit c.args.limit ≡ false = search rules in
    rw (n, a, sym c.in_range.ensures ∙ c.if-not-in_range.false, l) refl

pub returns : goal.returns
returns c =
    let n : in_row_size (length c.args.heights.now) ≡ true = search rules in
    let a = all_sized _ _ (search rules) c.sizes_of-sizes.ensures in
    let l : in_row_limit c.args.limit ≡ true = search rules in
    let s = sym c.in_range.ensures ∙ c.if-not-in_range.false in (
      rw (n, a, s, l) refl,
      search rules,
      search rules,
      c.sizes_of-sizes.ensures,
      record { some = search rules; few = search rules; low = row_sized _ _ (search rules) c.sizes_of-sizes.ensures s; sized = a ∙ s },
    )
