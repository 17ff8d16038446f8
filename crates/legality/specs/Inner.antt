-- What the functions of this crate ask and promise one another.
use Rattle.std.specs.Prelude.{Bool, ◌&&◌}
use Rattle.terms.specs.declared.Kind.{Kind}
use Rattle.folding.specs.declared.Placed.{Placed}
use Rattle.folding.specs.Legal.{in_range, in_order, left_first, left_clear, right_clear, on_side}

-- The rules of a component by itself, and those of one and the next, but for those of marks and of turning.
abbrev pub alone : Kind → Placed → Bool
alone kind x = in_range x && on_side kind x

abbrev pub follows : Placed → Placed → Bool
follows x y = in_order x y && left_first x y && left_clear x y && right_clear x y
