-- The components of placed ones, and the gap behind them.
use Prim.Native.Nat.{suc}
use mathlib.Core.Path.{◌≡◌, refl, ap, ◌∙◌}
use mathlib.Core.List.{List, [], ◌∷◌}
use native.Mathlib.Omega.{arith}
use lib.ListN.{length}
use Rattle.terms.specs.declared.Component.{Component}
use Rattle.folding.specs.declared.Placement.{Placement}
use Rattle.folding.specs.Placement.{placed_of}
use Rattle.folding.specs.Outline.{last_gap}
use Rattle.group.specs.Group.{gap_after}
use Rattle.group.proofs.Lower.{components_of, last_gap_lem}

pub components_placed : (cs : List Component) (ps : List Placement) → length ps ≡ length cs → components_of (placed_of cs ps) ≡ cs
unfolding placed_of
components_placed [] ps e = refl
components_placed (c ∷ cs) [] e = absurd (let z : 0 ≡ suc (length cs) = e in omega arith)
components_placed (c ∷ cs) (p ∷ ps) e = ap (λ (k : List Component). c ∷ k) (components_placed cs ps (let z : suc (length ps) ≡ suc (length cs) = e in omega arith))

pub gap_last : (cs : List Component) (ps : List Placement) → length ps ≡ length cs → last_gap (placed_of cs ps) ≡ gap_after cs
gap_last cs ps e = last_gap_lem (placed_of cs ps) ∙ ap gap_after (components_placed cs ps e)
