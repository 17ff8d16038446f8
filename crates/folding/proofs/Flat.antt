-- Placements as flat numbers.
use Prim.Native.Nat.{ℕ, ◌*◌}
use mathlib.Core.Path.{◌≡◌, refl, ap}
use mathlib.Core.List.{List, [], ◌∷◌, ◌++◌}
use native.Mathlib.Omega.{arith}
use lib.ListN.{length}
use Rattle.folding.specs.declared.Placement.{Placement}
use Rattle.folding.specs.Placement.{flat_of}

pub flat_append : (ps qs : List Placement) → flat_of (ps ++ qs) ≡ flat_of ps ++ flat_of qs
flat_append [] qs = refl
flat_append (p ∷ ps) qs = ap (λ (l : List ℕ). p.group ∷ p.side ∷ p.start ∷ l) (flat_append ps qs)

pub flat-length : (ps : List Placement) → length (flat_of ps) ≡ 3 * length ps
flat-length [] = refl
flat-length (p ∷ ps) = omega (arith, flat-length ps)
