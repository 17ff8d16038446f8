-- Flat numbers as placements again.
use Prim.Native.Nat.{ℕ, suc, ◌+◌, ◌*◌}
use mathlib.Core.Path.{◌≡◌, refl, ap, ◌∙◌}
use mathlib.Core.List.{List, [], ◌∷◌, ◌++◌}
use native.Mathlib.Omega.{arith}
use lib.ListN.{length}
use Rattle.terms.specs.Component.{tabulate}
use Rattle.terms.proofs.Tabulate.{tabulate_front, tabulate_same}
use Rattle.folding.specs.declared.Placement.{Placement}
use Rattle.folding.specs.Placement.{placement_at, placements_of}
use Rattle.folding.specs.Placement.{flat_of}

next_placement : (a b c : ℕ) (l : List ℕ) (i : ℕ) → placement_at (a ∷ b ∷ c ∷ l) (suc i) ≡ placement_at l i
next_placement a b c l i =
    let e : 3 * suc i ≡ suc (suc (suc (3 * i))) = omega arith in
    let f : 3 * suc i + 1 ≡ suc (suc (suc (3 * i + 1))) = omega arith in
    let g : 3 * suc i + 2 ≡ suc (suc (suc (3 * i + 2))) = omega arith in
    rw (f, g, e) refl

pub placements_flat : (ps : List Placement) (rest : List ℕ) → placements_of (flat_of ps ++ rest) (length ps) ≡ ps
unfolding tabulate
placements_flat [] rest = refl
placements_flat (x ∷ ps) rest =
    tabulate_front (placement_at (flat_of (x ∷ ps) ++ rest)) (length ps)
    ∙ ap (λ (l : List Placement). x ∷ l)
    (tabulate_same (λ i. placement_at (flat_of (x ∷ ps) ++ rest) (suc i)) (placement_at (flat_of ps ++ rest)) (length ps) (λ i l. next_placement x.group x.side x.start (flat_of ps ++ rest) i)
    ∙ placements_flat ps rest)
