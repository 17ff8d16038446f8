-- Placed components that stand in columns.
use Prim.Native.Nat.{ℕ, zero, suc, ◌+◌, ◌*◌, ◌≤◌, ◌<◌}
use mathlib.Core.Path.{◌≡◌, refl, sym, ap, ◌∙◌}
use mathlib.Core.List.{List, [], ◌∷◌, ◌++◌}
use native.Mathlib.Omega.{arith}
use lib.ListN.{length, take, drop, get_or}
use lib.Seq.{get_or-take, get_or-drop}
use Rattle.std.specs.Simd.{first_chunks}
use Rattle.std.proofs.lemmas.List.{take-map}
use Rattle.terms.specs.declared.Component.{Component}
use Rattle.terms.specs.Component.{tabulate}
use Rattle.terms.specs.Seams.{component_in, components_in}
use Rattle.terms.proofs.Tabulate.{tabulate-length, tabulate_same}
use Rattle.folding.specs.declared.Placed.{Placed}
use Rattle.folding.specs.declared.Placement.{Placement}
use Rattle.folding.specs.Placement.{placed_of, placement_at, placement_of, placements_of, placements_in, none}
use Rattle.folding.specs.Asks.{placed_in}

-- The components of a stack with the placements of a run of flat numbers.
placed-append : (cs : List Component) (c : Component) (ps : List Placement) (p : Placement) → length ps ≡ length cs → placed_of (cs ++ (c ∷ [])) (ps ++ (p ∷ [])) ≡ placed_of cs ps ++ (record { component = c; placement = p } ∷ [])
unfolding placed_of
placed-append [] c [] p e = refl
placed-append [] c (q ∷ ps) p e = absurd (omega arith)
placed-append (d ∷ cs) c [] p e = absurd (omega arith)
placed-append (d ∷ cs) c (q ∷ ps) p e = ap (λ (l : List Placed). record { component = d; placement = q } ∷ l) (placed-append cs c ps p (omega arith))

placed_tabulate : (f : ℕ → Component) (g : ℕ → Placement) (n : ℕ) → placed_of (tabulate f n) (tabulate g n) ≡ tabulate (λ i. record { component = f i; placement = g i }) n
unfolding tabulate placed_of
placed_tabulate f g zero = refl
placed_tabulate f g (suc n) =
    placed-append (tabulate f n) (f n) (tabulate g n) (g n) (tabulate-length g n ∙ sym (tabulate-length f n))
    ∙ ap (λ (l : List Placed). l ++ (record { component = f n; placement = g n } ∷ [])) (placed_tabulate f g n)

-- The placements of a run of flat numbers, as they stand three by three.
chunk_at : (xs : List ℕ) (k i : ℕ) → i < k → get_or (placements_in (first_chunks 3 k xs)) i none ≡ placement_at xs i
chunk_at xs zero i h = absurd (omega arith)
chunk_at xs (suc k) zero h = rw (get_or-take 3 xs 0 0 (omega arith), get_or-take 3 xs 1 0 (omega arith), get_or-take 3 xs 2 0 (omega arith))
chunk_at xs (suc k) (suc i) h =
    let a : 3 + 3 * i ≡ 3 * suc i = omega arith in
    let b : 3 + (3 * i + 1) ≡ 3 * suc i + 1 = omega arith in
    let c : 3 + (3 * i + 2) ≡ 3 * suc i + 2 = omega arith in
    chunk_at (drop 3 xs) k i (omega arith)
    ∙ rw (get_or-drop 3 xs (3 * i) 0, get_or-drop 3 xs (3 * i + 1) 0, get_or-drop 3 xs (3 * i + 2) 0, b, c, a)

-- And of the first n of them.
front_at : (xs : List ℕ) (k n i : ℕ) → i < n → n ≤ k → get_or (placements_in (take n (first_chunks 3 k xs))) i none ≡ placement_at xs i
front_at xs k n i h l =
    ap (λ (ps : List Placement). get_or ps i none) (sym (take-map placement_of n (first_chunks 3 k xs)))
    ∙ get_or-take n (placements_in (first_chunks 3 k xs)) i none h
    ∙ chunk_at xs k i (omega arith)

pub placed_columns : (hs ws seams flat : List ℕ) (k : ℕ) → length hs ≤ k
    → placed_of (components_in hs ws seams) (placements_of flat (length hs)) ≡ placed_in hs ws seams (placements_in (take (length hs) (first_chunks 3 k flat)))
placed_columns hs ws seams flat k h =
    placed_tabulate (component_in hs ws seams) (placement_at flat) (length hs)
    ∙ tabulate_same _ _ (length hs) (λ i l. ap (λ p. record { component = component_in hs ws seams i; placement = p }) (sym (front_at flat k (length hs) i l h)))

-- What lies behind the placements of a stack is not read.
pub placed_front : (hs ws seams : List ℕ) (rows : List (List ℕ)) (n : ℕ) → length hs ≤ n → placed_in hs ws seams (placements_in (take n rows)) ≡ placed_in hs ws seams (placements_in rows)
placed_front hs ws seams rows n h =
    tabulate_same _ _ (length hs) (λ i l. ap (λ p. record { component = component_in hs ws seams i; placement = p })
    (ap (λ (ps : List Placement). get_or ps i none) (sym (take-map placement_of n rows)) ∙ get_or-take n (placements_in rows) i none (omega arith)))
