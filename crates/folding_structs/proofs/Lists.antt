-- The flat numbers, placement after placement.
use mathlib.Core.Path.{◌≡◌, refl, sym, ◌∙◌, ap}
use Prim.Native.Nat.{ℕ, suc, ◌+◌, ◌*◌, ◌<◌}
use native.Mathlib.Omega.{arith}
use mathlib.Core.List.{List, [], ◌∷◌, ◌++◌, map}
use Rattle.std.specs.List.{flat_map}
use lib.ListN.{length, take, get_or}
use lib.Seq.{take-suc}
use Rattle.folding.specs.declared.Placement.{Placement}
use Rattle.folding.specs.Placement.{flat_of, numbers_of, none}
use Rattle.folding.proofs.Flat.{flat_append}

-- Three by three they are the numbers of each placement.
pub flat_by_three : (ps : List Placement) → flat_map (λ x. x) (map numbers_of ps) ≡ flat_of ps
flat_by_three [] = refl
flat_by_three (p ∷ ps) = ap (λ (l : List ℕ). p.group ∷ p.side ∷ p.start ∷ l) (flat_by_three ps)

-- One placement more.
flat_next : (ps : List Placement) (i : ℕ) → i < length ps → flat_of (take (i + 1) ps) ≡ flat_of (take i ps) ++ ((get_or ps i none).group ∷ (get_or ps i none).side ∷ (get_or ps i none).start ∷ [])
flat_next ps i h = let e : i + 1 ≡ suc i = omega arith in
    ap (λ (k : ℕ). flat_of (take k ps)) e ∙ ap flat_of (take-suc ps i none h) ∙ flat_append (take i ps) (get_or ps i none ∷ [])

-- The numbers of one placement more, behind those of the others before it.
pub flat_put : (ps : List Placement) (i : ℕ) (xs zs : List ℕ) → i < length ps → take (3 * i) xs ≡ flat_of (take i ps)
    → take (3 * i + 3) zs
    ≡ take (3 * i) xs ++ ((get_or ps i none).group ∷ (get_or ps i none).side ∷ (get_or ps i none).start ∷ [])
    → take (3 * (i + 1)) zs ≡ flat_of (take (i + 1) ps)
flat_put ps i xs zs h e k =
    let p : Placement = get_or ps i none in
    let three_more : 3 * (i + 1) ≡ 3 * i + 3 = omega arith in
    ap (λ (m : ℕ). take m zs) three_more ∙ k ∙ ap (λ (us : List ℕ). us ++ (p.group ∷ p.side ∷ p.start ∷ [])) e
    ∙ sym (flat_next ps i h)
