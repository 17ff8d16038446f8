-- The first 256 placements are enough: a stack has no more components, and numbers past the nth placement are not read.
use mathlib.Core.Path.{◌≡◌, refl, sym, ◌∙◌, ap}
use Prim.Native.Nat.{ℕ, zero, suc, ◌+◌, ◌*◌, ◌/◌, ◌≤◌, ◌<◌, min}
use native.Mathlib.Omega.{arith}
use mathlib.Core.List.{List, [], ◌∷◌, map}
use Rattle.std.specs.List.{flat_map}
use mathlib.Core.Bool.{false}
use mathlib.Core.Logic.{◌⊎◌, inl, inr}
use lib.ListN.{length, take, get_or}
use lib.Seq.{take_all, get_or-take, length-take-le}
use lib.Dec.{ltb}
use borrow.Author.Tests.{le-ltb}
use Rattle.terms.specs.declared.Component.{Component}
use Rattle.terms.specs.declared.Kind.{Kind}
use Rattle.terms.specs.Answer.{Answer, refusal, result, and_then}
use Rattle.terms.proofs.Answers.{most_256}
use Rattle.terms.proofs.Order.{order}
use Rattle.terms.proofs.Tabulate.{tabulate_same}
use Rattle.stack.specs.File.{check_of}
use Rattle.stack.proofs.Valid.{valid}
use Rattle.folding.specs.declared.Placement.{Placement}
use Rattle.folding.specs.Placement.{placement_at, placements_of, flat_of, numbers_of, none}
use Rattle.folding.specs.Calls.{measure_in, measure_of}
use Rattle.folding.proofs.Flat.{flat-length}
use Rattle.folding_structs.proofs.Lists.{flat_by_three}

-- The placement at i of the flat numbers is that of the slice.
flat_at : (ps : List Placement) (i : ℕ) → i < length ps → placement_at (flat_of ps) i ≡ get_or ps i none
flat_at [] i h = absurd (omega arith)
flat_at (p ∷ ps) zero h = refl
flat_at (p ∷ ps) (suc i) h =
    let e : 3 * suc i ≡ suc (suc (suc (3 * i))) = omega arith in
    let e1 : 3 * suc i + 1 ≡ suc (suc (suc (3 * i + 1))) = omega arith in
    let e2 : 3 * suc i + 2 ≡ suc (suc (suc (3 * i + 2))) = omega arith in
    rw (e1, e2, e) (flat_at ps i (omega arith))

module _ (kind : Kind) (cs : List Component) (ps : List Placement) (few : length cs ≤ 256) (many : 256 < length ps) where
  first-length : length (take 256 ps) ≡ 256
  first-length = length-take-le 256 ps (omega arith)

  same_placements : placements_of (flat_of (take 256 ps)) (length cs) ≡ placements_of (flat_of ps) (length cs)
  same_placements = tabulate_same (placement_at (flat_of (take 256 ps))) (placement_at (flat_of ps)) (length cs) (λ i h.
      flat_at (take 256 ps) i (omega (arith, first-length)) ∙ get_or-take 256 ps i none (omega arith) ∙ sym (flat_at ps i (omega arith)))

  enough : (qs : List Placement) → 256 ≤ length qs → ltb (length (flat_of qs) / 3) (length cs) ≡ false
  enough qs h = le-ltb (length (flat_of qs) / 3) (length cs) (omega (arith, flat-length qs))

  same_in : measure_in kind cs (flat_of (take 256 ps)) ≡ measure_in kind cs (flat_of ps)
  unfolding measure_in
  same_in = rw (enough (take 256 ps) (omega (arith, first-length)), enough ps (omega arith), same_placements) refl

module _ (kind : Kind) (file : List ℕ) (ps : List Placement) where
  pub first_enough : measure_of kind file (flat_of (take (min (length ps) 256) ps)) ≡ measure_of kind file (flat_of ps)
  first_enough = go (order (length ps) 256)
    where
      each : (a : Answer (List Component)) → ((cs : List Component) → a ≡ result cs → length cs ≤ 256) → 256 < length ps
          → and_then a (λ cs. measure_in kind cs (flat_of (take 256 ps))) ≡ and_then a (λ cs. measure_in kind cs (flat_of ps))
      each (refusal k) few many = refl
      each (result cs) few many = same_in kind cs ps (few cs refl) many

      go : (length ps ≤ 256) ⊎ (256 < length ps) → measure_of kind file (flat_of (take (min (length ps) 256) ps)) ≡ measure_of kind file (flat_of ps)
      go (inl h) = ap (λ (qs : List Placement). measure_of kind file (flat_of qs)) (take_all (min (length ps) 256) ps (omega arith))
      go (inr h) =
          let m : min (length ps) 256 ≡ 256 = omega arith in
          rw m (each (check_of kind file) (λ cs e. omega (arith, (valid kind file cs e).stack.few, most_256 kind)) h)

  -- The numbers of all placements that are read stand in xs.
  pub all_read : (n i : ℕ) (xs : List ℕ) → i ≡ n → n ≡ min (length ps) 256 → take (3 * i) xs ≡ flat_of (take i ps)
      → measure_of kind file (take (3 * n) xs) ≡ measure_of kind file (flat_of ps)
  all_read n i xs e m h =
      let k : take (3 * n) xs ≡ flat_of (take (min (length ps) 256) ps) =
      ap (λ (j : ℕ). take (3 * j) xs) (sym e) ∙ h ∙ ap (λ (j : ℕ). flat_of (take j ps)) (e ∙ m) in
      ap (λ (us : List ℕ). measure_of kind file us) k ∙ first_enough

  -- They stand in rows, three by three.
  pub rows_read : (n : ℕ) (rows : List (List ℕ)) → n ≡ min (length ps) 256 → rows ≡ map numbers_of (take n ps)
      → measure_of kind file (flat_map (λ x. x) rows) ≡ measure_of kind file (flat_of ps)
  rows_read n rows m h =
      rw (h, flat_by_three (take n ps), m) first_enough
