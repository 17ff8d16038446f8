-- The list of outlines does not depend on its fuel, as long as that is at least the limit.
use Prim.Native.Nat.{ℕ, zero, suc, ◌+◌, ◌-◌, ◌≤◌, ◌<◌}
use mathlib.Core.Path.{◌≡◌, refl, sym, ap, ◌∙◌}
use mathlib.Core.Logic.{◌⊎◌, inl, inr}
use mathlib.Core.List.{List, [], ◌∷◌}
use native.Mathlib.Omega.{arith}
use lib.ListN.{length}
use Rattle.terms.proofs.Order.{order}
use Rattle.folding.specs.declared.Outline.{Outline}
use Rattle.model.specs.Groups.{none}
use Rattle.model.specs.Layout.{Layout}
use Rattle.model.specs.Outlines.{outline_by, outlines_by}
use Rattle.model.specs.Search.{Search}
use Rattle.model.proofs.Best.{layout_high}
use Rattle.model.proofs.Table.{outlines_on, outlines_end}

module _ {F : Type 0} {Legal : F → Type 0} {outline_of : F → Outline} {best : ℕ → Layout} (s : Search Legal outline_of best) where
  -- No layout keeps the limit 0.
  zero_unmet : (limit : ℕ) → limit ≤ 0 → none ≤ (best limit).width
  zero_unmet limit h = go (order none (best limit).width)
    where
      go : (none ≤ (best limit).width) ⊎ ((best limit).width < none) → none ≤ (best limit).width
      go (inl n) = n
      go (inr n) = absurd (omega (arith, layout_high s limit n, s.keeps limit n))

  nothing_more : (fuel limit : ℕ) → limit ≤ 0 → outlines_by best fuel limit ≡ []
  unfolding outlines_by
  nothing_more zero limit h = refl
  nothing_more (suc fuel) limit h = outlines_end best fuel limit (zero_unmet limit h)

  outlines_fuel : (fuel more limit : ℕ) → limit ≤ fuel → limit ≤ more → outlines_by best fuel limit ≡ outlines_by best more limit
  outlines_fuel zero more limit h k = nothing_more zero limit h ∙ sym (nothing_more more limit h)
  outlines_fuel (suc fuel) zero limit h k = nothing_more (suc fuel) limit k ∙ sym (nothing_more zero limit k)
  outlines_fuel (suc fuel) (suc more) limit h k = go (order none (best limit).width) (λ j a b. outlines_fuel fuel more j a b)
    where
      go : (none ≤ (best limit).width) ⊎ ((best limit).width < none) → ((j : ℕ) → j ≤ fuel → j ≤ more → outlines_by best fuel j ≡ outlines_by best more j)
          → outlines_by best (suc fuel) limit ≡ outlines_by best (suc more) limit
      go (inl n) i = outlines_end best fuel limit n ∙ sym (outlines_end best more limit n)
      go (inr n) i =
          let p = layout_high s limit n in
          let q = s.keeps limit n in
          outlines_on best fuel limit n
          ∙ ap (λ (os : List Outline). outline_by (best limit) ∷ os) (i ((best limit).height - 1) (omega arith) (omega arith))
          ∙ sym (outlines_on best more limit n)

  -- With the limit itself for fuel: the next outline, and where the list ends.
  pub outlines_next : (limit : ℕ) → (best limit).width < none → outlines_by best limit limit ≡ outline_by (best limit) ∷ outlines_by best ((best limit).height - 1) ((best limit).height - 1)
  outlines_next limit n =
      let p = layout_high s limit n in
      let q = s.keeps limit n in
      let h = (best limit).height in
      outlines_fuel limit (suc (h - 1 + limit)) limit (omega arith) (omega arith)
      ∙ outlines_on best (h - 1 + limit) limit n
      ∙ ap (λ (os : List Outline). outline_by (best limit) ∷ os) (outlines_fuel (h - 1 + limit) (h - 1) (h - 1) (omega arith) (omega arith))

  pub outlines_done : (limit : ℕ) → none ≤ (best limit).width → outlines_by best limit limit ≡ []
  outlines_done limit n = outlines_fuel limit (suc limit) limit (omega arith) (omega arith) ∙ outlines_end best limit limit n

pub outlines-length : (best : ℕ → Layout) (fuel limit : ℕ) → length (outlines_by best fuel limit) ≤ fuel
unfolding outlines_by
outlines-length best zero limit = omega arith
outlines-length best (suc fuel) limit = go (order none (best limit).width) (outlines-length best fuel)
  where
    go : (none ≤ (best limit).width) ⊎ ((best limit).width < none) → ((k : ℕ) → length (outlines_by best fuel k) ≤ fuel) → length (outlines_by best (suc fuel) limit) ≤ suc fuel
    go (inl n) i = rw (outlines_end best fuel limit n) (omega arith)
    go (inr n) i = rw (outlines_on best fuel limit n) (omega (arith, i ((best limit).height - 1)))
