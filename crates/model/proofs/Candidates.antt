-- Candidates of a model: what they are, and which need not be looked at, since they would not be chosen.
use Prim.Native.Nat.{ℕ, ◌+◌, ◌≤◌, ◌<◌, max}
use mathlib.Core.Path.{◌≡◌, refl}
use mathlib.Core.Logic.{◌⊎◌, inl, inr}
use mathlib.Core.List.{List}
use mathlib.Core.Bool.{Bool, true, false, cond, ◌&&◌}
use native.Mathlib.Omega.{arith}
use lib.Dec.{ltb}
use borrow.Author.Tests.{lt-ltb, le-ltb, ltb-true}
use Rattle.terms.proofs.Order.{order}
use Rattle.model.specs.Groups.{none, Model}
use Rattle.model.specs.Layout.{Layout, unmet, choice, NoWorse, joined_for, candidate_for}
use Rattle.model.proofs.Choice.{no_wider_nor_higher, and_none, choice_keeps, Fair, choice_unmet}

-- What is met only if two tests are, is met: both are.
pub met_both : (a b : Bool) (x : Layout) → (cond (a && b) x unmet).width < none → (a ≡ true) × (b ≡ true)
met_both true true x h = (refl, refl)
met_both true false x h = absurd (omega arith)
met_both false b x h = absurd (omega arith)

module _ {C : Type 0} (model : Model C) (limit g0 : ℕ) (last : Bool) (group : List C) (rest : Layout) (k : ℕ) where
  abbrev width : ℕ
  width = model.width limit g0 last group

  -- A group that keeps the limit, in front of a rest that does; and one that does not, or in front of a rest that does not.
  pub candidate_is : width < none → rest.width < none → candidate_for model limit g0 last group rest k ≡ joined_for model limit g0 last group rest k
  candidate_is p q = rw (lt-ltb width none p, lt-ltb rest.width none q)

  pub candidate_met : (candidate_for model limit g0 last group rest k).width < none → (width < none) × (rest.width < none)
  candidate_met h = let b = met_both (ltb width none) (ltb rest.width none) _ h in (ltb-true _ _ b.0, ltb-true _ _ b.1)

  pub group_unmet : none ≤ width → candidate_for model limit g0 last group rest k ≡ unmet
  group_unmet h = rw (le-ltb width none h)

  pub rest_unmet : none ≤ rest.width → candidate_for model limit g0 last group rest k ≡ unmet
  rest_unmet h = rw (le-ltb rest.width none h, and_none (ltb width none))

  module _ (b : Layout) (f : Fair b) where
    pub skip_group : none ≤ width → choice (candidate_for model limit g0 last group rest k) b ≡ b
    skip_group h = rw (group_unmet h) (choice_unmet b f)

    pub skip_rest : none ≤ rest.width → choice (candidate_for model limit g0 last group rest k) b ≡ b
    skip_rest h = rw (rest_unmet h) (choice_unmet b f)

    -- A candidate than which what is in hand is no worse, where both group and rest keep the limit.
    skip_worse : (width < none → NoWorse b (width + rest.width) (max (model.height limit g0 last group) rest.height)) → choice (candidate_for model limit g0 last group rest k) b ≡ b
    skip_worse h = go (order none width) (order none rest.width)
      where
        go : (none ≤ width) ⊎ (width < none) → (none ≤ rest.width) ⊎ (rest.width < none) → choice (candidate_for model limit g0 last group rest k) b ≡ b
        go (inl p) q = skip_group p
        go (inr p) (inl q) = skip_rest q
        go (inr p) (inr q) = rw (candidate_is p q) (choice_keeps (joined_for model limit g0 last group rest k) b (h p))

    -- A candidate that would be wider than what is in hand.
    pub skip_wide : (width < none → b.width < width + rest.width) → choice (candidate_for model limit g0 last group rest k) b ≡ b
    skip_wide h = skip_worse (λ n. inl (h n))

    -- One that would be no narrower, with a rest that is no lower than what is in hand.
    pub skip_tie : (width < none → b.width ≤ width + rest.width) → b.height ≤ rest.height → choice (candidate_for model limit g0 last group rest k) b ≡ b
    skip_tie h l = skip_worse (λ n. no_wider_nor_higher (h n) (λ e. omega arith))
