-- A lower limit: no best layout becomes better by it, and one that keeps it stays the best.
use Prim.Native.Nat.{ℕ, zero, suc, ◌≤◌, ◌<◌, max}
use mathlib.Core.Path.{◌≡◌, refl, sym, ap, ◌∙◌}
use mathlib.Core.Logic.{◌⊎◌, inl, inr}
use mathlib.Core.List.{List, [], ◌∷◌}
use mathlib.Core.Bool.{Bool, true, false}
use native.Mathlib.Nat.{le_antisymm}
use native.Mathlib.Omega.{arith}
use lib.ListN.{length, get_or, take, drop, take-append-drop}
use lib.Seq.{length-take-le}
use Rattle.terms.proofs.Bools.{either}
use Rattle.terms.proofs.Order.{order}
use Rattle.model.specs.Groups.{none, is_end, Model, Rule}
use Rattle.model.specs.Laws.{Laws}
use Rattle.model.specs.Layout.{Layout, unmet, better, choice, NoWorse, scan_by, layouts_by, candidate_for}
use Rattle.model.proofs.Choice.{no_wider, no_worse_trans, choice_first, choice_second, choice_no_worse_first, choice_no_worse_second, choice_keeps, choice_unmet, better_false, better_still}
use Rattle.model.proofs.Candidates.{candidate_is, group_unmet, rest_unmet}
use Rattle.model.proofs.Layouts.{joined_no_worse}
use Rattle.model.proofs.Scan.{candidate_at, scan_fair}

-- The best layout a for a limit, and b for a lower one.
pub record Falls (low : ℕ) (a b : Layout) : Type 0 where
  pub no_better : NoWorse a b.width b.height
  pub stays : a.height ≤ low → b ≡ a

falls_same : (low : ℕ) (a : Layout) → Falls low a a
falls_same low a = record { no_better = inr (refl, omega arith); stays = λ h. refl }

-- The better of two.
next_falls : (low : ℕ) (a a' b b' : Layout) → (a' ≡ unmet) ⊎ NoWorse a a'.width a'.height → (a.height ≤ low → a' ≡ a) → NoWorse b' none none → Falls low b b' → Falls low (choice a b) (choice a' b')
next_falls low a a' b b' n s fair f = record { no_better = no_better n (either (better a' b')); stays = stays (either (better a b)) n }
  where
    no_better : (a' ≡ unmet) ⊎ NoWorse a a'.width a'.height → (better a' b' ≡ true) ⊎ (better a' b' ≡ false) → NoWorse (choice a b) (choice a' b').width (choice a' b').height
    no_better n (inr e) = rw (choice_second a' b' e) (no_worse_trans (choice a b) b _ _ (choice_no_worse_second a b) f.no_better)
    no_better (inr p) (inl e) = rw (choice_first a' b' e) (no_worse_trans (choice a b) a _ _ (choice_no_worse_first a b) p)
    no_better (inl p) (inl e) =
        rw (p, choice_unmet b' fair) (no_worse_trans (choice a b) b _ _ (choice_no_worse_second a b) f.no_better)

    stays : (better a b ≡ true) ⊎ (better a b ≡ false) → (a' ≡ unmet) ⊎ NoWorse a a'.width a'.height → (choice a b).height ≤ low → choice a' b' ≡ choice a b
    stays (inl e) n h =
        let same = s (rw (choice_first a b e) at h) in
        rw (choice_first a b e, same) (choice_first a b' (better_still a b b' e f.no_better))
    stays (inr e) n h = go n
      where
        same : b' ≡ b
        same = f.stays (rw (choice_second a b e) at h)

        go : (a' ≡ unmet) ⊎ NoWorse a a'.width a'.height → choice a' b' ≡ choice a b
        go (inl p) = rw (p, choice_second a b e) (choice_unmet b' fair ∙ same)
        go (inr p) = rw (choice_second a b e, same) (choice_keeps a' b (no_worse_trans b a _ _ (better_false a b e) p))

module _ {C : Type 0} {model : Model C} {Good : List C → Type 0} {Allowed : Rule C} (laws : Laws model Good Allowed) (limit low : ℕ) (lower : low ≤ limit) (met : low < none) where
  -- One group, by its laws.
  module _ (g0 : ℕ) (last : Bool) (cs : List C) (good : Good cs) (some : 0 < length cs) where
    group_falls : model.width low g0 last cs < none
        → (model.width limit g0 last cs < model.width low g0 last cs) ⊎ ((model.width limit g0 last cs ≡ model.width low g0 last cs) × (model.height limit g0 last cs ≤ model.height low g0 last cs))
    group_falls h = laws.no_better 0 g0 last cs _ _ good (laws.reached 0 g0 last cs some good low h) limit (omega (arith, laws.keeps g0 last cs low h))

    group_keeps : model.width limit g0 last cs < none → model.height limit g0 last cs ≤ low
        → (model.width low g0 last cs < model.width limit g0 last cs) ⊎ ((model.width low g0 last cs ≡ model.width limit g0 last cs) × (model.height low g0 last cs ≤ model.height limit g0 last cs))
    group_keeps h k = laws.no_better 0 g0 last cs _ _ good (laws.reached 0 g0 last cs some good limit h) low k

    group_stays : model.width limit g0 last cs < none → model.height limit g0 last cs ≤ low
        → (model.width low g0 last cs ≡ model.width limit g0 last cs) × (model.height low g0 last cs ≡ model.height limit g0 last cs)
    group_stays h k = go (group_keeps h k) (group_falls (omega (arith, no_wider (group_keeps h k))))
      where
        go : (model.width low g0 last cs < model.width limit g0 last cs) ⊎ ((model.width low g0 last cs ≡ model.width limit g0 last cs) × (model.height low g0 last cs ≤ model.height limit g0 last cs))
            → (model.width limit g0 last cs < model.width low g0 last cs) ⊎ ((model.width limit g0 last cs ≡ model.width low g0 last cs) × (model.height limit g0 last cs ≤ model.height low g0 last cs))
            → (model.width low g0 last cs ≡ model.width limit g0 last cs) × (model.height low g0 last cs ≡ model.height limit g0 last cs)
        go (inl a) (inl b) = absurd (omega arith)
        go (inl a) (inr b) = absurd (omega (arith, b.0))
        go (inr a) (inl b) = absurd (omega (arith, a.0))
        go (inr a) (inr b) = (a.0, le_antisymm a.1 b.1)

    -- It in front of a rest. Where there is none for the lower limit, nothing is said.
    module _ (rest rest' : Layout) (falls : Falls low rest rest') (k : ℕ) where
      abbrev first : Layout
      first = candidate_for model limit g0 last cs rest k

      abbrev second : Layout
      second = candidate_for model low g0 last cs rest' k

      candidate_falls : (second ≡ unmet) ⊎ NoWorse first second.width second.height
      candidate_falls = go (order none (model.width low g0 last cs)) (order none rest'.width)
        where
          go : (none ≤ model.width low g0 last cs) ⊎ (model.width low g0 last cs < none) → (none ≤ rest'.width) ⊎ (rest'.width < none)
              → (second ≡ unmet) ⊎ NoWorse first second.width second.height
          go (inl p) q = inl (group_unmet model low g0 last cs rest' k p)
          go (inr p) (inl q) = inl (rest_unmet model low g0 last cs rest' k q)
          go (inr p) (inr q) =
              inr (rw (candidate_is model low g0 last cs rest' k p q, candidate_is model limit g0 last cs rest k (omega (arith, no_wider (group_falls p))) (omega (arith, no_wider falls.no_better)))
              (joined_no_worse model limit g0 last cs rest k _ _ _ _ (group_falls p) falls.no_better))

      candidate_stays : first.height ≤ low → second ≡ first
      candidate_stays h = go (order none (model.width limit g0 last cs)) (order none rest.width)
        where
          go : (none ≤ model.width limit g0 last cs) ⊎ (model.width limit g0 last cs < none) → (none ≤ rest.width) ⊎ (rest.width < none) → second ≡ first
          go (inl p) q = absurd (omega (arith, ap (λ (b : Layout). b.height) (group_unmet model limit g0 last cs rest k p)))
          go (inr p) (inl q) = absurd (omega (arith, ap (λ (b : Layout). b.height) (rest_unmet model limit g0 last cs rest k q)))
          go (inr p) (inr q) =
              let e = candidate_is model limit g0 last cs rest k p q in
              let m : max (model.height limit g0 last cs) rest.height ≤ low = rw e at h in
              let s = group_stays p (omega arith) in
              let r = falls.stays (omega arith) in
              let w : model.width low g0 last cs < none = omega (arith, s.0) in
              let v : rest'.width < none = rw r q in
              candidate_is model low g0 last cs rest' k w v ∙ rw (r, s.0, s.1) (sym e)

  -- The scan over the ends of the first group.
  module _ (g0 : ℕ) (cs : List C) (good : Good cs) (later later' : List Layout) (falls : (j : ℕ) → Falls low (get_or later j unmet) (get_or later' j unmet)) where
    abbrev to : ℕ → Layout
    to j = scan_by (candidate_for model limit) g0 cs later j

    abbrev to' : ℕ → Layout
    to' j = scan_by (candidate_for model low) g0 cs later' j

    abbrev at : ℕ → Layout
    at j = candidate_at (candidate_for model limit) g0 cs later j

    abbrev at' : ℕ → Layout
    at' j = candidate_at (candidate_for model low) g0 cs later' j

    part : (j : ℕ) → Good (take j cs)
    part j = (laws.parts (take j cs) (drop j cs) (rw (take-append-drop j cs) good)).0

    at_falls : (j : ℕ) → j < length cs → (at' j ≡ unmet) ⊎ NoWorse (at j) (at' j).width (at' j).height
    at_falls j h = candidate_falls g0 (is_end (drop (suc j) cs)) (take (suc j) cs) (part (suc j)) (omega (arith, length-take-le (suc j) cs h)) _ _ (falls j) (suc j)

    at_stays : (j : ℕ) → j < length cs → (at j).height ≤ low → at' j ≡ at j
    at_stays j h = candidate_stays g0 (is_end (drop (suc j) cs)) (take (suc j) cs) (part (suc j)) (omega (arith, length-take-le (suc j) cs h)) _ _ (falls j) (suc j)

    scan_falls : (j : ℕ) → j ≤ length cs → Falls low (to j) (to' j)
    unfolding scan_by
    scan_falls zero h = falls_same low unmet
    scan_falls (suc j) h = next_falls low (at j) (at' j) (to j) (to' j) (at_falls j h) (at_stays j h) (scan_fair (candidate_for model low) g0 cs later' j) (scan_falls j (omega arith))

  -- All that is left of a stack, behind any number of components.
  pub layouts_fall : (g0 : ℕ) (cs : List C) → Good cs → (j : ℕ)
      → Falls low (get_or (layouts_by model.gap (candidate_for model limit) g0 cs) j unmet) (get_or (layouts_by model.gap (candidate_for model low) g0 cs) j unmet)
  unfolding layouts_by
  layouts_fall g0 [] g zero = falls_same low _
  layouts_fall g0 [] g (suc j) = falls_same low unmet
  layouts_fall g0 (x ∷ cs) g zero = scan_falls g0 (x ∷ cs) g _ _ (layouts_fall (model.gap x) cs (laws.parts (x ∷ []) cs g).1) (suc (length cs)) (omega arith)
  layouts_fall g0 (x ∷ cs) g (suc j) = layouts_fall (model.gap x) cs (laws.parts (x ∷ []) cs g).1 j
