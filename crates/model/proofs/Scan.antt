-- What the scan over the ends of the first group comes to, whatever its step.
use Prim.Native.Nat.{ℕ, zero, suc, ◌≤◌, ◌<◌}
use mathlib.Core.Path.{◌≡◌, refl, sym, ◌∙◌}
use mathlib.Core.Logic.{◌⊎◌, inl, inr}
use mathlib.Core.List.{List, [], ◌∷◌}
use mathlib.Core.Bool.{true, false}
use native.Mathlib.Nat.{add-zero, eq-or-lt_of_le, le_of_suc-le-suc}
use native.Mathlib.Omega.{arith}
use lib.ListN.{length, get_or, take, drop}
use lib.Seq.{get_or-drop}
use Rattle.terms.proofs.Bools.{either}
use Rattle.model.specs.Groups.{none, is_end, gap_behind}
use Rattle.model.specs.Layout.{Layout, unmet, empty, better, choice, NoWorse, Step, scan_by, layouts_by, layout_by}
use Rattle.model.proofs.Choice.{no_worse_trans, choice_first, choice_second, choice_no_worse_first, choice_no_worse_second, Fair, fair_choice}

-- No worse than any candidate, and one of them where there is one.
module _ {C : Type 0} (step : Step C) (g0 : ℕ) (cs : List C) (later : List Layout) where
  -- The candidate with k + 1 components in the first group.
  abbrev pub candidate_at : ℕ → Layout
  candidate_at k = step g0 (is_end (drop (suc k) cs)) (take (suc k) cs) (get_or later k unmet) (suc k)

  pub scan_next : (j : ℕ) → scan_by step g0 cs later (suc j) ≡ choice (candidate_at j) (scan_by step g0 cs later j)
  unfolding scan_by
  scan_next j = refl

  pub scan_fair : (j : ℕ) → Fair (scan_by step g0 cs later j)
  unfolding scan_by
  scan_fair zero = inr (refl, omega arith)
  scan_fair (suc j) = fair_choice (candidate_at j) (scan_by step g0 cs later j) (scan_fair j)

  pub scan_no_worse : (j k : ℕ) → k < j → NoWorse (scan_by step g0 cs later j) (candidate_at k).width (candidate_at k).height
  unfolding scan_by
  scan_no_worse zero k h = absurd (omega arith)
  scan_no_worse (suc j) k h = go (eq-or-lt_of_le (le_of_suc-le-suc h)) (scan_no_worse j k)
    where
      go : (k ≡ j) ⊎ (k < j) → (k < j → NoWorse (scan_by step g0 cs later j) (candidate_at k).width (candidate_at k).height)
          → NoWorse (choice (candidate_at j) (scan_by step g0 cs later j)) (candidate_at k).width (candidate_at k).height
      go (inl e) i = rw e (choice_no_worse_first (candidate_at j) (scan_by step g0 cs later j))
      go (inr l) i =
          no_worse_trans (choice (candidate_at j) (scan_by step g0 cs later j)) (scan_by step g0 cs later j) _ _
          (choice_no_worse_second (candidate_at j) (scan_by step g0 cs later j)) (i l)

  pub scan_met : (j : ℕ) → (scan_by step g0 cs later j).width < none
      → (k : ℕ) × (k < j) × (scan_by step g0 cs later j ≡ candidate_at k) × ((candidate_at k).width < none)
  unfolding scan_by
  scan_met zero h = absurd (omega arith)
  scan_met (suc j) h = go (either (better (candidate_at j) (scan_by step g0 cs later j))) (scan_met j)
    where
      before : Layout
      before = scan_by step g0 cs later j

      go : (better (candidate_at j) before ≡ true) ⊎ (better (candidate_at j) before ≡ false)
          → (before.width < none → (k : ℕ) × (k < j) × (before ≡ candidate_at k) × ((candidate_at k).width < none))
          → (k : ℕ) × (k < suc j) × (choice (candidate_at j) before ≡ candidate_at k) × ((candidate_at k).width < none)
      go (inl e) i = (j, omega arith, choice_first (candidate_at j) before e, rw (choice_first (candidate_at j) before e) at h)
      go (inr e) i =
          let r = i (rw (choice_second (candidate_at j) before e) at h) in
          (r.0, omega (arith, r.1), choice_second (candidate_at j) before e ∙ r.2, r.3)

-- Behind k components begins the best layout of what is left.
module _ {C : Type 0} (gap : C → ℕ) (step : Step C) where
  pub layout_empty : (g0 : ℕ) → layout_by gap step g0 [] ≡ empty
  unfolding layouts_by
  layout_empty g0 = refl

  pub layouts-drop : (g0 : ℕ) (cs : List C) (k : ℕ) → 0 < k → k ≤ length cs
      → drop k (layouts_by gap step g0 cs) ≡ layouts_by gap step (gap_behind gap (take k cs)) (drop k cs)
  unfolding layouts_by gap_behind
  layouts-drop g0 cs zero p h = absurd (omega arith)
  layouts-drop g0 [] (suc k) p h = absurd (omega arith)
  layouts-drop g0 (x ∷ cs) (suc zero) p h = refl
  layouts-drop g0 (x ∷ []) (suc (suc k)) p h = absurd (omega arith)
  layouts-drop g0 (x ∷ y ∷ cs) (suc (suc k)) p h = layouts-drop (gap x) (y ∷ cs) (suc k) (omega arith) (omega arith)

  pub layouts_at : (g0 : ℕ) (cs : List C) (k : ℕ) → 0 < k → k ≤ length cs
      → get_or (layouts_by gap step g0 cs) k unmet ≡ layout_by gap step (gap_behind gap (take k cs)) (drop k cs)
  layouts_at g0 cs k p h = rw (layouts-drop g0 cs k p h, add-zero k) at (sym (get_or-drop k (layouts_by gap step g0 cs) 0 unmet))

  pub later_at : (x : C) (cs : List C) (k : ℕ) → k ≤ length cs
      → get_or (layouts_by gap step (gap x) cs) k unmet ≡ layout_by gap step (gap_behind gap (take (suc k) (x ∷ cs))) (drop (suc k) (x ∷ cs))
  unfolding layouts_by
  later_at x cs k h = layouts_at 0 (x ∷ cs) (suc k) (omega arith) (omega arith)

  pub layouts_end : (cs : List C) (g0 : ℕ) → get_or (layouts_by gap step g0 cs) (length cs) unmet ≡ empty
  unfolding layouts_by
  layouts_end [] g0 = refl
  layouts_end (x ∷ cs) g0 = layouts_end cs (gap x)

  pub layouts_fair : (g0 : ℕ) (cs : List C) (k : ℕ) → Fair (get_or (layouts_by gap step g0 cs) k unmet)
  unfolding layouts_by
  layouts_fair g0 [] zero = inl (omega arith)
  layouts_fair g0 [] (suc k) = inr (refl, omega arith)
  layouts_fair g0 (c ∷ cs) zero = scan_fair step g0 (c ∷ cs) (layouts_by gap step (gap c) cs) (suc (length cs))
  layouts_fair g0 (c ∷ cs) (suc k) = layouts_fair (gap c) cs k
