-- The best layouts with at most k components in the first group.
use Prim.Native.Nat.{ℕ, suc, ◌≤◌, ◌<◌}
use mathlib.Core.Path.{◌≡◌, refl, ap, subst, ◌∙◌}
use mathlib.Core.Logic.{◌⊎◌, inl, inr}
use mathlib.Core.List.{List, [], ◌∷◌}
use native.Mathlib.Omega.{arith}
use lib.ListN.{length, get_or, take, drop}
use lib.Seq.{get_or-drop}
use mathlib.Core.Bool.{true, false}
use Rattle.terms.proofs.Bools.{either}
use Rattle.terms.specs.declared.Component.{Component}
use Rattle.terms.specs.declared.Kind.{Kind}
use Rattle.terms.specs.declared.Kind.TheVariants.{Apart, Nested}
use Rattle.group.specs.Rows.{tall}
use Rattle.group.specs.Group.{may_stand}
use Rattle.group.proofs.Ways.{suits}
use Rattle.model.specs.Groups.{is_end}
use Rattle.model.specs.Layout.{better, NoWorse, scan_by, layouts_by, candidate_for}
use Rattle.model.proofs.Choice.{choice_first, choice_second, Fair}
use Rattle.model.proofs.Scan.{scan_fair, scan_no_worse}
use Rattle.layout.specs.Layout.{Layout, unmet, groups, candidate, choice, layouts, layout_of}
use Rattle.layout.proofs.Widths.{TooTall}
use Rattle.layout.proofs.Prune.{scan_stop}
use Rattle.plan.specs.Asks.{best_to, most_rows}

too_tall : (kind : Kind) (limit : ℕ) (cs : List Component) → most_rows kind limit < tall cs → TooTall kind limit cs
too_tall Apart limit cs h = h
too_tall Nested limit cs h = h

module _ (kind : Kind) (limit g0 : ℕ) (cs : List Component) where
  pub best_none : best_to kind limit g0 cs 0 ≡ unmet
  unfolding scan_by
  best_none = refl

  pub best_fair : (k : ℕ) → Fair (best_to kind limit g0 cs k)
  best_fair k = scan_fair (candidate_for (groups kind) limit) g0 cs (drop 1 (layouts kind limit g0 cs)) k

  pub best_more : (k : ℕ)
      → best_to kind limit g0 cs (suc k) ≡ choice (candidate kind limit g0 (is_end (drop (suc k) cs)) (take (suc k) cs) (get_or (layouts kind limit g0 cs) (suc k) unmet) (suc k)) (best_to kind limit g0 cs k)
  unfolding scan_by
  best_more k =
      ap (λ (z : Layout). choice (candidate kind limit g0 (is_end (drop (suc k) cs)) (take (suc k) cs) z (suc k)) (best_to kind limit g0 cs k))
      (get_or-drop 1 (layouts kind limit g0 cs) k unmet ∙ ap (λ (z : ℕ). get_or (layouts kind limit g0 cs) z unmet) (omega arith))

  pub best_no_worse : (j k : ℕ) → k < j
      → NoWorse (best_to kind limit g0 cs j) (candidate kind limit g0 (is_end (drop (suc k) cs)) (take (suc k) cs) (get_or (layouts kind limit g0 cs) (suc k) unmet) (suc k)).width
      (candidate kind limit g0 (is_end (drop (suc k) cs)) (take (suc k) cs) (get_or (layouts kind limit g0 cs) (suc k) unmet) (suc k)).height
  best_no_worse j k h =
      subst (λ (z : Layout). NoWorse (best_to kind limit g0 cs j) (candidate kind limit g0 (is_end (drop (suc k) cs)) (take (suc k) cs) z (suc k)).width (candidate kind limit g0 (is_end (drop (suc k) cs)) (take (suc k) cs) z (suc k)).height)
      (get_or-drop 1 (layouts kind limit g0 cs) k unmet ∙ ap (λ (z : ℕ). get_or (layouts kind limit g0 cs) z unmet) (omega arith))
      (scan_no_worse (candidate_for (groups kind) limit) g0 cs (drop 1 (layouts kind limit g0 cs)) j k h)

  pub best_stop : (j k : ℕ) → k ≤ j → most_rows kind limit < tall (take (suc k) cs) → best_to kind limit g0 cs j ≡ best_to kind limit g0 cs k
  best_stop j k h t = scan_stop kind (may_stand kind) (suits kind) limit g0 cs (drop 1 (layouts kind limit g0 cs)) k (too_tall kind limit (take (suc k) cs) t) j h

pub best_of_all : (kind : Kind) (limit g0 : ℕ) (cs : List Component) → 0 < length cs → best_to kind limit g0 cs (length cs) ≡ layout_of kind limit g0 cs
unfolding layouts_by
best_of_all kind limit g0 [] h = absurd (omega arith)
best_of_all kind limit g0 (x ∷ cs) h = refl

-- The best layout is no worse than one with k + 1 components in the first group.
pub best_bound : (kind : Kind) (limit g0 : ℕ) (cs : List Component) (k : ℕ) → k < length cs
    → NoWorse (layout_of kind limit g0 cs) (choice (candidate kind limit g0 (is_end (drop (suc k) cs)) (take (suc k) cs) (get_or (layouts kind limit g0 cs) (suc k) unmet) (suc k)) unmet).width
    (choice (candidate kind limit g0 (is_end (drop (suc k) cs)) (take (suc k) cs) (get_or (layouts kind limit g0 cs) (suc k) unmet) (suc k)) unmet).height
best_bound kind limit g0 cs k h = go (either (better c unmet))
  where
    c : Layout
    c = candidate kind limit g0 (is_end (drop (suc k) cs)) (take (suc k) cs) (get_or (layouts kind limit g0 cs) (suc k) unmet) (suc k)

    all : best_to kind limit g0 cs (length cs) ≡ layout_of kind limit g0 cs
    all = best_of_all kind limit g0 cs (omega arith)

    go : (better c unmet ≡ true) ⊎ (better c unmet ≡ false) → NoWorse (layout_of kind limit g0 cs) (choice c unmet).width (choice c unmet).height
    go (inl e) = rw (choice_first c unmet e, ← all) (best_no_worse kind limit g0 cs (length cs) k h)
    go (inr e) = rw (choice_second c unmet e, ← all) (best_fair kind limit g0 cs (length cs))
