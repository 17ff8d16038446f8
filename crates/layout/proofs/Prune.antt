-- Candidates that need not be looked at, by what is known of a group's least width: they would not be chosen.
use Prim.Native.Nat.{ℕ, zero, suc, ◌+◌, ◌-◌, ◌*◌, ◌≤◌, ◌<◌, min}
use mathlib.Core.Path.{◌≡◌, ◌∙◌}
use mathlib.Core.Logic.{◌⊎◌, inl, inr}
use mathlib.Core.List.{List}
use mathlib.Core.Bool.{Bool}
use native.Mathlib.Nat.{eq-or-lt_of_le}
use native.Mathlib.Omega.{arith}
use lib.ListN.{get_or, take, drop}
use Rattle.terms.specs.declared.Component.{Component}
use Rattle.terms.specs.declared.Kind.{Kind}
use Rattle.terms.proofs.Order.{order}
use Rattle.model.specs.Groups.{is_end}
use Rattle.model.specs.Layout.{candidate_for, scan_by}
use Rattle.model.proofs.Choice.{Fair}
use Rattle.model.proofs.Candidates.{skip_group, skip_wide, skip_tie}
use Rattle.model.proofs.Scan.{scan_next, scan_fair}
use Rattle.group.specs.Group.{none, widest, May, least_width_by}
use Rattle.group.proofs.Ways.{Suits}
use Rattle.layout.specs.Layout.{Layout, unmet, choice, groups_by}
use Rattle.layout.proofs.Widths.{Ranged, TooTall, too_tall_none, too_tall_more, least_range}

module _ (may : Bool → May) (limit g0 : ℕ) (last : Bool) (group : List Component) (rest : Layout) (k : ℕ) (b : Layout) (f : Fair b) where
  abbrev here : Layout
  here = candidate_for (groups_by may) limit g0 last group rest k

  abbrev width : ℕ
  width = least_width_by (may last) g0 group limit

  -- The group does not keep the limit within any cap.
  skip_none : 2 * widest group < width → choice here b ≡ b
  skip_none o = go (least_range (may last) g0 group limit)
    where
      go : Ranged (may last) g0 group limit width → choice here b ≡ b
      go (inl e) = skip_group (groups_by may) limit g0 last group rest k b f (omega arith)
      go (inr e) = absurd (omega (arith, e.1))

  -- From the width n on a layout with this rest is no better than the one in hand.
  module _ (n : ℕ) (from : b.width ≤ n) (tie : n ≤ b.width → b.height ≤ rest.height) where
    skip_from : (width < none → n ≤ width + rest.width) → choice here b ≡ b
    skip_from h = go (order n b.width)
      where
        go : (n ≤ b.width) ⊎ (b.width < n) → choice here b ≡ b
        go (inl p) = skip_tie (groups_by may) limit g0 last group rest k b f (λ m. omega (arith, h m)) (tie p)
        go (inr p) = skip_wide (groups_by may) limit g0 last group rest k b f (λ m. omega (arith, h m))

    -- No group is narrower than its widest.
    pub skip_widest : n ≤ rest.width + widest group → choice here b ≡ b
    skip_widest h = skip_from (λ m. go m (least_range (may last) g0 group limit))
      where
        go : width < none → Ranged (may last) g0 group limit width → n ≤ width + rest.width
        go m (inl e) = absurd (omega arith)
        go m (inr e) = omega (arith, e.0)

    -- The cap is the smaller of what any group needs at most and what the layout in hand leaves.
    pub skip_both : (cap : ℕ) → cap ≡ min (2 * widest group) (n - 1 - rest.width) → cap < width → choice here b ≡ b
    skip_both cap e o = go (order (2 * widest group) (n - 1 - rest.width))
      where
        go : (2 * widest group ≤ n - 1 - rest.width) ⊎ (n - 1 - rest.width < 2 * widest group) → choice here b ≡ b
        go (inl u) = skip_none (omega arith)
        go (inr u) = skip_from (λ m. omega arith)

-- From the first group on that is too tall nothing changes.
module _ (kind : Kind) (may : Bool → May) (suits : (last : Bool) → Suits kind (may last)) (limit g0 : ℕ) (cs : List Component) (later : List Layout) (k : ℕ) (t : TooTall kind limit (take (suc k) cs)) where
  abbrev scanned : ℕ → Layout
  scanned j = scan_by (candidate_for (groups_by may) limit) g0 cs later j

  skip_tall : (j : ℕ) → k < suc j → scanned (suc j) ≡ scanned j
  skip_tall j h =
      let last = is_end (drop (suc j) cs) in
      scan_next (candidate_for (groups_by may) limit) g0 cs later j
      ∙ skip_group (groups_by may) limit g0 last (take (suc j) cs) (get_or later j unmet) (suc j) (scanned j) (scan_fair (candidate_for (groups_by may) limit) g0 cs later j)
      (omega (arith, too_tall_none (may last) kind (suits last) limit g0 (take (suc j) cs) (too_tall_more kind limit cs (suc k) (suc j) h t)))

  pub scan_stop : (j : ℕ) → k ≤ j → scanned j ≡ scanned k
  scan_stop zero h = let e : k ≡ 0 = omega arith in rw e
  scan_stop (suc j) h = go (eq-or-lt_of_le h) (scan_stop j)
    where
      go : (k ≡ suc j) ⊎ (k < suc j) → (k ≤ j → scanned j ≡ scanned k) → scanned (suc j) ≡ scanned k
      go (inl e) i = rw e
      go (inr e) i = skip_tall j e ∙ i (omega arith)
