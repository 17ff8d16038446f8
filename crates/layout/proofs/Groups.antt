-- Apart and nested groups keep the laws of a model.
use Prim.Native.Nat.{ℕ, ◌*◌, ◌≤◌, ◌<◌}
use mathlib.Core.Path.{◌≡◌, sym, ap, ◌∙◌, subst}
use mathlib.Core.Logic.{◌⊎◌}
use mathlib.Core.List.{List, [], ◌∷◌, ◌++◌}
use mathlib.Core.Bool.{Bool, true}
use native.Mathlib.Omega.{arith}
use lib.ListN.{length, length-append}
use Rattle.terms.specs.Numbers.{most_size, most_apart, most_limit}
use Rattle.terms.specs.declared.Component.{Component}
use Rattle.terms.specs.declared.Kind.{Kind}
use Rattle.terms.proofs.Lists.{AllSized}
use Rattle.folding.specs.declared.Placed.{Placed}
use Rattle.folding.specs.declared.Placement.{Placement}
use Rattle.folding.specs.Placement.{placed_of}
use Rattle.folding.specs.Outline.{group_width, group_height}
use Rattle.model.specs.Groups.{gap_behind, Rule}
use Rattle.model.specs.Laws.{Laws}
use Rattle.model.proofs.Choice.{no_wider_nor_higher}
use Rattle.group.specs.Group.{gap_after, May, unbarred, least_height_by, least_width_by, group_places}
use Rattle.group.proofs.Lower.{components_of, lefts_in, Measured, measured, measured_least, least_width_lem}
use Rattle.group.proofs.Placed.{components_placed}
use Rattle.group.proofs.Exact.{GroupFolds, least_keeps, least_reached, stands_so}
use Rattle.group.proofs.Ways.{Suits, width_some, fold_point}
use Rattle.layout.specs.Layout.{groups_by}
use Rattle.layout.proofs.Bounds.{AllGaps, width_most, group_most, group_some}

-- Some placements of the components are a legal group numbered m, and its way of standing is allowed there.
abbrev pub legal_group : Kind → (Bool → May) → Rule Component
legal_group kind may m g0 last cs w h = (ps : List Placement) × GroupFolds kind m g0 cs ps w h × (may last cs (lefts_in (placed_of cs ps)) ≡ true)

-- What a stack's check says of each part of it.
pub record Good (cs : List Component) : Type 0 where
  pub few : length cs ≤ most_apart
  pub sized : AllSized cs
  pub gapped : AllGaps cs

-- And of the whole.
pub record Stacked (cs : List Component) : Type 0 where
  pub some : 0 < length cs
  pub good : Good cs
  pub free : unbarred cs ≡ true

pub sized_parts : (a b : List Component) → AllSized (a ++ b) → AllSized a × AllSized b
sized_parts [] b s = (tt, s)
sized_parts (x ∷ a) b s = let r = sized_parts a b s.1 in ((s.0, r.0), r.1)

gaps_parts : (a b : List Component) → AllGaps (a ++ b) → AllGaps a × AllGaps b
gaps_parts [] b s = (tt, s)
gaps_parts (x ∷ a) b s = let r = gaps_parts a b s.1 in ((s.0, r.0), r.1)

good_parts : (a b : List Component) → Good (a ++ b) → Good a × Good b
good_parts a b g =
    let n = length-append a b in
    let s = sized_parts a b g.sized in
    let t = gaps_parts a b g.gapped in
    (record { few = omega (arith, g.few); sized = s.0; gapped = t.0 }, record { few = omega (arith, g.few); sized = s.1; gapped = t.1 })

gaps_near : (cs : List Component) → AllGaps cs → gap_after cs ≤ most_size
unfolding gap_behind
gaps_near [] a = omega arith
gaps_near (x ∷ []) a = a.0
gaps_near (x ∷ y ∷ l) a = gaps_near (y ∷ l) a.1

-- A legal group that stands in a way that is allowed, by its first component and the others behind it.
module _ (kind : Kind) (may : May) (m g0 : ℕ) (cs : List Component) (ps : List Placement) (w h : ℕ) (g : GroupFolds kind m g0 cs ps w h) (way : may cs (lefts_in (placed_of cs ps)) ≡ true) where
  abbrev x : Placed
  x = g.group.first

  abbrev a : List Placed
  a = g.group.mates

  holds : components_of (x ∷ a) ≡ cs
  holds = ap components_of (sym g.group.order) ∙ components_placed cs ps g.whole

  wide : group_width (x ∷ a) ≡ w
  wide = ap group_width (sym g.group.order) ∙ g.width

  high : group_height g0 (x ∷ a) ≡ h
  high = ap (group_height g0) (sym g.group.order) ∙ g.height

  stands : may (components_of (x ∷ a)) (lefts_in (x ∷ a)) ≡ true
  stands = rw holds (subst (λ (l : List Placed). may cs (lefts_in l) ≡ true) g.group.order way)

  not_empty : 0 < length cs
  not_empty = omega (arith, ap length holds)

  module _ (s : AllSized cs) where
    sized : AllSized (components_of (x ∷ a))
    sized = subst AllSized (sym holds) s

    slim : w ≤ most_size * length cs
    slim = omega (arith, wide, ap length holds, width_most (x ∷ a) sized)

    not_flat : 0 < h
    not_flat = rw high at (group_some kind g0 x a sized)

    low_enough : AllGaps cs → g0 ≤ most_size → h ≤ most_limit
    low_enough t n = omega (arith, high, group_most kind g0 x a n g.group.alone g.group.run sized (subst AllGaps (sym holds) t))

    group_measured : Measured kind g0 (x ∷ a)
    group_measured = measured kind g0 x a g.group.on_the_left g.group.alone g.group.run sized

    at_least : least_height_by may g0 cs w ≤ h
    at_least = rw (holds, wide, high) at (measured_least may kind g0 (x ∷ a) group_measured stands)

    no_narrower : (limit : ℕ) → h ≤ limit → least_width_by may g0 cs limit ≤ w
    no_narrower limit k =
        subst (λ (l : List Component). least_width_by may g0 l limit ≤ w) holds
        (rw wide at (least_width_lem may kind g0 (x ∷ a) group_measured stands limit (rw high k)))

    nothing_better : (limit : ℕ) → h ≤ limit
        → (least_width_by may g0 cs limit < w) ⊎ ((least_width_by may g0 cs limit ≡ w) × (least_height_by may g0 cs (least_width_by may g0 cs limit) ≤ h))
    nothing_better limit k = no_wider_nor_higher (no_narrower limit k) (λ e. subst (λ (v : ℕ). least_height_by may g0 cs v ≤ h) (sym e) at_least)

-- For every rule of the kind.
pub groups_laws : (kind : Kind) (may : Bool → May) → ((last : Bool) → Suits kind (may last)) → Laws (groups_by may) Good (legal_group kind may)
groups_laws kind may suits = record {
  parts = good_parts;
  few = λ cs s. s.few;
  near = λ cs s. gaps_near cs s.gapped;
  some = λ m g0 last cs w h g. not_empty kind (may last) m g0 cs g.0 w h g.1 g.2;
  slim = λ m g0 last cs w h s g. slim kind (may last) m g0 cs g.0 w h g.1 g.2 s.sized;
  high = λ m g0 last cs w h s g. not_flat kind (may last) m g0 cs g.0 w h g.1 g.2 s.sized;
  low = λ m g0 last cs w h s n g. low_enough kind (may last) m g0 cs g.0 w h g.1 g.2 s.sized s.gapped n;
  no_better = λ m g0 last cs w h s g limit k. nothing_better kind (may last) m g0 cs g.0 w h g.1 g.2 s.sized limit k;
  reached = λ m g0 last cs some s limit met.
      let w = least_width_by (may last) g0 cs limit in
      let p = fold_point (may last) cs g0 w (width_some (may last) cs g0 limit met) in (
        group_places w cs m p.0,
        least_reached (may last) kind (suits last) g0 cs limit s.few s.sized met m p.0 p.1,
        rw (stands_so (may last) kind (suits last) g0 cs limit s.few s.sized met m p.0 p.1) p.1.allowed,
      );
  keeps = λ g0 last cs limit met. least_keeps (may last) g0 cs limit met;
}
