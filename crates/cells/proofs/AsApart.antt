-- Stacks of cells and legal apart foldings of them: the groups of one are the stacks of the other.
use Prim.Native.Nat.{ℕ, ◌+◌, ◌-◌, ◌≤◌, ◌<◌, max}
use mathlib.Core.Path.{◌≡◌, refl, sym, ap, ◌∙◌, subst}
use mathlib.Core.List.{List, [], ◌∷◌}
use mathlib.Core.Bool.{Bool, true}
use native.Mathlib.Omega.{arith}
use lib.ListN.{length, take, drop}
use Rattle.std.proofs.lemmas.Bool.{lt-ltb, eq-eqb}
use Rattle.std.proofs.lemmas.List.{length-take, length-drop, drop-take, drop-drop, drop_all}
use Rattle.terms.specs.Numbers.{most_apart}
use Rattle.terms.specs.declared.Component.{Component}
use Rattle.terms.specs.declared.Kind.TheVariants.{Apart}
use Rattle.terms.proofs.Bools.{and_is}
use Rattle.folding.specs.declared.Outline.{Outline}
use Rattle.folding.specs.declared.Placement.{Placement}
use Rattle.folding.specs.Placement.{placed_of}
use Rattle.folding.specs.Legal.{Legal}
use Rattle.folding.specs.Outline.{outline_of}
use Rattle.folding.specs.Best.{BestForHeight, BestForWidth, UnmeetableHeight, UnmeetableWidth}
use Rattle.folding.proofs.Rules.{legal_is}
use Rattle.model.specs.Groups.{is_end, gap_behind, Group, members_of, width_of, height_of, Stands}
use Rattle.model.specs.Outlines.{outline}
use Rattle.model.proofs.Choice.{no_wider}
use Rattle.group.specs.Rows.{gap}
use Rattle.layout.proofs.Obeying.{legal_obeys, obeys_legal}
use Rattle.layout.proofs.Foldings.{ruled, legal_layout, layout_legal}
use Rattle.cells.specs.Apart.{cell_stack}
use Rattle.cells.specs.Calls.{all_in_size}
use Rattle.cells.specs.Endings.{ends_behind, total, stack_height, greatest_behind, greatest_height, Ending, FewestFor, LowestFor, NoneFor}
use Rattle.cells.proofs.Heights.{first_end, ends_most, none_left}
use Rattle.cells.proofs.Cells.{sized_take, sized_drop, cells-length, cells_free, no_gap, apart_rule, apart_laws, group_least, group_stands, cells_parts, cells_together}

-- Groups that stand, the first behind a gap of g0.
abbrev Standing : ℕ → ℕ → List (Group Component) → Type 0
Standing m g0 gs = Stands (λ x. gap x) apart_rule m g0 gs

module _ (hs : List ℕ) (few : length hs ≤ most_apart) (sized : all_in_size hs ≡ true) where
  -- The endings of the groups that the cells behind `before` stand in.
  record Ends (before : ℕ) (gs : List (Group Component)) : Type 0 where
    pub ends : List ℕ
    pub ending : ends_behind (length hs) before ends ≡ true
    pub narrow : length ends ≤ width_of gs
    pub low : greatest_behind hs before ends ≤ height_of gs

  no_ends : (before : ℕ) → before ≤ length hs → [] ≡ cell_stack (drop before hs) → Ends before []
  unfolding ends_behind greatest_behind
  no_ends before l e = record {
    ends = [];
    ending = eq-eqb before (length hs) (omega (arith, l, ap length e, cells-length (drop before hs), length-drop before hs));
    narrow = omega arith;
    low = omega arith;
  }

  -- The first group has the next k cells.
  next_end : (last : Bool) (m g0 before k w h : ℕ) (gs : List (Group Component)) (members : List Component) → 0 < k → before + k ≤ length hs
      → apart_rule m g0 last (cell_stack (take k (drop before hs))) w h
      → Ends (before + k) gs → Ends before (record { members = members; width = w; height = h } ∷ gs)
  unfolding ends_behind greatest_behind
  next_end last m g0 before k w h gs members one within g r =
      let cells : List ℕ = take k (drop before hs) in
      let n : length cells ≡ k = omega (arith, within, length-take k (drop before hs), length-drop before hs) in
      let q = group_least last cells (omega (arith, n, one)) (omega (arith, n, within, few)) (sized_take (drop before hs) k (sized_drop hs before sized)) m g0 w h g in
      let t : stack_height hs before (before + k) ≡ total cells = ap total (drop-take before k hs) in
      record {
        ends = (before + k) ∷ r.ends;
        ending = and_is (lt-ltb before (before + k) (omega (arith, one))) r.ending;
        narrow = omega (arith, q.0, r.narrow);
        low = omega (arith, q.1, t, r.low);
      }

  ends_of : (m g0 before : ℕ) (gs : List (Group Component)) → before ≤ length hs → Standing m g0 gs → members_of gs ≡ cell_stack (drop before hs) → Ends before gs
  ends_of m g0 before [] l s e = no_ends before l e
  ends_of m g0 before (g ∷ gs) l s e =
      let k = length g.members in
      let p = cells_parts g.members (members_of gs) (drop before hs) e in
      let last = is_end (members_of gs) in
      let one : 0 < k = apart_laws.some m g0 last g.members g.width g.height s.0 in
      let within : before + k ≤ length hs = omega (arith, l, ap length p.0, cells-length (take k (drop before hs)), length-take k (drop before hs), length-drop before hs) in
      next_end last m g0 before k g.width g.height gs g.members one within
      (subst (λ (c : List Component). apart_rule m g0 last c g.width g.height) p.0 s.0)
      (ends_of (m + 1) (gap_behind (λ x. gap x) g.members) (before + k) gs within s.1 (p.1 ∙ ap cell_stack (drop-drop k before hs)))

  -- A legal apart folding gives stacks of cells: no more of them than it is wide, and no higher than it is.
  pub as_ending : (ps : List Placement) → Legal Apart (cell_stack hs) ps
      → (es : List ℕ) × Ending hs es × (length es ≤ (outline_of (cell_stack hs) ps).width.0) × (greatest_height hs es ≤ (outline_of (cell_stack hs) ps).height.0)
  as_ending ps l =
      let o = legal_obeys Apart (cell_stack hs) ps (cells_free hs) l in
      let y = legal_layout (ruled Apart) (cell_stack hs) ps (record { whole = l.whole; rules = legal_is Apart (placed_of (cell_stack hs) ps) l.rules; obeys = o }) in
      let r = ends_of 0 0 0 y.0 (omega arith) y.1.stands y.1.holds in
      let w : width_of y.0 ≡ (outline_of (cell_stack hs) ps).width.0 = ap (λ (o : Outline). o.width.0) y.2 in
      let h : height_of y.0 ≡ (outline_of (cell_stack hs) ps).height.0 = ap (λ (o : Outline). o.height.0) y.2 in
      (r.ends, r.ending, omega (arith, r.narrow, w), omega (arith, r.low, h))

  -- The groups that stacks are, and that they stand, hold the cells, and are as wide and high.
  groups_at : ℕ → List ℕ → List (Group Component)
  groups_at before [] = []
  groups_at before (e ∷ es) = record { members = cell_stack (drop before (take e hs)); width = 1; height = stack_height hs before e } ∷ groups_at e es

  groups_hold : (before : ℕ) (es : List ℕ) → ends_behind (length hs) before es ≡ true → members_of (groups_at before es) ≡ cell_stack (drop before hs)
  unfolding groups_at
  groups_hold before [] r = ap cell_stack (sym (drop_all before hs (omega (arith, none_left (length hs) before r))))
  groups_hold before (e ∷ es) r =
      let p = first_end (length hs) before e es r in
      rw (groups_hold e es p.1) (cells_together hs before e (omega (arith, p.0)) (ends_most (length hs) e es p.1))

  first_stands : (last : Bool) (m before e : ℕ) → before < e → e ≤ length hs → apart_rule m 0 last (cell_stack (drop before (take e hs))) 1 (stack_height hs before e)
  first_stands last m before e l within =
      let n : length (drop before (take e hs)) ≡ e - before = omega (arith, within, length-drop before (take e hs), length-take e hs) in
      group_stands last (drop before (take e hs)) (omega (arith, n, l)) (omega (arith, n, within, few)) (sized_drop (take e hs) before (sized_take hs e sized)) m

  groups_stand : (m before : ℕ) (es : List ℕ) → ends_behind (length hs) before es ≡ true → Standing m 0 (groups_at before es)
  unfolding groups_at
  groups_stand m before [] r = tt
  groups_stand m before (e ∷ es) r =
      let p = first_end (length hs) before e es r in (
        first_stands (is_end (members_of (groups_at e es))) m before e p.0 (ends_most (length hs) e es p.1),
        subst (λ (g0 : ℕ). Standing (m + 1) g0 (groups_at e es)) (sym (no_gap (drop before (take e hs)))) (groups_stand (m + 1) e es p.1),
      )

  groups_wide : (before : ℕ) (es : List ℕ) → width_of (groups_at before es) ≡ length es
  unfolding groups_at
  groups_wide before [] = refl
  groups_wide before (e ∷ es) = omega (arith, groups_wide e es)

  groups_high : (before : ℕ) (es : List ℕ) → height_of (groups_at before es) ≡ greatest_behind hs before es
  unfolding groups_at greatest_behind
  groups_high before [] = refl
  groups_high before (e ∷ es) = ap (max (stack_height hs before e)) (groups_high e es)

  -- Stacks of cells are a legal folding, as wide as there are stacks and as high as the highest.
  pub as_folding : (es : List ℕ) → Ending hs es
      → (ps : List Placement) × Legal Apart (cell_stack hs) ps × (outline_of (cell_stack hs) ps ≡ outline (length es) (greatest_height hs es))
  as_folding es r =
      let y = layout_legal (ruled Apart) (cell_stack hs) (groups_at 0 es) (record { stands = groups_stand 0 0 es r; holds = groups_hold 0 es r }) in
      (y.0, obeys_legal Apart (cell_stack hs) y.0 y.1.whole y.1.rules y.1.obeys, rw (groups_wide 0 es, groups_high 0 es) at y.2)

  -- The outline's two numbers.
  folded_width : (es : List ℕ) (r : Ending hs es) → (outline_of (cell_stack hs) (as_folding es r).0).width.0 ≡ length es
  folded_width es r = ap (λ (o : Outline). o.width.0) (as_folding es r).2

  folded_height : (es : List ℕ) (r : Ending hs es) → (outline_of (cell_stack hs) (as_folding es r).0).height.0 ≡ greatest_height hs es
  folded_height es r = ap (λ (o : Outline). o.height.0) (as_folding es r).2

  -- So the fewest stacks for a height are as many as the narrowest folding is wide, and there are none where there is none.
  pub some_as_apart : (limit : ℕ) (es : List ℕ) → Ending hs es → greatest_height hs es ≤ limit → UnmeetableHeight Apart (cell_stack hs) limit → ⊥
  some_as_apart limit es r k u = let a = as_folding es r in u a.0 a.1 (omega (arith, folded_height es r, k))

  pub none_as_apart : (limit : ℕ) → NoneFor hs limit → UnmeetableHeight Apart (cell_stack hs) limit
  none_as_apart limit f ps l k = let n = as_ending ps l in f n.0 n.1 (omega (arith, n.3, k))

  pub fewest_as_apart : (limit : ℕ) (es : List ℕ) → FewestFor hs limit es
      → (ps : List Placement) (o : Outline) → BestForHeight Apart (cell_stack hs) limit ps o → length es ≡ o.width.0
  fewest_as_apart limit es f ps o b =
      let a = as_folding es f.ending in
      let k : (outline_of (cell_stack hs) a.0).height.0 ≤ limit = omega (arith, folded_height es f.ending, f.keeps) in
      let n = as_ending ps b.is_legal in
      let i = f.fewest n.0 n.1 (omega (arith, n.3, b.keeps)) in
      omega (arith, i, n.2, ap (λ (o : Outline). o.width.0) b.has, folded_width es f.ending, no_wider (b.best a.0 a.1 k))

  -- And the lowest stacks for a count are as high as the lowest folding.
  pub any_as_apart : (most : ℕ) (es : List ℕ) → LowestFor hs most es → UnmeetableWidth Apart (cell_stack hs) most → ⊥
  any_as_apart most es f u = let a = as_folding es f.ending in u a.0 a.1 (omega (arith, folded_width es f.ending, f.keeps))

  pub lowest_as_apart : (most : ℕ) (es : List ℕ) → LowestFor hs most es
      → (ps : List Placement) (o : Outline) → BestForWidth Apart (cell_stack hs) most ps o → greatest_height hs es ≡ o.height.0
  lowest_as_apart most es f ps o b =
      let a = as_folding es f.ending in
      let k : (outline_of (cell_stack hs) a.0).width.0 ≤ most = omega (arith, folded_width es f.ending, f.keeps) in
      let n = as_ending ps b.is_legal in
      let i = no_wider (f.lowest n.0 n.1 (omega (arith, n.2, b.keeps))) in
      omega (arith, i, n.3, ap (λ (o : Outline). o.height.0) b.has, folded_height es f.ending, no_wider (b.best a.0 a.1 k))
