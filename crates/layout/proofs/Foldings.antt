-- Legal foldings and layouts of legal groups are the same, so the search over layouts is one over all legal foldings.
use Prim.Native.Nat.{ℕ, zero, suc, ◌+◌, ◌≤◌, max}
use mathlib.Core.Path.{◌≡◌, refl, sym, ap, ◌∙◌, subst}
use mathlib.Core.List.{List, [], ◌∷◌, ◌++◌, map}
use mathlib.Core.Bool.{Bool, true}
use native.Mathlib.Omega.{arith}
use lib.ListN.{length, length-append}
use Rattle.terms.specs.declared.Component.{Component}
use Rattle.terms.specs.declared.Kind.{Kind}
use Rattle.folding.specs.declared.Placed.{Placed}
use Rattle.folding.specs.declared.Placement.{Placement}
use Rattle.folding.specs.Placement.{group_of, left, placed_of}
use Rattle.folding.specs.Legal.{Legal}
use Rattle.folding.specs.Outline.{groups_of, group_width, group_height, last_gap, layout_width, layout_height, outline_of}
use Rattle.folding.proofs.Rules.{Alone, LegalFrom, legal_is}
use Rattle.folding.proofs.Groups.{Run, cut, paste_width, paste_height}
use Rattle.folding.proofs.Sides.{Fronted}
use Rattle.model.specs.Groups.{is_end, Rule, Group, members_of, width_of, height_of, Stands, LayoutOf}
use Rattle.model.specs.Outlines.{outline}
use Rattle.model.specs.Layout.{layout_for}
use Rattle.model.specs.Search.{Search}
use Rattle.model.proofs.Layouts.{layouts_search}
use Rattle.model.proofs.Transfer.{transfer}
use Rattle.group.specs.Rows.{gap}
use Rattle.group.specs.Group.{gap_after, May, may_stand}
use Rattle.group.proofs.Ways.{Suits, suits, flat_stands, stands_allowed}
use Rattle.group.proofs.Lower.{components_of, lefts_in, last_gap_lem, group_stands}
use Rattle.group.proofs.Placed.{components_placed}
use Rattle.group.proofs.Exact.{GroupFolds}
use Rattle.layout.specs.Layout.{groups_by, layout_of}
use Rattle.layout.proofs.Folds.{FoldsBy, placed-append, folds_none, folds_join}
use Rattle.layout.proofs.Groups.{legal_group, Stacked, groups_laws}
use Rattle.layout.proofs.Marks.{rest_unparted, end_free, fold_free, join_allowed}
use Rattle.layout.proofs.Turns.{rest_turned, flat_last, join_turned}
use Rattle.layout.proofs.Obeying.{Obeys, legal_obeys, obeys_legal}

-- Placed components, taken apart and put together again.
abbrev placements_in : List Placed → List Placement
placements_in l = map (λ x. x.placement) l

placements_length : (l : List Placed) → length (placements_in l) ≡ length (components_of l)
placements_length [] = refl
placements_length (x ∷ l) = ap suc (placements_length l)

placed_again : (l : List Placed) → placed_of (components_of l) (placements_in l) ≡ l
unfolding placed_of
placed_again [] = refl
placed_again (x ∷ l) = ap (λ (k : List Placed). x ∷ k) (placed_again l)

components_append : (a b : List Placed) → components_of (a ++ b) ≡ components_of a ++ components_of b
components_append [] b = refl
components_append (x ∷ a) b = ap (λ (l : List Component). x.component ∷ l) (components_append a b)

pub placed_end : (cs : List Component) (ps : List Placement) → length ps ≡ length cs → is_end (placed_of cs ps) ≡ is_end cs
unfolding placed_of
placed_end [] ps e = refl
placed_end (c ∷ cs) [] e = absurd (omega arith)
placed_end (c ∷ cs) (p ∷ ps) e = refl

components_end : (l : List Placed) → is_end (components_of l) ≡ is_end l
components_end [] = refl
components_end (x ∷ l) = refl

-- What foldings obey beside the rules of `LegalFrom`, and what ways of standing are allowed to their groups, say the same: of a
-- first group x and a, and the rest b.
pub record Agrees (kind : Kind) (may : Bool → May) (Obeys : List Placed → Type 0) : Type 0 where
  pub fits : (last : Bool) → Suits kind (may last)
  pub nothing : Obeys []
  pub cuts : (x : Placed) (a b : List Placed) → left x ≡ true → Alone kind x → Run kind x a → LegalFrom kind (group_of x + 1) b → Obeys (x ∷ (a ++ b))
      → Obeys b × (may (is_end b) (components_of (x ∷ a)) (lefts_in (x ∷ a)) ≡ true)
  pub joins : (x : Placed) (a b : List Placed) → left x ≡ true → Run kind x a → LegalFrom kind (group_of x + 1) b → Obeys b
      → may (is_end b) (components_of (x ∷ a)) (lefts_in (x ∷ a)) ≡ true → Obeys (x ∷ (a ++ b))

-- A folding that keeps the rules of `LegalFrom`, and obeys.
pub record LegalBy (kind : Kind) (Obeys : List Placed → Type 0) (cs : List Component) (ps : List Placement) : Type 0 where
  pub whole : length ps ≡ length cs
  pub rules : LegalFrom kind 0 (placed_of cs ps)
  pub obeys : Obeys (placed_of cs ps)

module _ {kind : Kind} {may : Bool → May} {Obeys : List Placed → Type 0} (agrees : Agrees kind may Obeys) where
  abbrev Legally : Rule Component
  Legally = legal_group kind may

  abbrev Standing : ℕ → ℕ → List (Group Component) → Type 0
  Standing m g0 gs = Stands (λ x. gap x) Legally m g0 gs

  -- A legal folding is a layout: it is cut where a group ends.
  record Cut (m g0 : ℕ) (l : List Placed) : Type 0 where
    pub groups : List (Group Component)
    pub stands : Standing m g0 groups
    pub holds : members_of groups ≡ components_of l
    pub width : width_of groups ≡ layout_width (groups_of l)
    pub height : height_of groups ≡ layout_height g0 (groups_of l)

  first_group : (g0 : ℕ) (x : Placed) (a : List Placed) → left x ≡ true → Alone kind x → Run kind x a
      → GroupFolds kind (group_of x) g0 (components_of (x ∷ a)) (placements_in (x ∷ a)) (group_width (x ∷ a)) (group_height g0 (x ∷ a))
  first_group g0 x a l e r =
      let q = placed_again (x ∷ a) in
      record {
        whole = placements_length (x ∷ a);
        group = record { first = x; mates = a; order = q; numbered = refl; on_the_left = l; alone = e; run = r };
        width = ap group_width q;
        height = ap (group_height g0) q;
      }

  first_stands : (x : Placed) (a b : List Placed) (gs : List (Group Component)) → members_of gs ≡ components_of b → may (is_end b) (components_of (x ∷ a)) (lefts_in (x ∷ a)) ≡ true
      → may (is_end (members_of gs)) (components_of (x ∷ a)) (lefts_in (placed_of (components_of (x ∷ a)) (placements_in (x ∷ a)))) ≡ true
  first_stands x a b gs h t = rw (h, components_end b, placed_again (x ∷ a)) t

  cut_step : (g0 : ℕ) (x : Placed) (a b : List Placed) → left x ≡ true → Alone kind x → Run kind x a → LegalFrom kind (group_of x + 1) b
      → may (is_end b) (components_of (x ∷ a)) (lefts_in (x ∷ a)) ≡ true → Cut (group_of x + 1) (last_gap (x ∷ a)) b
      → Cut (group_of x) g0 (x ∷ (a ++ b))
  cut_step g0 x a b l e r f t c = record {
    groups = record { members = components_of (x ∷ a); width = group_width (x ∷ a); height = group_height g0 (x ∷ a) } ∷ c.groups;
    stands = (
      (placements_in (x ∷ a), first_group g0 x a l e r, first_stands x a b c.groups c.holds t),
      subst (λ (g : ℕ). Standing (group_of x + 1) g c.groups) (last_gap_lem (x ∷ a)) c.stands,
    );
    holds = rw c.holds (sym (components_append (x ∷ a) b));
    width = rw c.width (sym (paste_width kind x a b r f));
    height = rw c.height (sym (paste_height kind g0 x a b r f));
  }

  cuts : (n m g0 : ℕ) (l : List Placed) → length l ≤ n → LegalFrom kind m l → Obeys l → Cut m g0 l
  unfolding groups_of layout_width layout_height
  cuts zero m g0 [] d f o = record { groups = []; stands = tt; holds = refl; width = refl; height = refl }
  cuts zero m g0 (x ∷ l) d f o = absurd (omega arith)
  cuts (suc n) m g0 [] d f o = record { groups = []; stands = tt; holds = refl; width = refl; height = refl }
  cuts (suc n) m g0 (x ∷ l) d f o =
      let c = cut kind x l f.3 in
      go c.mates c.later c.splits c.run c.rest (λ g b e t u. cuts n (group_of x + 1) g b e t u)
    where
      go : (a b : List Placed) → l ≡ a ++ b → Run kind x a → LegalFrom kind (group_of x + 1) b
          → ((g : ℕ) (b : List Placed) → length b ≤ n → LegalFrom kind (group_of x + 1) b → Obeys b → Cut (group_of x + 1) g b) → Cut m g0 (x ∷ l)
      go a b e r t i =
          let z : length l ≡ length a + length b = ap length e ∙ length-append a b in
          let u = agrees.cuts x a b f.1 f.2 r t (rw e at o) in
          rw (e, sym f.0) (cut_step g0 x a b f.1 f.2 r t u.1 (i (last_gap (x ∷ a)) b (omega arith) t u.0))

  -- A layout is a legal folding: its groups are put one behind the other.
  join_obeys : (m : ℕ) (g cs : List Component) (ps qs : List Placement) → length ps ≡ length g → length qs ≡ length cs → Fronted kind m (placed_of g ps)
      → LegalFrom kind (m + 1) (placed_of cs qs) → may (is_end cs) g (lefts_in (placed_of g ps)) ≡ true → Obeys (placed_of cs qs) → Obeys (placed_of (g ++ cs) (ps ++ qs))
  join_obeys m g cs ps qs n k f t w o =
      let b = placed_of cs qs in
      let z : components_of (f.first ∷ f.mates) ≡ g = ap components_of (sym f.order) ∙ components_placed g ps n in
      rw (placed-append g ps cs qs n, f.order)
      (agrees.joins f.first f.mates b f.on_the_left f.run (rw f.numbered t) o
      (rw (z, placed_end cs qs k) (subst (λ (l : List Placed). may (is_end cs) g (lefts_in l) ≡ true) f.order w)))

  pub folds_front : (m g0 : ℕ) (g : List Component) (ps : List Placement) (w h : ℕ) (cs : List Component) (qs : List Placement) (w' h' : ℕ) → GroupFolds kind m g0 g ps w h
      → may (is_end cs) g (lefts_in (placed_of g ps)) ≡ true → FoldsBy kind Obeys (m + 1) (gap_after g) cs qs w' h' → FoldsBy kind Obeys m g0 (g ++ cs) (ps ++ qs) (w + w') (max h h')
  folds_front m g0 g ps w h cs qs w' h' f t r =
      folds_join kind Obeys m g0 g ps w h cs qs w' h' f r (join_obeys m g cs ps qs f.whole r.whole f.group r.legal t r.obeys)

  joined : (m g0 : ℕ) (gs : List (Group Component)) → Standing m g0 gs → (ps : List Placement) × FoldsBy kind Obeys m g0 (members_of gs) ps (width_of gs) (height_of gs)
  unfolding placed_of
  joined m g0 [] s = ([], folds_none kind Obeys m g0 agrees.nothing)
  joined m g0 (g ∷ gs) s =
      let r = joined (m + 1) (gap_after g.members) gs s.1 in
      (s.0.0 ++ r.0, folds_front m g0 g.members s.0.0 g.width g.height (members_of gs) r.0 (width_of gs) (height_of gs) s.0.1 s.0.2 r.1)

  pub legal_layout : (cs : List Component) (ps : List Placement) → LegalBy kind Obeys cs ps
      → (gs : List (Group Component)) × LayoutOf (λ x. gap x) Legally cs gs × (outline (width_of gs) (height_of gs) ≡ outline_of cs ps)
  legal_layout cs ps l =
      let c = cuts (length (placed_of cs ps)) 0 0 (placed_of cs ps) (omega arith) l.rules l.obeys in
      (c.groups, record { stands = c.stands; holds = c.holds ∙ components_placed cs ps l.whole }, rw (c.width, c.height))

  pub layout_legal : (cs : List Component) (gs : List (Group Component)) → LayoutOf (λ x. gap x) Legally cs gs
      → (ps : List Placement) × LegalBy kind Obeys cs ps × (outline_of cs ps ≡ outline (width_of gs) (height_of gs))
  layout_legal cs gs l =
      let r = joined 0 0 gs l.stands in
      let f = subst (λ (k : List Component). FoldsBy kind Obeys 0 0 k r.0 (width_of gs) (height_of gs)) l.holds r.1 in
      (r.0, record { whole = f.whole; rules = f.legal; obeys = f.obeys }, rw (f.width, f.height))

  pub search_by : (cs : List Component) → Stacked cs → Search (LegalBy kind Obeys cs) (outline_of cs) (λ limit. layout_for (groups_by may) limit 0 cs)
  search_by cs s = transfer (legal_layout cs) (layout_legal cs) (layouts_search (groups_laws kind may agrees.fits) cs s.some s.good)

-- Document 01 has no rule beside those of `LegalFrom`; ticket 3 has that of the marks, ticket 5 that of turning.
pub ruled : (kind : Kind) → Agrees kind (may_stand kind) (Obeys kind)
ruled kind = record {
  fits = suits kind;
  nothing = record { unparted = tt; turned = tt };
  cuts = λ x a b l e r f o. (
    record { unparted = rest_unparted kind x a b o.unparted; turned = rest_turned kind x a b o.turned },
    stands_allowed kind (is_end b) (components_of (x ∷ a)) (lefts_in (x ∷ a)) (group_stands kind x a l e r) (flat_last kind x a b l r f o.turned) (fold_free kind x a b l r f o.unparted) (end_free kind x a b r f o.unparted),
  );
  joins = λ x a b l r f o w. record {
    unparted = join_allowed kind (is_end b) x a b l r o.unparted w;
    turned = join_turned kind x a b r o.turned (λ n e. flat_stands kind (is_end b) (components_of (x ∷ a)) (lefts_in (x ∷ a)) e w);
  };
}

pub search : (kind : Kind) (cs : List Component) → Stacked cs → Search (Legal kind cs) (outline_of cs) (λ limit. layout_of kind limit 0 cs)
search kind cs s = transfer
    (λ ps l. (ps, record { whole = l.whole; rules = legal_is kind (placed_of cs ps) l.rules; obeys = legal_obeys kind cs ps s.free l }, refl))
    (λ ps l. (ps, obeys_legal kind cs ps l.whole l.rules l.obeys, refl))
    (search_by (ruled kind) cs s)
