-- Foldings of a stack with a given outline, put together from a first group and the rest.
use Prim.Native.Nat.{ℕ, ◌+◌, max}
use mathlib.Core.Path.{◌≡◌, refl, ap, ◌∙◌}
use mathlib.Core.List.{List, [], ◌∷◌, ◌++◌}
use native.Mathlib.Omega.{arith}
use lib.ListN.{length, length-append}
use Rattle.terms.specs.declared.Component.{Component}
use Rattle.terms.specs.declared.Kind.{Kind}
use Rattle.folding.specs.declared.Placed.{Placed}
use Rattle.folding.specs.declared.Placement.{Placement}
use Rattle.folding.specs.Placement.{group_of, placed_of}
use Rattle.folding.specs.Outline.{groups_of, group_width, group_height, last_gap, layout_width, layout_height}
use Rattle.folding.proofs.Rules.{LegalFrom}
use Rattle.folding.proofs.Groups.{paste, paste_width, paste_height}
use Rattle.folding.proofs.Sides.{Fronted}
use Rattle.group.specs.Group.{gap_after}
use Rattle.group.proofs.Exact.{GroupFolds}
use Rattle.group.proofs.Placed.{gap_last}
use Rattle.layout.proofs.Obeying.{Obeys}

-- A folding, with group numbers from m on, of components behind a gap of g0, that obeys what is asked beside the rules of
-- `LegalFrom`.
pub record FoldsBy (kind : Kind) (Obeys : List Placed → Type 0) (m g0 : ℕ) (cs : List Component) (ps : List Placement) (w h : ℕ) : Type 0 where
  pub whole : length ps ≡ length cs
  pub legal : LegalFrom kind m (placed_of cs ps)
  pub obeys : Obeys (placed_of cs ps)
  pub width : layout_width (groups_of (placed_of cs ps)) ≡ w
  pub height : layout_height g0 (groups_of (placed_of cs ps)) ≡ h

pub placed-append : (gs : List Component) (ps : List Placement) (bs : List Component) (qs : List Placement) → length ps ≡ length gs
    → placed_of (gs ++ bs) (ps ++ qs) ≡ placed_of gs ps ++ placed_of bs qs
unfolding placed_of
placed-append [] [] bs qs e = refl
placed-append [] (p ∷ ps) bs qs e = absurd (omega arith)
placed-append (a ∷ gs) [] bs qs e = absurd (omega arith)
placed-append (a ∷ gs) (p ∷ ps) bs qs e = ap (λ (l : List Placed). record { component = a; placement = p } ∷ l) (placed-append gs ps bs qs (omega arith))

-- With those of tickets 3 and 5.
abbrev pub Folds : Kind → ℕ → ℕ → List Component → List Placement → ℕ → ℕ → Type 0
Folds kind m g0 cs ps w h = FoldsBy kind (Obeys kind) m g0 cs ps w h

pub folds_none : (kind : Kind) (Obeys : List Placed → Type 0) (m g0 : ℕ) → Obeys [] → FoldsBy kind Obeys m g0 [] [] 0 0
unfolding placed_of groups_of layout_width layout_height
folds_none kind Obeys m g0 o = record { whole = refl; legal = tt; obeys = o; width = refl; height = refl }

-- The first group, as a list l of placed components, and the rest b.
module _ (kind : Kind) (m g0 : ℕ) (l b : List Placed) (f : Fronted kind m l) (r : LegalFrom kind (m + 1) b) where
  behind : LegalFrom kind (group_of f.first + 1) b
  behind = rw f.numbered r

  join_legal : LegalFrom kind m (l ++ b)
  join_legal = rw f.order (f.numbered, f.on_the_left, f.alone, paste kind f.first f.mates b f.run behind)

  join_width : layout_width (groups_of (l ++ b)) ≡ group_width l + layout_width (groups_of b)
  join_width = rw f.order (paste_width kind f.first f.mates b f.run behind)

  join_height : layout_height g0 (groups_of (l ++ b)) ≡ max (group_height g0 l) (layout_height (last_gap l) (groups_of b))
  join_height = rw f.order (paste_height kind g0 f.first f.mates b f.run behind)

pub folds_join : (kind : Kind) (Obeys : List Placed → Type 0) (m g0 : ℕ) (gcs : List Component) (gps : List Placement) (w h : ℕ) (cs : List Component) (ps : List Placement) (w' h' : ℕ)
    → GroupFolds kind m g0 gcs gps w h → FoldsBy kind Obeys (m + 1) (gap_after gcs) cs ps w' h' → Obeys (placed_of (gcs ++ cs) (gps ++ ps)) → FoldsBy kind Obeys m g0 (gcs ++ cs) (gps ++ ps) (w + w') (max h h')
folds_join kind Obeys m g0 gcs gps w h cs ps w' h' g f o =
    let e = placed-append gcs gps cs ps g.whole in
    let n : length (gps ++ ps) ≡ length (gcs ++ cs) = omega (arith, length-append gps ps, length-append gcs cs, g.whole, f.whole) in
    record {
      whole = n;
      legal = rw e (join_legal kind m g0 (placed_of gcs gps) (placed_of cs ps) g.group f.legal);
      obeys = o;
      width = rw e (join_width kind m g0 (placed_of gcs gps) (placed_of cs ps) g.group f.legal ∙ rw (g.width, f.width));
      height = rw e (join_height kind m g0 (placed_of gcs gps) (placed_of cs ps) g.group f.legal ∙ rw (g.height, gap_last gcs gps g.whole, f.height));
    }
