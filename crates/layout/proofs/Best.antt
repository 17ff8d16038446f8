-- The layout is what "best" asks for, over all legal foldings of the stack.
use Prim.Native.Nat.{ℕ, ◌≤◌, ◌<◌}
use mathlib.Core.Path.{◌≡◌, ap}
use mathlib.Core.List.{List}
use Rattle.terms.specs.declared.Component.{Component}
use Rattle.terms.specs.declared.Kind.{Kind}
use Rattle.folding.specs.declared.Placement.{Placement}
use Rattle.folding.specs.declared.Outline.{Outline}
use Rattle.folding.specs.Placement.{placed_of}
use Rattle.folding.specs.Legal.{Legal}
use Rattle.folding.specs.Outline.{outline_of}
use Rattle.folding.specs.Best.{BestForHeight, BestForWidth}
use Rattle.folding.proofs.Rules.{legal_is}
use Rattle.model.specs.Groups.{none}
use Rattle.model.specs.Outlines.{outline_by}
use Rattle.model.proofs.Best.{Below, others_wider, others_higher}
use Rattle.layout.specs.Layout.{Layout, layout_of}
use Rattle.layout.proofs.Groups.{Stacked}
use Rattle.layout.proofs.Folds.{Folds}
use Rattle.layout.proofs.Obeying.{legal_obeys, obeys_legal}
use Rattle.layout.proofs.Foldings.{search}

module _ (kind : Kind) (cs : List Component) where
  abbrev best_for : ℕ → Layout
  best_for limit = layout_of kind limit 0 cs

  -- Placements with the outline of a layout.
  abbrev pub FoldsAs : List Placement → Layout → Type 0
  FoldsAs ps b = Folds kind 0 0 cs ps b.width b.height

  folds_legal : (ps : List Placement) (b : Layout) → FoldsAs ps b → Legal kind cs ps
  folds_legal ps b f = obeys_legal kind cs ps f.whole f.legal f.obeys

  folds_outline : (ps : List Placement) (b : Layout) → FoldsAs ps b → outline_of cs ps ≡ outline_by b
  folds_outline ps b f = rw (f.width, f.height)

  legal_folds : Stacked cs → (ps : List Placement) (b : Layout) → Legal kind cs ps → outline_of cs ps ≡ outline_by b → FoldsAs ps b
  legal_folds s ps b l e = record {
    whole = l.whole;
    legal = legal_is kind (placed_of cs ps) l.rules;
    obeys = legal_obeys kind cs ps s.free l;
    width = ap (λ (o : Outline). o.width.0) e;
    height = ap (λ (o : Outline). o.height.0) e;
  }

  module _ (s : Stacked cs) where
    pub reach : (limit : ℕ) → (best_for limit).width < none → (ps : List Placement) × FoldsAs ps (best_for limit)
    reach limit m = let r = (search kind cs s).some limit m in (r.0, legal_folds s r.0 (best_for limit) r.1 r.2)

    module _ (limit : ℕ) (ps : List Placement) (m : (best_for limit).width < none) (f : FoldsAs ps (best_for limit)) where
      pub best_height : BestForHeight kind cs limit ps (outline_by (best_for limit))
      best_height = record {
        is_legal = folds_legal ps (best_for limit) f;
        has = folds_outline ps (best_for limit) f;
        keeps = rw f.height ((search kind cs s).keeps limit m);
        best = others_wider (search kind cs s) limit;
      }

      pub best_width : (w : ℕ) → Below best_for w limit → (best_for limit).width ≤ w → BestForWidth kind cs w ps (outline_by (best_for limit))
      best_width w least n = record {
        is_legal = folds_legal ps (best_for limit) f;
        has = folds_outline ps (best_for limit) f;
        keeps = rw f.width n;
        best = others_higher (search kind cs s) w limit least m;
      }
