-- The same search serves whatever has the same outlines.
use Prim.Native.Nat.{ℕ, ◌≤◌, ◌<◌}
use mathlib.Core.Path.{◌≡◌, sym, ◌∙◌, subst}
use Rattle.terms.specs.Numbers.{most_limit}
use Rattle.folding.specs.declared.Outline.{Outline}
use Rattle.model.specs.Groups.{none}
use Rattle.model.specs.Layout.{Layout, NoWorse}
use Rattle.model.specs.Search.{Search}

module _ {F K : Type 0} {Legal : F → Type 0} {outline_of : F → Outline} {LegalK : K → Type 0} {outlineK : K → Outline} {best : ℕ → Layout}
    (to : (k : K) → LegalK k → (f : F) × Legal f × (outline_of f ≡ outlineK k)) (from : (f : F) → Legal f → (k : K) × LegalK k × (outlineK k ≡ outline_of f)) where
  pub transfer : Search Legal outline_of best → Search LegalK outlineK best
  transfer s = record {
    every = λ limit k l h.
        let r = to k l in
        subst (λ (o : Outline). NoWorse (best limit) o.width.0 o.height.0 × ((best limit).width < none)) r.2
        (s.every limit r.0 r.1 (subst (λ (o : Outline). o.height.0 ≤ limit) (sym r.2) h));
    some = λ limit m. let f = s.some limit m in let r = from f.0 f.1 in (r.0, r.1, r.2 ∙ f.2);
    keeps = s.keeps;
    high = λ k l. let r = to k l in subst (λ (o : Outline). 0 < o.height.0) r.2 (s.high r.0 r.1);
    low = λ k l. let r = to k l in subst (λ (o : Outline). o.height.0 ≤ most_limit) r.2 (s.low r.0 r.1);
  }
