-- What the call promises fixes its answer: a stack has only one outline of smallest area that is the narrower of equals.
use Prim.Native.Nat.{◌<◌}
use mathlib.Core.Path.{◌≡◌, ap, subst}
use mathlib.Core.List.{List}
use native.Mathlib.Omega.{arith}
use lib.ListN.{length}
use Rattle.terms.specs.declared.Component.{Component}
use Rattle.terms.specs.declared.Kind.{Kind}
use Rattle.terms.proofs.Lists.{AllSized}
use Rattle.folding.specs.declared.Outline.{Outline}
use Rattle.folding.specs.declared.Placement.{Placement}
use Rattle.folding.specs.Best.{Larger, SmallestArea}
use Rattle.folding.proofs.WidthSum.{width_some}
use Rattle.model.proofs.Area.{one_smallest}

module _ (kind : Kind) (cs : List Component) (sized : AllSized cs) (some : 0 < length cs) (ps qs : List Placement) (o p : Outline) where
  pub one_of_area : SmallestArea kind cs ps o → SmallestArea kind cs qs p → o ≡ p
  one_of_area b c =
      let wide : 0 < o.width.0 = omega (arith, width_some cs ps sized some b.is_legal.whole, ap (λ (x : Outline). x.width.0) b.has) in
      one_smallest o p wide (subst (Larger o) c.has (b.smallest qs c.is_legal)) (subst (Larger p) b.has (c.smallest ps b.is_legal))
