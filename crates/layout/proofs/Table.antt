-- The outlines that lower and lower limits lead to are the unbeaten ones of all legal foldings.
use mathlib.Core.List.{List}
use Rattle.terms.specs.Numbers.{most_limit}
use Rattle.terms.specs.declared.Component.{Component}
use Rattle.terms.specs.declared.Kind.{Kind}
use Rattle.folding.specs.declared.Outline.{Outline}
use Rattle.folding.specs.Legal.{Legal}
use Rattle.folding.specs.Outline.{outline_of}
use Rattle.folding.specs.Best.{Unbeaten, Listing}
use Rattle.model.proofs.Table.{all_listed, unbeaten_low}
use Rattle.model.proofs.Table as any
use Rattle.layout.specs.Table.{outlines}
use Rattle.layout.proofs.Groups.{Stacked}
use Rattle.layout.proofs.Foldings.{search}

module _ (kind : Kind) (cs : List Component) (s : Stacked cs) where
  pub unbeaten_is : (o : Outline) → any.Unbeaten (Legal kind cs) (outline_of cs) o → Unbeaten kind cs o
  unbeaten_is o u = record { folding = u.0; is_legal = u.1; has = u.2; unbeaten = u.3 }

  unbeaten_of : (o : Outline) → Unbeaten kind cs o → any.Unbeaten (Legal kind cs) (outline_of cs) o
  unbeaten_of o u = (u.folding, u.is_legal, u.has, u.unbeaten)

  pub table : Listing kind cs (outlines kind cs most_limit most_limit)
  table =
      let r = all_listed (search kind cs s) in
      record {
        ordered = r.ordered;
        sound = λ o a. unbeaten_is o (r.sound o a).0;
        complete = λ o u. let v = unbeaten_of o u in r.complete o v (unbeaten_low (search kind cs s) o v);
      }
