-- The outline of the best layout for a limit, where it is asked for.
use Prim.Native.Nat.{ℕ, ◌≤◌, ◌<◌}
use mathlib.Core.Path.{◌≡◌, refl, sym, ◌∙◌}
use mathlib.Core.Bool.{Bool, true, false, cond}
use mathlib.Core.List.{List}
use lib.Dec.{ltb}
use Rattle.std.specs.Prelude.{Option, Some, None}
use Rattle.std.proofs.lemmas.Bool.{ltb-true, ltb-false}
use Rattle.std.proofs.lemmas.Option.{cond_some, none-some}
use Rattle.terms.specs.declared.Component.{Component}
use Rattle.terms.specs.declared.Kind.{Kind}
use Rattle.folding.specs.declared.Outline.{Outline}
use Rattle.group.specs.Group.{none}
use Rattle.layout.specs.Layout.{layout_of}
use Rattle.plan.specs.Asks.{best_at, met_at}

-- An outline is that of the best layout, which keeps the limit. None says that no layout keeps it.
module _ (kind : Kind) (limit : ℕ) (cs : List Component) {r : Option Outline} (p : r ≡ met_at kind limit cs) where
  pub outline_met : {o : Outline} → r ≡ Some o → (o ≡ best_at kind limit cs) × ((layout_of kind limit 0 cs).width < none)
  outline_met {o} h = let m = cond_some _ _ o (sym p ∙ h) in (sym m.1, ltb-true _ _ m.0)

  pub limit_unmet : r ≡ None → none ≤ (layout_of kind limit 0 cs).width
  limit_unmet h = go (ltb (layout_of kind limit 0 cs).width none) (ltb-false _ _) (sym p ∙ h)
    where
      go : {P : Type 0} (b : Bool) → (b ≡ false → P) → cond b (Some (best_at kind limit cs)) None ≡ None → P
      go true f u = absurd (none-some (best_at kind limit cs) (sym u))
      go false f u = f refl
