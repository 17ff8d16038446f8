-- The number of the winner and the part that choosing hands back say the same.
use Prim.Native.Nat.{ℕ}
use mathlib.Core.Path.{◌≡◌, refl}
use mathlib.Core.List.{List}
use Rattle.std.proofs.Common.{Option, Some, None}
use lib.ListN.{length}
use Rattle.terms.specs.declared.Component.{Component}
use Rattle.terms.specs.declared.Kind.{Kind}
use Rattle.terms.specs.Answer.{Answer, refusal, result, and_then}
use Rattle.folding.specs.declared.Winner.{Winner}
use Rattle.folding.specs.declared.Winner.TheVariants.{First, Second}
use Rattle.folding.specs.Calls.{measure_in, winner_is, winners_part, chosen_in}
use Rattle.stack_folds.specs.Codes.{choice_code, chosen_part}

module _ (kind : Kind) (first second : List ℕ) where
  winners : (cs : List Component) (w : Option Winner) → chosen_part (result cs) (choice_code w) first second ≡ winners_part (length cs) w first second
  winners cs (Some First) = refl
  winners cs (Some Second) = refl
  winners cs None = refl

  -- `a` is what the check of the file says.
  pub chosen : (a : Answer (List Component))
      → chosen_part a (choice_code (winner_is (and_then a (λ cs. measure_in kind cs first)) (and_then a (λ cs. measure_in kind cs second)))) first second ≡ chosen_in kind first second a
  chosen (refusal k) = refl
  chosen (result cs) = winners cs (winner_is (measure_in kind cs first) (measure_in kind cs second))
