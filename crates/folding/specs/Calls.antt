-- What measuring and choosing answer (document 01, "Calls").
use Rattle.std.specs.Prelude.{ℕ, ◌*◌, ◌/◌, List, [], Bool, not, cond, Option, None, Some, ◌&&◌, ◌||◌, length, take, ltb, eqb}
use Rattle.terms.specs.declared.Component.{Component}
use Rattle.terms.specs.declared.Kind.{Kind}
use Rattle.terms.specs.Answer.{Answer, refusal, result, refuse_if, and_then}
use Rattle.stack.specs.File.{check_of}
use Rattle.folding.specs.declared.Outline.{Outline}
use Rattle.folding.specs.declared.Winner.{Winner}
use Rattle.folding.specs.declared.Winner.TheVariants.{First, Second}
use Rattle.folding.specs.Placement.{placed_of, placements_of}
use Rattle.folding.specs.Legal.{legal}
use Rattle.folding.specs.Outline.{outline_of}

-- Refusal 8, "fewer than n placements", then 10, "the placements are not legal". "Numbers past the nth placement are not
-- read, and an incomplete placement doesn't count."
unfoldable pub measure_in : Kind → List Component → List ℕ → Answer Outline
measure_in kind cs flat =
    refuse_if (ltb (length flat / 3) (length cs)) 8
    (refuse_if (not (legal kind (placed_of cs (placements_of flat (length cs))))) 10
    (result (outline_of cs (placements_of flat (length cs)))))

-- "Measure: takes a stack file, the kind, and a run of placements, one for each component; gives the outline."
abbrev pub measure_of : Kind → List ℕ → List ℕ → Answer Outline
measure_of kind file flat = and_then (check_of kind file) (λ cs. measure_in kind cs flat)

-- "Smaller width wins, then smaller height, then the first buffer": the second outline is better than the first.
abbrev pub second_wins : Outline → Outline → Bool
second_wins o p = ltb p.width.0 o.width.0 || (eqb p.width.0 o.width.0 && ltb p.height.0 o.height.0)

-- Which of two measured foldings wins. "If measuring would refuse either folding", neither does.
abbrev pub winner_is : Answer Outline → Answer Outline → Option Winner
winner_is (refusal j) q = None
winner_is (result o) (refusal k) = None
winner_is (result o) (result p) = Some (cond (second_wins o p) Second First)

-- "hands back the winner's placements as a part of its own buffer", or an empty part: with n placements, of three numbers
-- each.
abbrev pub winners_part : ℕ → Option Winner → List ℕ → List ℕ → List ℕ
winners_part n (Some First) first second = take (3 * n) first
winners_part n (Some Second) first second = take (3 * n) second
winners_part n None first second = []

abbrev pub chosen_in : Kind → List ℕ → List ℕ → Answer (List Component) → List ℕ
chosen_in kind first second (refusal k) = []
chosen_in kind first second (result cs) =
    winners_part (length cs) (winner_is (measure_in kind cs first) (measure_in kind cs second)) first second

abbrev pub choose_of : Kind → List ℕ → List ℕ → List ℕ → List ℕ
choose_of kind file first second = chosen_in kind first second (check_of kind file)
