-- What the smallest area answers, and what the lent buffers hold afterwards (ticket 1; demand 3).
use Rattle.std.specs.Prelude.{ℕ, List, length}
use Rattle.terms.specs.declared.Component.{Component}
use Rattle.terms.specs.declared.Kind.{Kind}
use Rattle.terms.specs.Answer.{Answer, and_then}
use Rattle.stack.specs.File.{check_of}
use Rattle.folding.specs.declared.Outline.{Outline}
use Rattle.folding.specs.Best.{SmallestArea}
use Rattle.fold.specs.Calls.{room_checks, Wanted, Answered}

-- "The call borrows and refuses as the folds do, without 7 and 9": the file's own refusals, then 8, or the stack's
-- components.
abbrev pub area_valid_of : Kind → List ℕ → List ℕ → List ℕ → Answer (List Component)
area_valid_of kind file out work = and_then (check_of kind file) (λ cs. room_checks (length out) (length work) (length cs) cs)

-- There is no limit, so there is always a folding.
abbrev pub by_area : Kind → Wanted
by_area kind = record { Best = λ cs. SmallestArea kind cs; Unmeetable = λ cs. ⊥ }

-- "the outline whose width times height is least, the narrower of equals, with a folding that has it"; "which folding with
-- that outline is free".
abbrev pub SmallestOf : Kind → List ℕ → List ℕ → List ℕ → Answer Outline → List ℕ → List ℕ → Type 0
SmallestOf kind file out work answer out' work' =
    Answered (by_area kind) out work out' work' answer (area_valid_of kind file out work)
