-- The numbers that the header gives, by computation.
use Rattle.std.specs.Prelude.{ℕ, ◌≡◌, refl, List, [], ◌∷◌, true, false, Some, None}
use Rattle.terms.specs.declared.Component.{Component}
use Rattle.terms.specs.declared.Kind.TheVariants.{Apart, Nested}
use Rattle.terms.specs.Answer.{refusal, result}
use Rattle.terms.specs.Component.{every, stack_of, tabulate, count_of}
use Rattle.stack.specs.File.{header_of, check_of}
use Rattle.folding.specs.declared.Winner.TheVariants.{First, Second}
use Rattle.stack_folds.specs.Codes.{kind_of, count_code, outline_code, stacks_code, part_code, choice_code, chosen_part}

-- false is apart, true is nested
kinds : (kind_of false ≡ Apart) × (kind_of true ≡ Nested)
kinds = (refl, refl)

-- a count or an outline beside 0; zeros beside a refusal
counted : count_code (result 4) ≡ record { refusal = 0; count = 4 }
counted = refl

not_counted : count_code (refusal 8) ≡ record { refusal = 8; count = 0 }
not_counted = refl

outlined : outline_code (result (record { width = record { 0 = 6 }; height = record { 0 = 2 } })) ≡ record { refusal = 0; width = 6; height = 2 }
outlined = refl

not_outlined : outline_code (refusal 9) ≡ record { refusal = 9; width = 0; height = 0 }
not_outlined = refl

stacked : stacks_code (result (record { count = 3; height = record { 0 = 4 } })) ≡ record { refusal = 0; count = 3; height = 4 }
stacked = refl

not_stacked : stacks_code (refusal 12) ≡ record { refusal = 12; count = 0; height = 0 }
not_stacked = refl

-- 1 the first, 2 the second, 0 neither
choices : (choice_code (Some First) ≡ 1) × (choice_code (Some Second) ≡ 2) × (choice_code None ≡ 0)
choices = (refl, refl, refl)

unit : Component
unit = record { height = record { 0 = 1 }; width = record { 0 = 1 }; gap = record { 0 = 0 }; mark = 0 }

chosen_second : chosen_part (result (unit ∷ [])) 2 (0 ∷ 0 ∷ 5 ∷ []) (0 ∷ 0 ∷ 0 ∷ 9 ∷ []) ≡ 0 ∷ 0 ∷ 0 ∷ []
chosen_second = refl

chosen_none : chosen_part (result (unit ∷ [])) 0 (0 ∷ 0 ∷ 5 ∷ []) (0 ∷ 0 ∷ 0 ∷ []) ≡ []
chosen_none = refl

-- STK, version 1, two components: the second stands behind 13 bytes, and there is no third
file_1 : List ℕ
file_1 = 83 ∷ 84 ∷ 75 ∷ 1 ∷ 0 ∷ 2 ∷ 0 ∷ 5 ∷ 0 ∷ 6 ∷ 0 ∷ 0 ∷ 0 ∷ 7 ∷ 0 ∷ 1 ∷ 0 ∷ 0 ∷ 0 ∷ []

looked_up : part_code (check_of Apart file_1) file_1 2 ≡ record { start = 13; length = 6 }
unfolding file_1 header_of stack_of every tabulate
looked_up = refl

no_third : part_code (check_of Apart file_1) file_1 3 ≡ record { start = 0; length = 0 }
unfolding file_1 header_of stack_of every tabulate
no_third = refl

-- the same in version 2, a fold barred between them: eight bytes behind 15; with a last mark of 1 it is refused
file_2 : ℕ → List ℕ
file_2 m = 83 ∷ 84 ∷ 75 ∷ 2 ∷ 0 ∷ 2 ∷ 0 ∷ 5 ∷ 0 ∷ 6 ∷ 0 ∷ 0 ∷ 0 ∷ 1 ∷ 0 ∷ 7 ∷ 0 ∷ 1 ∷ 0 ∷ 0 ∷ 0 ∷ m ∷ 0 ∷ []

looked_up_2 : part_code (check_of Apart (file_2 0)) (file_2 0) 2 ≡ record { start = 15; length = 8 }
unfolding file_2 header_of stack_of every tabulate
looked_up_2 = refl

barred_last : count_code (count_of (check_of Nested (file_2 1))) ≡ record { refusal = 11; count = 0 }
unfolding file_2 header_of stack_of every tabulate
barred_last = refl

none_refused : part_code (check_of Apart (file_2 1)) (file_2 1) 1 ≡ record { start = 0; length = 0 }
unfolding file_2 header_of stack_of every tabulate
none_refused = refl
