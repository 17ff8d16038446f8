-- The definitions on a row of six cells, 3, 1, 2, 2, 4 and 1 high, by computation.
use Rattle.std.specs.Prelude.{ℕ, ◌≡◌, refl, List, [], ◌∷◌, false}
use Rattle.terms.specs.Answer.{refusal, result}
use Rattle.terms.specs.declared.Kind.TheVariants.{Apart}
use Rattle.terms.specs.Component.{every, stack_of, tabulate}
use Rattle.stack.specs.File.{header_of, check_of}
use Rattle.cells.specs.Endings.{ends_behind, total, greatest_behind, greatest_height, Ending}
use Rattle.cells.specs.Apart.{cell_stack}
use Rattle.cells.specs.Calls.{all_in_size, tallest_cell, row_of, row_within}

row : List ℕ
row = 3 ∷ 1 ∷ 2 ∷ 2 ∷ 4 ∷ 1 ∷ []

-- Two stacks, of the first three cells and of the others: 6 and 7 high.
two : Ending row (3 ∷ 6 ∷ []) × (greatest_height row (3 ∷ 6 ∷ []) ≡ 7)
unfolding row ends_behind total greatest_behind
two = (refl, refl)

-- A stack for each cell, and one for them all.
six : Ending row (1 ∷ 2 ∷ 3 ∷ 4 ∷ 5 ∷ 6 ∷ []) × (greatest_height row (1 ∷ 2 ∷ 3 ∷ 4 ∷ 5 ∷ 6 ∷ []) ≡ 4)
unfolding row ends_behind total greatest_behind
six = (refl, refl)

one : Ending row (6 ∷ []) × (greatest_height row (6 ∷ []) ≡ 13)
unfolding row ends_behind total greatest_behind
one = (refl, refl)

-- Ends that fall, a stack without cells, a cell that is left out, a cell too many, and no stack.
not_ends : (ends_behind 6 0 (6 ∷ 3 ∷ []) ≡ false) × (ends_behind 6 0 (3 ∷ 3 ∷ 6 ∷ []) ≡ false) × (ends_behind 6 0 (0 ∷ 6 ∷ []) ≡ false)
    × (ends_behind 6 0 (3 ∷ 5 ∷ []) ≡ false) × (ends_behind 6 0 (3 ∷ 7 ∷ []) ≡ false) × (ends_behind 6 0 [] ≡ false)
unfolding ends_behind
not_ends = (refl, refl, refl, refl, refl, refl)

-- 12 before 5, 5 before 7, 7 before 9.
no_cells : row_of [] 0 ≡ refusal 12
no_cells = refl

bad_cell : (row_of (3 ∷ 0 ∷ []) 0 ≡ refusal 5) × (row_of (4001 ∷ []) 1 ≡ refusal 5)
unfolding all_in_size
bad_cell = (refl, refl)

bad_limit : (row_within row 0 ≡ refusal 7) × (row_within row 240000001 ≡ refusal 7)
unfolding row all_in_size
bad_limit = (refl, refl)

under_the_tallest : row_within row 3 ≡ refusal 9
unfolding row all_in_size tallest_cell
under_the_tallest = refl

taken : (row_within row 4 ≡ result row) × (row_within row 240000000 ≡ result row) × (row_of row 1 ≡ result row)
unfolding row all_in_size tallest_cell
taken = (refl, refl, refl)

-- The file of three cells, 5, 300 and 1 high: letters, version 2, three components of width 1, gap and mark 0. The apart calls
-- read it to the stack of these cells.
file : List ℕ
file =
    83 ∷ 84 ∷ 75 ∷ 2 ∷ 0 ∷ 3 ∷ 0
    ∷ 5 ∷ 0 ∷ 1 ∷ 0 ∷ 0 ∷ 0 ∷ 0 ∷ 0
    ∷ 44 ∷ 1 ∷ 1 ∷ 0 ∷ 0 ∷ 0 ∷ 0 ∷ 0
    ∷ 1 ∷ 0 ∷ 1 ∷ 0 ∷ 0 ∷ 0 ∷ 0 ∷ 0 ∷ []

read : check_of Apart file ≡ result (cell_stack (5 ∷ 300 ∷ 1 ∷ []))
unfolding file header_of stack_of every tabulate
read = refl
