-- Worked examples of the writer, by computation: its file, and the order of its refusals.
use Rattle.std.specs.Prelude.{◌≡◌, refl, [], ◌∷◌}
use Rattle.terms.specs.Answer.{refusal}
use Rattle.terms.specs.Component.{every, stack_of, tabulate}
use Rattle.stack_write.specs.File.{bytes_of}
use Rattle.stack_write.specs.Call.{write_of, write_into}

-- height 5, width 6, gap 0, mark 0 into a buffer of 16 bytes: the last one is left as it was
one_written : write_into (write_of (5 ∷ []) (6 ∷ []) (0 ∷ []) (0 ∷ []) 16) (9 ∷ 9 ∷ 9 ∷ 9 ∷ 9 ∷ 9 ∷ 9 ∷ 9 ∷ 9 ∷ 9 ∷ 9 ∷ 9 ∷ 9 ∷ 9 ∷ 9 ∷ 9 ∷ [])
    ≡ 83 ∷ 84 ∷ 75 ∷ 2 ∷ 0 ∷ 1 ∷ 0 ∷ 5 ∷ 0 ∷ 6 ∷ 0 ∷ 0 ∷ 0 ∷ 0 ∷ 0 ∷ 9 ∷ []
unfolding stack_of every tabulate bytes_of
one_written = refl

-- lists of unequal length before the number of components, that before a bad component, and a short buffer last
unequal : write_of [] (1 ∷ []) [] [] 0 ≡ refusal 3
unequal = refl

unequal_marks : write_of [] [] [] (0 ∷ []) 0 ≡ refusal 3
unequal_marks = refl

empty : write_of [] [] [] [] 0 ≡ refusal 4
unfolding stack_of every tabulate
empty = refl

low : write_of (0 ∷ []) (1 ∷ []) (9 ∷ []) (9 ∷ []) 0 ≡ refusal 5
unfolding stack_of every tabulate
low = refl

last_gap : write_of (1 ∷ []) (1 ∷ []) (9 ∷ []) (9 ∷ []) 0 ≡ refusal 6
unfolding stack_of every tabulate
last_gap = refl

last_mark : write_of (1 ∷ []) (1 ∷ []) (0 ∷ []) (1 ∷ []) 0 ≡ refusal 11
unfolding stack_of every tabulate
last_mark = refl

mark_2 : write_of (1 ∷ 1 ∷ []) (1 ∷ 1 ∷ []) (0 ∷ 0 ∷ []) (2 ∷ 0 ∷ []) 0 ≡ refusal 11
unfolding stack_of every tabulate
mark_2 = refl

-- two components, a fold barred between them
two_written : write_into (write_of (5 ∷ 7 ∷ []) (6 ∷ 8 ∷ []) (4000 ∷ 0 ∷ []) (1 ∷ 0 ∷ []) 23) []
    ≡ 83 ∷ 84 ∷ 75 ∷ 2 ∷ 0 ∷ 2 ∷ 0 ∷ 5 ∷ 0 ∷ 6 ∷ 0 ∷ 160 ∷ 15 ∷ 1 ∷ 0 ∷ 7 ∷ 0 ∷ 8 ∷ 0 ∷ 0 ∷ 0 ∷ 0 ∷ 0 ∷ []
unfolding stack_of every tabulate bytes_of
two_written = refl

short : write_of (1 ∷ []) (1 ∷ []) (0 ∷ []) (0 ∷ []) 14 ≡ refusal 8
unfolding stack_of every tabulate
short = refl
