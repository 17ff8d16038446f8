-- Worked examples of the check, the reading and the lookup, by computation.
use Rattle.std.specs.Prelude.{ℕ, ◌≡◌, refl, List, [], ◌∷◌, ◌++◌}
use Rattle.terms.specs.declared.Component.{Component}
use Rattle.terms.specs.declared.Kind.TheVariants.{Apart, Nested}
use Rattle.terms.specs.Answer.{refusal, result}
use Rattle.terms.specs.Component.{every, stack_of, tabulate}
use Rattle.stack.specs.File.{header_of, check_of}
use Rattle.stack.specs.Calls.{read_of, read_into, read_all, lookup_of}

component : ℕ → ℕ → ℕ → ℕ → Component
component h w g m = record { height = record { 0 = h }; width = record { 0 = w }; gap = record { 0 = g }; mark = m }

-- STK, version 1, two components
front : List ℕ
front = 83 ∷ 84 ∷ 75 ∷ 1 ∷ 0 ∷ 2 ∷ 0 ∷ []

-- height 5, width 6, gap 4,000; then height 4,000, width 1, gap 0
good : List ℕ
good = front ++ (5 ∷ 0 ∷ 6 ∷ 0 ∷ 160 ∷ 15 ∷ 160 ∷ 15 ∷ 1 ∷ 0 ∷ 0 ∷ 0 ∷ [])

good_is : check_of Nested good ≡ result (component 5 6 4000 0 ∷ component 4000 1 0 0 ∷ [])
unfolding good front component header_of stack_of every tabulate
good_is = refl

second : lookup_of good 2 ≡ 160 ∷ 15 ∷ 1 ∷ 0 ∷ 0 ∷ 0 ∷ []
unfolding good front header_of stack_of every tabulate
second = refl

-- a gap of 4,001 before a height of 0: the height is refused
mixed_file : List ℕ
mixed_file = front ++ (5 ∷ 0 ∷ 6 ∷ 0 ∷ 161 ∷ 15 ∷ 0 ∷ 0 ∷ 1 ∷ 0 ∷ 0 ∷ 0 ∷ [])

mixed : check_of Apart mixed_file ≡ refusal 5
unfolding mixed_file front header_of stack_of every tabulate
mixed = refl

-- a last gap of 1
last_gap : check_of Apart (front ++ (5 ∷ 0 ∷ 6 ∷ 0 ∷ 0 ∷ 0 ∷ 7 ∷ 0 ∷ 1 ∷ 0 ∷ 1 ∷ 0 ∷ [])) ≡ refusal 6
unfolding front header_of stack_of every tabulate
last_gap = refl

short : check_of Apart front ≡ refusal 3
unfolding front header_of
short = refl

-- one byte too many
long : check_of Apart (83 ∷ 84 ∷ 75 ∷ 1 ∷ 0 ∷ 0 ∷ 0 ∷ 9 ∷ []) ≡ refusal 3
unfolding header_of
long = refl

none : check_of Apart (83 ∷ 84 ∷ 75 ∷ 1 ∷ 0 ∷ 0 ∷ 0 ∷ []) ≡ refusal 4
unfolding header_of stack_of every tabulate
none = refl

-- the version before the length, and the letters before both
version : check_of Apart (83 ∷ 84 ∷ 75 ∷ 3 ∷ 0 ∷ 5 ∷ 0 ∷ []) ≡ refusal 2
unfolding header_of
version = refl

version_high : check_of Apart (83 ∷ 84 ∷ 75 ∷ 0 ∷ 1 ∷ 0 ∷ 0 ∷ []) ≡ refusal 2
unfolding header_of
version_high = refl

letters_other : check_of Apart (83 ∷ 84 ∷ 76 ∷ 3 ∷ 0 ∷ 5 ∷ 0 ∷ []) ≡ refusal 1
unfolding header_of
letters_other = refl

letters_alone : check_of Apart (83 ∷ 84 ∷ 75 ∷ []) ≡ refusal 1
unfolding header_of
letters_alone = refl

-- a bad component before a short list
mixed_read : read_of Apart mixed_file 0 ≡ refusal 5
unfolding mixed_file front header_of stack_of every tabulate
mixed_read = refl

good_read : read_of Apart good 1 ≡ refusal 8
unfolding good front header_of stack_of every tabulate
good_read = refl

-- no component has the number 0, or 3 of two, or any number in a refused file
looked_below : lookup_of good 0 ≡ []
unfolding good front header_of stack_of every tabulate
looked_below = refl

looked_past : lookup_of good 3 ≡ []
unfolding good front header_of stack_of every tabulate
looked_past = refl

looked_refused : lookup_of mixed_file 1 ≡ []
unfolding mixed_file front header_of stack_of every tabulate
looked_refused = refl

-- Version 2: STK, version 2, two components.
front_2 : List ℕ
front_2 = 83 ∷ 84 ∷ 75 ∷ 2 ∷ 0 ∷ 2 ∷ 0 ∷ []

-- the components of `good`, a fold barred after the first
marked : List ℕ
marked = front_2 ++ (5 ∷ 0 ∷ 6 ∷ 0 ∷ 160 ∷ 15 ∷ 1 ∷ 0 ∷ 160 ∷ 15 ∷ 1 ∷ 0 ∷ 0 ∷ 0 ∷ 0 ∷ 0 ∷ [])

marked_is : check_of Nested marked ≡ result (component 5 6 4000 1 ∷ component 4000 1 0 0 ∷ [])
unfolding marked front_2 component header_of stack_of every tabulate
marked_is = refl

marked_second : lookup_of marked 2 ≡ 160 ∷ 15 ∷ 1 ∷ 0 ∷ 0 ∷ 0 ∷ 0 ∷ 0 ∷ []
unfolding marked front_2 header_of stack_of every tabulate
marked_second = refl

-- with marks of 0 it reads as the file of version 1
same_components : check_of Nested (front_2 ++ (5 ∷ 0 ∷ 6 ∷ 0 ∷ 160 ∷ 15 ∷ 0 ∷ 0 ∷ 160 ∷ 15 ∷ 1 ∷ 0 ∷ 0 ∷ 0 ∷ 0 ∷ 0 ∷ [])) ≡ check_of Nested good
unfolding good front front_2 header_of stack_of every tabulate
same_components = refl

-- a last mark of 1
last_barred : List ℕ
last_barred = front_2 ++ (5 ∷ 0 ∷ 6 ∷ 0 ∷ 0 ∷ 0 ∷ 0 ∷ 0 ∷ 7 ∷ 0 ∷ 1 ∷ 0 ∷ 0 ∷ 0 ∷ 1 ∷ 0 ∷ [])

last_mark : check_of Apart last_barred ≡ refusal 11
unfolding last_barred front_2 header_of stack_of every tabulate
last_mark = refl

looked_marked : lookup_of last_barred 1 ≡ []
unfolding last_barred front_2 header_of stack_of every tabulate
looked_marked = refl

-- a bad mark before a short list
last_mark_read : read_of Apart last_barred 0 ≡ refusal 11
unfolding last_barred front_2 header_of stack_of every tabulate
last_mark_read = refl

-- a mark of 2, and one of 256, whose low byte is 0
mark_2 : check_of Apart (front_2 ++ (5 ∷ 0 ∷ 6 ∷ 0 ∷ 0 ∷ 0 ∷ 2 ∷ 0 ∷ 7 ∷ 0 ∷ 1 ∷ 0 ∷ 0 ∷ 0 ∷ 0 ∷ 0 ∷ [])) ≡ refusal 11
unfolding front_2 header_of stack_of every tabulate
mark_2 = refl

mark_256 : check_of Apart (front_2 ++ (5 ∷ 0 ∷ 6 ∷ 0 ∷ 0 ∷ 0 ∷ 0 ∷ 1 ∷ 7 ∷ 0 ∷ 1 ∷ 0 ∷ 0 ∷ 0 ∷ 0 ∷ 0 ∷ [])) ≡ refusal 11
unfolding front_2 header_of stack_of every tabulate
mark_256 = refl

-- a mark of 2 before a last gap of 1: all gaps are checked before any mark
mark_and_gap : check_of Apart (front_2 ++ (5 ∷ 0 ∷ 6 ∷ 0 ∷ 0 ∷ 0 ∷ 2 ∷ 0 ∷ 7 ∷ 0 ∷ 1 ∷ 0 ∷ 1 ∷ 0 ∷ 0 ∷ 0 ∷ [])) ≡ refusal 6
unfolding front_2 header_of stack_of every tabulate
mark_and_gap = refl

none_2 : check_of Apart (83 ∷ 84 ∷ 75 ∷ 2 ∷ 0 ∷ 0 ∷ 0 ∷ []) ≡ refusal 4
unfolding header_of stack_of every tabulate
none_2 = refl

-- six bytes a component in version 2, and eight in version 1
six_2 : check_of Apart (front_2 ++ (5 ∷ 0 ∷ 6 ∷ 0 ∷ 0 ∷ 0 ∷ 7 ∷ 0 ∷ 1 ∷ 0 ∷ 0 ∷ 0 ∷ [])) ≡ refusal 3
unfolding front_2 header_of
six_2 = refl

eight_1 : check_of Apart (front ++ (5 ∷ 0 ∷ 6 ∷ 0 ∷ 0 ∷ 0 ∷ 0 ∷ 0 ∷ 7 ∷ 0 ∷ 1 ∷ 0 ∷ 0 ∷ 0 ∷ 0 ∷ 0 ∷ [])) ≡ refusal 3
unfolding front header_of
eight_1 = refl

-- Four lists of two entries, into which two components are read, and a marks list that is too short, for version 1 too
lists_read : read_into (read_all marked (9 ∷ 9 ∷ []) (9 ∷ 9 ∷ []) (9 ∷ 9 ∷ []) (9 ∷ 9 ∷ 9 ∷ [])) (λ c. c.mark) (9 ∷ 9 ∷ 9 ∷ []) ≡ 1 ∷ 0 ∷ 9 ∷ []
unfolding marked front_2 header_of stack_of every tabulate
lists_read = refl

version_1_marks : read_into (read_all good (9 ∷ 9 ∷ []) (9 ∷ 9 ∷ []) (9 ∷ 9 ∷ []) (9 ∷ 9 ∷ 9 ∷ [])) (λ c. c.mark) (9 ∷ 9 ∷ 9 ∷ []) ≡ 0 ∷ 0 ∷ 9 ∷ []
unfolding good front header_of stack_of every tabulate
version_1_marks = refl

short_marks : read_all good (9 ∷ 9 ∷ []) (9 ∷ 9 ∷ []) (9 ∷ 9 ∷ []) (9 ∷ []) ≡ refusal 8
unfolding good front header_of stack_of every tabulate
short_marks = refl

short_heights : read_all marked (9 ∷ []) (9 ∷ 9 ∷ []) (9 ∷ 9 ∷ []) (9 ∷ 9 ∷ []) ≡ refusal 8
unfolding marked front_2 header_of stack_of every tabulate
short_heights = refl
