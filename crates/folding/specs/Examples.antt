-- Worked examples, by computation: a folding behind each known outline of document 01's stacks A to F, and for each rule a
-- folding that breaks it.
use Rattle.std.specs.Prelude.{ℕ, ◌≡◌, refl, List, [], ◌∷◌, ◌++◌, true, false}
use Rattle.terms.specs.declared.Component.{Component}
use Rattle.terms.specs.declared.Kind.{Kind}
use Rattle.terms.specs.declared.Kind.TheVariants.{Apart, Nested}
use Rattle.folding.specs.declared.Placement.{Placement}
use Rattle.folding.specs.Placement.{placed_of}
use Rattle.terms.specs.Answer.{refusal, result}
use Rattle.terms.specs.Component.{every, stack_of, tabulate}
use Rattle.stack.specs.File.{header_of}
use Rattle.folding.specs.Calls.{measure_in, choose_of}
use Rattle.folding.specs.Legal.{Legal, each, each_pair, legal}
use Rattle.folding.specs.Outline.{groups_of, top_of, row_sum, greatest, last_gap, folded, fold_gap, layout_width, layout_height, outline_of}

abbrev pub c : ℕ → ℕ → ℕ → Component
c h w g = record { height = record { 0 = h }; width = record { 0 = w }; gap = record { 0 = g }; mark = 0 }

-- With mark 1: a fold after it is barred.
abbrev pub b : ℕ → ℕ → ℕ → Component
b h w g = record { height = record { 0 = h }; width = record { 0 = w }; gap = record { 0 = g }; mark = 1 }

abbrev pub p : ℕ → ℕ → ℕ → Placement
p group side start = record { group = group; side = side; start = start }

-- A legal folding of the stack with this width and height.
pub record Folds (kind : Kind) (cs : List Component) (ps : List Placement) (width height : ℕ) : Type 0 where
  pub is_legal : Legal kind cs ps
  pub has : outline_of cs ps ≡ record { width = record { 0 = width }; height = record { 0 = height } }

abbrev pub stack_A : List Component
stack_A = c 3 2 0 ∷ []

abbrev pub stack_B : List Component
stack_B = c 3 1 0 ∷ c 1 1 0 ∷ c 2 1 0 ∷ c 4 1 0 ∷ []

abbrev stack_C : List Component
stack_C = c 1 1 5 ∷ c 1 1 0 ∷ []

abbrev stack_D : List Component
stack_D = c 5 9 0 ∷ c 1 1 0 ∷ c 5 9 0 ∷ c 1 1 0 ∷ c 4 9 0 ∷ c 1 1 0 ∷ []

abbrev pub stack_E : List Component
stack_E = c 1 3 0 ∷ c 1 1 0 ∷ c 1 1 0 ∷ c 1 3 0 ∷ []

abbrev stack_F : List Component
stack_F = c 2 5 0 ∷ c 1 4 0 ∷ c 1 1 0 ∷ c 1 4 0 ∷ c 1 1 0 ∷ []

pub A_apart_2_3 : Folds Apart stack_A (p 0 0 0 ∷ []) 2 3
unfolding placed_of legal each each_pair groups_of top_of row_sum greatest last_gap folded fold_gap layout_width layout_height
A_apart_2_3 = record { is_legal = record { whole = refl; rules = refl }; has = refl }

A_nested_2_3 : Folds Nested stack_A (p 0 0 0 ∷ []) 2 3
unfolding placed_of legal each each_pair groups_of top_of row_sum greatest last_gap folded fold_gap layout_width layout_height
A_nested_2_3 = record { is_legal = record { whole = refl; rules = refl }; has = refl }

pub B_apart_1_10 : Folds Apart stack_B (p 0 0 7 ∷ p 0 0 6 ∷ p 0 0 4 ∷ p 0 0 0 ∷ []) 1 10
unfolding placed_of legal each each_pair groups_of top_of row_sum greatest last_gap folded fold_gap layout_width layout_height
B_apart_1_10 = record { is_legal = record { whole = refl; rules = refl }; has = refl }

B_apart_2_6 : Folds Apart stack_B (p 0 0 1 ∷ p 0 0 0 ∷ p 1 0 4 ∷ p 1 0 0 ∷ []) 2 6
unfolding placed_of legal each each_pair groups_of top_of row_sum greatest last_gap folded fold_gap layout_width layout_height
B_apart_2_6 = record { is_legal = record { whole = refl; rules = refl }; has = refl }

pub B_apart_3_4 : Folds Apart stack_B (p 0 0 0 ∷ p 1 0 2 ∷ p 1 0 0 ∷ p 2 0 0 ∷ []) 3 4
unfolding placed_of legal each each_pair groups_of top_of row_sum greatest last_gap folded fold_gap layout_width layout_height
B_apart_3_4 = record { is_legal = record { whole = refl; rules = refl }; has = refl }

C_apart_1_2 : Folds Apart stack_C (p 0 0 1 ∷ p 0 0 0 ∷ []) 1 2
unfolding placed_of legal each each_pair groups_of top_of row_sum greatest last_gap folded fold_gap layout_width layout_height
C_apart_1_2 = record { is_legal = record { whole = refl; rules = refl }; has = refl }

C_nested_1_2 : Folds Nested stack_C (p 0 0 1 ∷ p 0 0 0 ∷ []) 1 2
unfolding placed_of legal each each_pair groups_of top_of row_sum greatest last_gap folded fold_gap layout_width layout_height
C_nested_1_2 = record { is_legal = record { whole = refl; rules = refl }; has = refl }

D_nested_10_14 : Folds Nested stack_D (p 0 0 9 ∷ p 0 0 5 ∷ p 0 0 0 ∷ p 0 1 0 ∷ p 0 1 5 ∷ p 0 1 9 ∷ []) 10 14
unfolding placed_of legal each each_pair groups_of top_of row_sum greatest last_gap folded fold_gap layout_width layout_height
D_nested_10_14 = record { is_legal = record { whole = refl; rules = refl }; has = refl }

pub E_apart_3_4 : Folds Apart stack_E (p 0 0 3 ∷ p 0 0 2 ∷ p 0 0 1 ∷ p 0 0 0 ∷ []) 3 4
unfolding placed_of legal each each_pair groups_of top_of row_sum greatest last_gap folded fold_gap layout_width layout_height
E_apart_3_4 = record { is_legal = record { whole = refl; rules = refl }; has = refl }

E_apart_6_2 : Folds Apart stack_E (p 0 0 1 ∷ p 0 0 0 ∷ p 1 0 1 ∷ p 1 0 0 ∷ []) 6 2
unfolding placed_of legal each each_pair groups_of top_of row_sum greatest last_gap folded fold_gap layout_width layout_height
E_apart_6_2 = record { is_legal = record { whole = refl; rules = refl }; has = refl }

E_apart_8_1 : Folds Apart stack_E (p 0 0 0 ∷ p 1 0 0 ∷ p 2 0 0 ∷ p 3 0 0 ∷ []) 8 1
unfolding placed_of legal each each_pair groups_of top_of row_sum greatest last_gap folded fold_gap layout_width layout_height
E_apart_8_1 = record { is_legal = record { whole = refl; rules = refl }; has = refl }

E_nested_3_3 : Folds Nested stack_E (p 0 0 1 ∷ p 0 0 0 ∷ p 0 1 0 ∷ p 0 1 2 ∷ []) 3 3
unfolding placed_of legal each each_pair groups_of top_of row_sum greatest last_gap folded fold_gap layout_width layout_height
E_nested_3_3 = record { is_legal = record { whole = refl; rules = refl }; has = refl }

E_nested_6_2 : Folds Nested stack_E (p 0 0 1 ∷ p 0 0 0 ∷ p 0 1 0 ∷ p 0 1 1 ∷ []) 6 2
unfolding placed_of legal each each_pair groups_of top_of row_sum greatest last_gap folded fold_gap layout_width layout_height
E_nested_6_2 = record { is_legal = record { whole = refl; rules = refl }; has = refl }

E_nested_8_1 : Folds Nested stack_E (p 0 0 0 ∷ p 0 1 0 ∷ p 1 0 0 ∷ p 1 1 0 ∷ []) 8 1
unfolding placed_of legal each each_pair groups_of top_of row_sum greatest last_gap folded fold_gap layout_width layout_height
E_nested_8_1 = record { is_legal = record { whole = refl; rules = refl }; has = refl }

F_nested_13_2 : Folds Nested stack_F (p 0 0 0 ∷ p 0 1 0 ∷ p 1 0 1 ∷ p 1 0 0 ∷ p 1 1 1 ∷ []) 13 2
unfolding placed_of legal each each_pair groups_of top_of row_sum greatest last_gap folded fold_gap layout_width layout_height
F_nested_13_2 = record { is_legal = record { whole = refl; rules = refl }; has = refl }

-- side 2 is out of range
side_two : legal Nested (placed_of stack_C (p 0 0 1 ∷ p 0 2 0 ∷ [])) ≡ false
unfolding placed_of legal each each_pair
side_two = refl

-- start row 1,024,001 is out of range
start_high : legal Apart (placed_of stack_A (p 0 0 1024001 ∷ [])) ≡ false
unfolding placed_of legal each each_pair
start_high = refl

-- start row 1,024,000 is in range
start_highest : legal Apart (placed_of stack_A (p 0 0 1024000 ∷ [])) ≡ true
unfolding placed_of legal each each_pair
start_highest = refl

-- the first group is 0
first_group : legal Apart (placed_of stack_A (p 1 0 0 ∷ [])) ≡ false
unfolding placed_of legal each each_pair
first_group = refl

-- group 1 comes after group 0
group_skipped : legal Apart (placed_of stack_C (p 0 0 0 ∷ p 2 0 0 ∷ [])) ≡ false
unfolding placed_of legal each each_pair
group_skipped = refl

-- a group is one run
group_again : legal Apart (placed_of stack_B (p 0 0 0 ∷ p 1 0 0 ∷ p 0 0 0 ∷ p 1 0 0 ∷ [])) ≡ false
unfolding placed_of legal each each_pair
group_again = refl

-- a group has a component on the left
first_right : legal Nested (placed_of stack_A (p 0 1 0 ∷ [])) ≡ false
unfolding placed_of legal each each_pair
first_right = refl

-- each group begins on the left
second_group_right : legal Nested (placed_of stack_B (p 0 0 0 ∷ p 0 1 0 ∷ p 1 1 0 ∷ p 1 1 2 ∷ [])) ≡ false
unfolding placed_of legal each each_pair
second_group_right = refl

-- in a group no left component follows a right one
left_after_right : legal Nested (placed_of stack_B (p 0 0 0 ∷ p 0 1 0 ∷ p 0 0 0 ∷ p 0 1 0 ∷ [])) ≡ false
unfolding placed_of legal each each_pair
left_after_right = refl

-- a left component starts at or above the end of the one after it
left_overlap : legal Apart (placed_of stack_B (p 0 0 6 ∷ p 0 0 6 ∷ p 0 0 4 ∷ p 0 0 0 ∷ [])) ≡ false
unfolding placed_of legal each each_pair
left_overlap = refl

-- empty rows are allowed, also under the first
left_gap : legal Apart (placed_of stack_B (p 0 0 90 ∷ p 0 0 60 ∷ p 0 0 40 ∷ p 0 0 10 ∷ [])) ≡ true
unfolding placed_of legal each each_pair
left_gap = refl

-- a right component starts at or above the end of the one before it
right_overlap : legal Nested (placed_of stack_B (p 0 0 0 ∷ p 0 1 0 ∷ p 0 1 1 ∷ p 0 1 2 ∷ [])) ≡ false
unfolding placed_of legal each each_pair
right_overlap = refl

-- empty rows on the right
right_gap : legal Nested (placed_of stack_B (p 0 0 0 ∷ p 0 1 5 ∷ p 0 1 6 ∷ p 0 1 100 ∷ [])) ≡ true
unfolding placed_of legal each each_pair
right_gap = refl

-- an apart folding has no right side
apart_right : legal Apart (placed_of stack_C (p 0 0 0 ∷ p 0 1 0 ∷ [])) ≡ false
unfolding placed_of legal each each_pair
apart_right = refl

-- a nested folding may have one
nested_right : legal Nested (placed_of stack_C (p 0 0 0 ∷ p 0 1 0 ∷ [])) ≡ true
unfolding placed_of legal each each_pair
nested_right = refl

-- Ticket 3: B and E with their second component barred.
abbrev barred_B : List Component
barred_B = c 3 1 0 ∷ b 1 1 0 ∷ c 2 1 0 ∷ c 4 1 0 ∷ []

abbrev barred_E : List Component
barred_E = c 1 3 0 ∷ b 1 1 0 ∷ c 1 1 0 ∷ c 1 3 0 ∷ []

-- The folding of B_apart_2_6 has the barred component and its successor in two groups.
two_groups : legal Apart (placed_of barred_B (p 0 0 1 ∷ p 0 0 0 ∷ p 1 0 4 ∷ p 1 0 0 ∷ [])) ≡ false
unfolding placed_of legal each each_pair
two_groups = refl

-- That of E_nested_3_3 has them on the two sides of one.
two_sides : legal Nested (placed_of barred_E (p 0 0 1 ∷ p 0 0 0 ∷ p 0 1 0 ∷ p 0 1 2 ∷ [])) ≡ false
unfolding placed_of legal each each_pair
two_sides = refl

-- Measuring refuses these two as broken.
two_groups_refused : measure_in Apart barred_B (0 ∷ 0 ∷ 1 ∷ 0 ∷ 0 ∷ 0 ∷ 1 ∷ 0 ∷ 4 ∷ 1 ∷ 0 ∷ 0 ∷ []) ≡ refusal 10
unfolding measure_in tabulate placed_of legal each each_pair
two_groups_refused = refl

two_sides_refused : measure_in Nested barred_E (0 ∷ 0 ∷ 1 ∷ 0 ∷ 0 ∷ 0 ∷ 0 ∷ 1 ∷ 0 ∷ 0 ∷ 1 ∷ 2 ∷ []) ≡ refusal 10
unfolding measure_in tabulate placed_of legal each each_pair
two_sides_refused = refl

-- Behind a first group with a fold they are on the two sides of a later group.
two_sides_later : legal Nested (placed_of (c 1 1 0 ∷ barred_E) (p 0 0 0 ∷ p 0 1 0 ∷ p 1 0 0 ∷ p 1 1 0 ∷ p 1 1 1 ∷ [])) ≡ false
unfolding placed_of legal each each_pair
two_sides_later = refl

-- Empty rows between the two are allowed, on the left and on the right.
barred_left_gap : legal Apart (placed_of barred_B (p 0 0 90 ∷ p 0 0 60 ∷ p 0 0 40 ∷ p 0 0 10 ∷ [])) ≡ true
unfolding placed_of legal each each_pair
barred_left_gap = refl

barred_right_gap : legal Nested (placed_of barred_B (p 0 0 0 ∷ p 0 1 5 ∷ p 0 1 60 ∷ p 0 1 100 ∷ [])) ≡ true
unfolding placed_of legal each each_pair
barred_right_gap = refl

-- What B apart and E nested come to: a fold or a group's end may still stand before the two and behind them.
barred_B_apart_1_10 : Folds Apart barred_B (p 0 0 7 ∷ p 0 0 6 ∷ p 0 0 4 ∷ p 0 0 0 ∷ []) 1 10
unfolding placed_of legal each each_pair groups_of top_of row_sum greatest last_gap folded fold_gap layout_width layout_height
barred_B_apart_1_10 = record { is_legal = record { whole = refl; rules = refl }; has = refl }

barred_B_apart_2_6 : Folds Apart barred_B (p 0 0 3 ∷ p 0 0 2 ∷ p 0 0 0 ∷ p 1 0 0 ∷ []) 2 6
unfolding placed_of legal each each_pair groups_of top_of row_sum greatest last_gap folded fold_gap layout_width layout_height
barred_B_apart_2_6 = record { is_legal = record { whole = refl; rules = refl }; has = refl }

barred_B_apart_3_4 : Folds Apart barred_B (p 0 0 0 ∷ p 1 0 2 ∷ p 1 0 0 ∷ p 2 0 0 ∷ []) 3 4
unfolding placed_of legal each each_pair groups_of top_of row_sum greatest last_gap folded fold_gap layout_width layout_height
barred_B_apart_3_4 = record { is_legal = record { whole = refl; rules = refl }; has = refl }

barred_E_nested_3_4 : Folds Nested barred_E (p 0 0 3 ∷ p 0 0 2 ∷ p 0 0 1 ∷ p 0 0 0 ∷ []) 3 4
unfolding placed_of legal each each_pair groups_of top_of row_sum greatest last_gap folded fold_gap layout_width layout_height
barred_E_nested_3_4 = record { is_legal = record { whole = refl; rules = refl }; has = refl }

barred_E_nested_4_3 : Folds Nested barred_E (p 0 0 0 ∷ p 0 1 0 ∷ p 0 1 1 ∷ p 0 1 2 ∷ []) 4 3
unfolding placed_of legal each each_pair groups_of top_of row_sum greatest last_gap folded fold_gap layout_width layout_height
barred_E_nested_4_3 = record { is_legal = record { whole = refl; rules = refl }; has = refl }

barred_E_nested_7_2 : Folds Nested barred_E (p 0 0 0 ∷ p 0 1 0 ∷ p 0 1 1 ∷ p 1 0 0 ∷ []) 7 2
unfolding placed_of legal each each_pair groups_of top_of row_sum greatest last_gap folded fold_gap layout_width layout_height
barred_E_nested_7_2 = record { is_legal = record { whole = refl; rules = refl }; has = refl }

-- A gap behind a barred component counts for nothing, on the left and on the right.
barred_gap_left : Folds Apart (b 1 1 5 ∷ c 1 1 0 ∷ []) (p 0 0 1 ∷ p 0 0 0 ∷ []) 1 2
unfolding placed_of legal each each_pair groups_of top_of row_sum greatest last_gap folded fold_gap layout_width layout_height
barred_gap_left = record { is_legal = record { whole = refl; rules = refl }; has = refl }

barred_gap_right : Folds Nested (c 1 1 0 ∷ b 1 1 5 ∷ c 1 1 0 ∷ []) (p 0 0 0 ∷ p 0 1 0 ∷ p 0 1 1 ∷ []) 2 2
unfolding placed_of legal each each_pair groups_of top_of row_sum greatest last_gap folded fold_gap layout_width layout_height
barred_gap_right = record { is_legal = record { whole = refl; rules = refl }; has = refl }

-- Ticket 5: the folding of F with 10 slices in 2 rows has a first group without a right side.
flat_first : legal Nested (placed_of stack_F (p 0 0 0 ∷ p 1 0 1 ∷ p 1 0 0 ∷ p 1 1 0 ∷ p 1 1 1 ∷ [])) ≡ false
unfolding placed_of legal each each_pair
flat_first = refl

-- Such a group between two that have a right side.
flat_between : legal Nested (placed_of stack_F (p 0 0 0 ∷ p 0 1 0 ∷ p 1 0 0 ∷ p 2 0 0 ∷ p 2 1 0 ∷ [])) ≡ false
unfolding placed_of legal each each_pair
flat_between = refl

-- As the last group, behind one that has a right side, and as the only one (C_nested_1_2).
flat_last : legal Nested (placed_of stack_F (p 0 0 0 ∷ p 0 1 0 ∷ p 1 0 2 ∷ p 1 0 1 ∷ p 1 0 0 ∷ [])) ≡ true
unfolding placed_of legal each each_pair
flat_last = refl

-- The rule is one of nested foldings: two groups of an apart folding, measured as apart and as nested.
two_apart : measure_in Apart stack_C (0 ∷ 0 ∷ 0 ∷ 1 ∷ 0 ∷ 0 ∷ []) ≡ result (record { width = record { 0 = 2 }; height = record { 0 = 6 } })
unfolding measure_in tabulate placed_of legal each each_pair groups_of top_of row_sum greatest last_gap folded fold_gap layout_width layout_height
two_apart = refl

two_apart_nested : measure_in Nested stack_C (0 ∷ 0 ∷ 0 ∷ 1 ∷ 0 ∷ 0 ∷ []) ≡ refusal 10
unfolding measure_in tabulate placed_of legal each each_pair
two_apart_nested = refl

-- Without a fold both gaps add: the one before a later group too. Group 1 is 1 + 4 + 6 rows high.
gap_before_and_behind : Folds Apart (c 1 1 4 ∷ c 1 1 6 ∷ c 1 1 0 ∷ []) (p 0 0 0 ∷ p 1 0 0 ∷ p 2 0 0 ∷ []) 3 11
unfolding placed_of legal each each_pair groups_of top_of row_sum greatest last_gap folded fold_gap layout_width layout_height
gap_before_and_behind = record { is_legal = record { whole = refl; rules = refl }; has = refl }

-- With a fold the larger of the two gaps counts, here the one before the group: it is 3 + 7 + 2 rows high, with 2 the gap
-- at its fold.
larger_gap_before : Folds Nested (c 1 1 0 ∷ c 2 1 7 ∷ c 3 1 2 ∷ c 1 1 5 ∷ c 1 1 0 ∷ []) (p 0 0 0 ∷ p 0 1 0 ∷ p 1 0 0 ∷ p 1 1 0 ∷ p 2 0 0 ∷ []) 5 12
unfolding placed_of legal each each_pair groups_of top_of row_sum greatest last_gap folded fold_gap layout_width layout_height
larger_gap_before = record { is_legal = record { whole = refl; rules = refl }; has = refl }

-- And here the one behind it.
larger_gap_behind : Folds Nested (c 1 1 0 ∷ c 2 1 5 ∷ c 3 1 2 ∷ c 1 1 7 ∷ c 1 1 0 ∷ []) (p 0 0 0 ∷ p 0 1 0 ∷ p 1 0 0 ∷ p 1 1 0 ∷ p 2 0 0 ∷ []) 5 12
unfolding placed_of legal each each_pair groups_of top_of row_sum greatest last_gap folded fold_gap layout_width layout_height
larger_gap_behind = record { is_legal = record { whole = refl; rules = refl }; has = refl }

-- The gap at the fold is that of the last component on the left: group 0 is 5 + 2 + 5 rows high.
gap_at_fold : Folds Nested (c 2 1 3 ∷ c 1 1 5 ∷ c 4 1 7 ∷ c 1 1 2 ∷ c 1 1 0 ∷ []) (p 0 0 1 ∷ p 0 0 0 ∷ p 0 1 0 ∷ p 0 1 4 ∷ p 1 0 0 ∷ []) 3 12
unfolding placed_of legal each each_pair groups_of top_of row_sum greatest last_gap folded fold_gap layout_width layout_height
gap_at_fold = record { is_legal = record { whole = refl; rules = refl }; has = refl }

-- Rows count from row 0, also where nothing stands in the first ones.
empty_below : Folds Apart stack_A (p 0 0 5 ∷ []) 2 8
unfolding placed_of legal each each_pair groups_of top_of row_sum greatest last_gap folded fold_gap layout_width layout_height
empty_below = record { is_legal = record { whole = refl; rules = refl }; has = refl }

-- Fewer placements than components, before the one that is there is found broken.
short_and_broken : measure_in Apart stack_C (5 ∷ 0 ∷ 0 ∷ []) ≡ refusal 8
unfolding measure_in
short_and_broken = refl

-- Two foldings with the same outline, of the stack 1/1, 2/1: choosing hands back the first, whichever it is.
tied : List ℕ
tied = 83 ∷ 84 ∷ 75 ∷ 1 ∷ 0 ∷ 2 ∷ 0 ∷ 1 ∷ 0 ∷ 1 ∷ 0 ∷ 0 ∷ 0 ∷ 2 ∷ 0 ∷ 1 ∷ 0 ∷ 0 ∷ 0 ∷ []

low : List ℕ
low = 0 ∷ 0 ∷ 0 ∷ 0 ∷ 1 ∷ 0 ∷ []

high : List ℕ
high = 0 ∷ 0 ∷ 1 ∷ 0 ∷ 1 ∷ 0 ∷ []

tie_low : choose_of Nested tied low high ≡ low
unfolding tied low high header_of stack_of every tabulate measure_in placed_of legal each each_pair groups_of top_of row_sum greatest last_gap folded fold_gap layout_width layout_height
tie_low = refl

tie_high : choose_of Nested tied high low ≡ high
unfolding tied low high header_of stack_of every tabulate measure_in placed_of legal each each_pair groups_of top_of row_sum greatest last_gap folded fold_gap layout_width layout_height
tie_high = refl

-- A narrower one wins, and then a lower one.
narrower_wins : choose_of Nested tied low (0 ∷ 0 ∷ 2 ∷ 0 ∷ 1 ∷ 0 ∷ []) ≡ 0 ∷ 0 ∷ 2 ∷ 0 ∷ 1 ∷ 0 ∷ []
unfolding tied low header_of stack_of every tabulate measure_in placed_of legal each each_pair groups_of top_of row_sum greatest last_gap folded fold_gap layout_width layout_height
narrower_wins = refl

lower_wins : choose_of Nested tied (0 ∷ 0 ∷ 0 ∷ 0 ∷ 1 ∷ 2 ∷ []) (0 ∷ 0 ∷ 0 ∷ 0 ∷ 1 ∷ 1 ∷ []) ≡ 0 ∷ 0 ∷ 0 ∷ 0 ∷ 1 ∷ 1 ∷ []
unfolding tied header_of stack_of every tabulate measure_in placed_of legal each each_pair groups_of top_of row_sum greatest last_gap folded fold_gap layout_width layout_height
lower_wins = refl

-- The part has the winner's placements and no number past them.
winner_cut : choose_of Nested tied (low ++ (9 ∷ [])) high ≡ low
unfolding tied low high header_of stack_of every tabulate measure_in placed_of legal each each_pair groups_of top_of row_sum greatest last_gap folded fold_gap layout_width layout_height
winner_cut = refl

-- Where measuring would refuse one of the two, or the file, the part is empty.
second_short : choose_of Nested tied low [] ≡ []
unfolding tied low header_of stack_of every tabulate measure_in placed_of legal each each_pair groups_of top_of row_sum greatest last_gap folded fold_gap layout_width layout_height
second_short = refl

first_short : choose_of Nested tied [] low ≡ []
unfolding tied low header_of stack_of every tabulate measure_in placed_of legal each each_pair groups_of top_of row_sum greatest last_gap folded fold_gap layout_width layout_height
first_short = refl

second_broken : choose_of Nested tied low (1 ∷ 0 ∷ 0 ∷ 1 ∷ 0 ∷ 2 ∷ []) ≡ []
unfolding tied low header_of stack_of every tabulate measure_in placed_of legal each each_pair groups_of top_of row_sum greatest last_gap folded fold_gap layout_width layout_height
second_broken = refl

file_refused : choose_of Nested [] low high ≡ []
unfolding header_of
file_refused = refl
