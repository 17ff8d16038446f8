-- The known stacks (document 01, "Known stacks"; tickets 1, 3 and 5): one list of lines, each a claim about all legal foldings
-- of its stack and kind or about a refusal, and about what the calls answer.
use Rattle.std.specs.Prelude.{ℕ, zero, suc, ◌*◌, ◌≤◌, ◌≡◌, List, [], ◌∷◌, length, drop}
use Rattle.terms.specs.declared.Component.{Component}
use Rattle.terms.specs.declared.Kind.{Kind}
use Rattle.terms.specs.declared.Kind.TheVariants.{Apart, Nested}
use Rattle.terms.specs.Answer.{Answer, refusal, result}
use Rattle.terms.specs.Component.{most_of, stack_of, count_of, width_sum}
use Rattle.stack.specs.File.{header_of, components_of, check_of}
use Rattle.stack.specs.Calls.{read_of}
use Rattle.folding.specs.declared.Placement.{Placement}
use Rattle.folding.specs.declared.Outline.{Outline}
use Rattle.folding.specs.Calls.{measure_of, choose_of}
use Rattle.folding.specs.Best.{BestForHeight, BestForWidth, UnmeetableHeight, UnmeetableWidth, SmallestArea, Listing}
use Rattle.fold.specs.Calls.{work_check, room_checks, fold_checks, valid_of, ToHeight, ToWidth}
use Rattle.fold_area.specs.Calls.{area_valid_of, SmallestOf}
use Rattle.fold_table.specs.Calls.{table_valid_of, table_answer, table_into, TableOf}

-- `header`: the refusal of a file by its first seven bytes and its length. `size`: those of a list of components. `lent`: those
-- of a fold call's limit, placement buffer and work buffer, for one component; `area_room`: those of the smallest area, which
-- has no limit. `table_work`: that of the table's work buffer. `table_room`: that of its pairs, for a table of these outlines.
pub data Line : Type 0 where
  to_height : Kind → List Component → ℕ → Answer Outline → Line
  to_width : Kind → List Component → ℕ → Answer Outline → Line
  smallest_area : Kind → List Component → Outline → Line
  table : Kind → List Component → List Outline → Line
  header : List ℕ → ℕ → Line
  size : Kind → List Component → Answer ℕ → Line
  lent : ℕ → ℕ → ℕ → Answer ℕ → Line
  area_room : ℕ → ℕ → Answer ℕ → Line
  table_work : ℕ → Answer ℕ → Line
  table_room : ℕ → List Outline → Answer ℕ → Line

-- "refused with 9", or the best folding's outline; the table; the refusals.
abbrev pub Holds : Line → Type 0
Holds (to_height kind cs limit (refusal k)) = (k ≡ 9) × UnmeetableHeight kind cs limit
Holds (to_height kind cs limit (result o)) = (ps : List Placement) × BestForHeight kind cs limit ps o
Holds (to_width kind cs limit (refusal k)) = (k ≡ 9) × UnmeetableWidth kind cs limit
Holds (to_width kind cs limit (result o)) = (ps : List Placement) × BestForWidth kind cs limit ps o
Holds (smallest_area kind cs o) = (ps : List Placement) × SmallestArea kind cs ps o
Holds (table kind cs os) = Listing kind cs os
Holds (header file k) = header_of file ≡ refusal k
Holds (size kind cs a) = count_of (stack_of (most_of kind) cs) ≡ a
Holds (lent limit out work a) = fold_checks limit out work 1 1 ≡ a
Holds (area_room out work a) = room_checks out work 1 1 ≡ a
Holds (table_work n a) = work_check n 1 ≡ a
Holds (table_room n os a) = table_answer n os ≡ a

-- What a fold call leaves in the placements' buffer, for n components: after a result a folding that measures to it, and all
-- beyond as it was; after a refusal all as it was.
abbrev pub Leaves : Kind → List ℕ → ℕ → List ℕ → List ℕ → Answer Outline → Type 0
Leaves kind file n out out' (refusal k) = out' ≡ out
Leaves kind file n out out' (result o) = (measure_of kind file out' ≡ result o) × (drop (3 * n) out' ≡ drop (3 * n) out)

-- The file's bytes hold these components, whether or not they are a stack.
abbrev pub Has : List Component → List ℕ → Type 0
Has cs file = (header_of file ≡ result (length cs)) × (components_of file (length cs) ≡ cs)

-- The fold calls, the smallest area and the table refuse with k, and leave all that was lent as it was.
abbrev pub FoldsRefuse : Kind → List ℕ → ℕ → List ℕ → List ℕ → ℕ → Type 0
FoldsRefuse kind file limit out work k = (out' work' : List ℕ) (answer : Answer Outline)
    → (ToHeight kind file limit out work answer out' work' → (answer ≡ refusal k) × (out' ≡ out) × (work' ≡ work))
    × (ToWidth kind file limit out work answer out' work' → (answer ≡ refusal k) × (out' ≡ out) × (work' ≡ work))

abbrev pub AreaRefuses : Kind → List ℕ → List ℕ → List ℕ → ℕ → Type 0
AreaRefuses kind file out work k = (out' work' : List ℕ) (answer : Answer Outline)
    → SmallestOf kind file out work answer out' work' → (answer ≡ refusal k) × (out' ≡ out) × (work' ≡ work)

abbrev pub TableRefuses : Kind → List ℕ → List ℕ → List ℕ → ℕ → Type 0
TableRefuses kind file out work k = (out' work' : List ℕ) (answer : Answer ℕ)
    → TableOf kind file out work answer out' work' → (answer ≡ refusal k) × (out' ≡ out) × (work' ≡ work)

-- Every call that takes the file and the kind refuses it with k, whatever the limit, the foldings and the lent buffers: the
-- refusals of a file come first.
pub record Refuses (kind : Kind) (file : List ℕ) (k : ℕ) : Type 0 where
  pub checking : check_of kind file ≡ refusal k
  pub reading : (shortest : ℕ) → read_of kind file shortest ≡ refusal k
  pub measuring : (flat : List ℕ) → measure_of kind file flat ≡ refusal k
  pub choosing : (first second : List ℕ) → choose_of kind file first second ≡ []
  pub folding : (limit : ℕ) (out work : List ℕ) → FoldsRefuse kind file limit out work k
  pub smallest : (out work : List ℕ) → AreaRefuses kind file out work k
  pub listing : (out work : List ℕ) → TableRefuses kind file out work k

-- What the calls answer, and what they leave in the lent buffers, for every file that reads to the stack and whatever the
-- buffers hold: no other answer keeps their promise.
abbrev pub Answers : Line → Type 0
Answers (to_height kind cs limit a) = (file out work out' work' : List ℕ) (answer : Answer Outline)
    → valid_of kind file limit out work ≡ result cs → ToHeight kind file limit out work answer out' work'
    → (answer ≡ a) × Leaves kind file (length cs) out out' a
Answers (to_width kind cs limit a) = (file out work out' work' : List ℕ) (answer : Answer Outline)
    → valid_of kind file limit out work ≡ result cs → ToWidth kind file limit out work answer out' work'
    → (answer ≡ a) × Leaves kind file (length cs) out out' a
Answers (smallest_area kind cs o) = (file out work out' work' : List ℕ) (answer : Answer Outline)
    → area_valid_of kind file out work ≡ result cs → SmallestOf kind file out work answer out' work'
    → (answer ≡ result o) × Leaves kind file (length cs) out out' (result o)
Answers (table kind cs os) = (file out work out' work' : List ℕ) (answer : Answer ℕ)
    → table_valid_of kind file work ≡ result cs → TableOf kind file out work answer out' work'
    → (answer ≡ table_answer (length out) os) × (out' ≡ table_into os out)
    × (2 * width_sum cs ≤ length out → answer ≡ result (length os))
Answers (header file k) = (kind : Kind) → Refuses kind file k
Answers (size kind cs (refusal k)) = (file : List ℕ) → Has cs file → Refuses kind file k
Answers (size kind cs (result n)) = (file : List ℕ) → Has cs file → check_of kind file ≡ result cs
Answers (lent limit o w (refusal k)) = (kind : Kind) (file out work : List ℕ) (cs : List Component)
    → check_of kind file ≡ result cs → length cs ≡ 1 → length out ≡ o → length work ≡ w
    → FoldsRefuse kind file limit out work k
Answers (lent limit o w (result n)) = (kind : Kind) (file out work : List ℕ) (cs : List Component)
    → check_of kind file ≡ result cs → length cs ≡ 1 → length out ≡ o → length work ≡ w
    → valid_of kind file limit out work ≡ result cs
Answers (area_room o w (refusal k)) = (kind : Kind) (file out work : List ℕ) (cs : List Component)
    → check_of kind file ≡ result cs → length cs ≡ 1 → length out ≡ o → length work ≡ w
    → AreaRefuses kind file out work k
Answers (area_room o w (result n)) = (kind : Kind) (file out work : List ℕ) (cs : List Component)
    → check_of kind file ≡ result cs → length cs ≡ 1 → length out ≡ o → length work ≡ w
    → area_valid_of kind file out work ≡ result cs
Answers (table_work w (refusal k)) = (kind : Kind) (file out work : List ℕ) (cs : List Component)
    → check_of kind file ≡ result cs → length work ≡ w → TableRefuses kind file out work k
Answers (table_work w (result n)) = (kind : Kind) (file work : List ℕ) (cs : List Component)
    → check_of kind file ≡ result cs → length work ≡ w → table_valid_of kind file work ≡ result cs
Answers (table_room n os a) = (kind : Kind) (cs : List Component) (file out work out' work' : List ℕ) (answer : Answer ℕ)
    → Listing kind cs os → table_valid_of kind file work ≡ result cs → length out ≡ n → TableOf kind file out work answer out' work'
    → answer ≡ a

abbrev pub AllHold : List Line → Type 0
AllHold [] = Unit {0}
AllHold (l ∷ ls) = Holds l × Answers l × AllHold ls

-- Components are height/width, with a gap and a mark: 0, and 1 where a fold behind it is barred.
abbrev pub marked : ℕ → ℕ → ℕ → ℕ → Component
marked h w g m = record { height = record { 0 = h }; width = record { 0 = w }; gap = record { 0 = g }; mark = m }

abbrev pub c : ℕ → ℕ → ℕ → Component
c h w g = marked h w g 0

abbrev pub b : ℕ → ℕ → ℕ → Component
b h w g = marked h w g 1

abbrev pub o : ℕ → ℕ → Outline
o w h = record { width = record { 0 = w }; height = record { 0 = h } }

abbrev pub A : List Component
A = c 3 2 0 ∷ []

abbrev pub B : List Component
B = c 3 1 0 ∷ c 1 1 0 ∷ c 2 1 0 ∷ c 4 1 0 ∷ []

abbrev pub C : List Component
C = c 1 1 5 ∷ c 1 1 0 ∷ []

abbrev pub D : List Component
D = c 5 9 0 ∷ c 1 1 0 ∷ c 5 9 0 ∷ c 1 1 0 ∷ c 4 9 0 ∷ c 1 1 0 ∷ []

abbrev pub E : List Component
E = c 1 3 0 ∷ c 1 1 0 ∷ c 1 1 0 ∷ c 1 3 0 ∷ []

abbrev pub F : List Component
F = c 2 5 0 ∷ c 1 4 0 ∷ c 1 1 0 ∷ c 1 4 0 ∷ c 1 1 0 ∷ []

-- B and E with their second component barred, E with all but the last, and F with its third, behind which its folding of 5
-- slices in 4 rows has its fold.
abbrev pub B2 : List Component
B2 = c 3 1 0 ∷ b 1 1 0 ∷ c 2 1 0 ∷ c 4 1 0 ∷ []

abbrev pub E2 : List Component
E2 = c 1 3 0 ∷ b 1 1 0 ∷ c 1 1 0 ∷ c 1 3 0 ∷ []

abbrev pub E123 : List Component
E123 = b 1 3 0 ∷ b 1 1 0 ∷ b 1 1 0 ∷ c 1 3 0 ∷ []

abbrev pub F3 : List Component
F3 = c 2 5 0 ∷ c 1 4 0 ∷ b 1 1 0 ∷ c 1 4 0 ∷ c 1 1 0 ∷ []

-- Ticket 5: with its first component without a right side in front, F would have a folding of 10 slices in 2 rows. FH is F with
-- that component in two halves, which are a group with a fold, so that FH has such a folding; in FH1 they may not be parted.
abbrev pub FH : List Component
FH = c 1 5 0 ∷ c 1 5 0 ∷ c 1 4 0 ∷ c 1 1 0 ∷ c 1 4 0 ∷ c 1 1 0 ∷ []

abbrev pub FH1 : List Component
FH1 = b 1 5 0 ∷ c 1 5 0 ∷ c 1 4 0 ∷ c 1 1 0 ∷ c 1 4 0 ∷ c 1 1 0 ∷ []

-- Apart each is a group of its own in 3 rows. Nested the first group needs a right side, so it has two components at least,
-- and is 4 rows high or more.
abbrev pub G : List Component
G = c 2 1 1 ∷ c 1 1 1 ∷ c 2 1 0 ∷ []

-- n components 1/1 without gaps.
unfoldable pub units : ℕ → List Component
units zero = []
units (suc n) = c 1 1 0 ∷ units n

unfoldable pub lines : List Line
lines =
    to_height Apart A 2 (refusal 9)
    ∷ to_height Nested A 2 (refusal 9)
    ∷ to_height Apart A 3 (result (o 2 3))
    ∷ to_height Nested A 3 (result (o 2 3))
    ∷ to_width Apart A 1 (refusal 9)
    ∷ to_width Nested A 1 (refusal 9)
    ∷ to_height Apart B 5 (result (o 3 4))
    ∷ to_width Apart B 2 (result (o 2 6))
    ∷ table Apart B (o 1 10 ∷ o 2 6 ∷ o 3 4 ∷ [])
    ∷ table Apart C (o 1 2 ∷ [])
    ∷ table Nested C (o 1 2 ∷ [])
    ∷ to_height Apart C 1 (refusal 9)
    ∷ to_height Nested C 1 (refusal 9)
    ∷ to_width Nested D 10 (result (o 10 14))
    ∷ table Nested D (o 9 16 ∷ o 10 14 ∷ o 18 10 ∷ o 19 9 ∷ o 27 6 ∷ o 29 5 ∷ [])
    ∷ table Apart E (o 3 4 ∷ o 6 2 ∷ o 8 1 ∷ [])
    ∷ table Nested E (o 3 3 ∷ o 6 2 ∷ o 8 1 ∷ [])
    ∷ to_height Nested F 2 (result (o 13 2))
    ∷ table Nested F (o 5 4 ∷ o 9 3 ∷ o 13 2 ∷ [])
    ∷ table Apart B2 (o 1 10 ∷ o 2 6 ∷ o 3 4 ∷ [])
    ∷ table Nested B2 (o 1 10 ∷ o 2 6 ∷ o 3 4 ∷ [])
    ∷ table Apart E2 (o 3 4 ∷ o 6 3 ∷ o 7 2 ∷ [])
    ∷ table Nested E2 (o 3 4 ∷ o 4 3 ∷ o 7 2 ∷ [])
    ∷ to_height Nested E2 1 (refusal 9)
    ∷ to_width Nested E2 6 (result (o 4 3))
    ∷ table Apart E123 (o 3 4 ∷ [])
    ∷ table Nested E123 (o 3 4 ∷ [])
    ∷ to_height Nested E123 3 (refusal 9)
    ∷ to_height Nested F3 4 (result (o 6 4))
    ∷ table Nested F3 (o 5 5 ∷ o 6 4 ∷ o 9 3 ∷ o 13 2 ∷ [])
    ∷ to_height Nested FH 2 (result (o 10 2))
    ∷ to_height Nested FH1 2 (result (o 13 2))
    ∷ table Apart G (o 1 5 ∷ o 2 4 ∷ o 3 3 ∷ [])
    ∷ table Nested G (o 1 5 ∷ o 2 4 ∷ [])
    ∷ to_height Nested G 3 (refusal 9)
    ∷ to_height Nested (units 2) 1 (result (o 2 1))
    ∷ to_height Nested (units 3) 1 (result (o 3 1))
    ∷ table Apart (b 4 1 1 ∷ c 4 1 0 ∷ []) (o 1 8 ∷ [])
    ∷ table Nested (b 4 1 1 ∷ c 4 1 0 ∷ []) (o 1 8 ∷ [])
    ∷ smallest_area Apart A (o 2 3)
    ∷ smallest_area Nested A (o 2 3)
    ∷ smallest_area Apart B (o 1 10)
    ∷ smallest_area Nested B (o 1 10)
    ∷ smallest_area Apart C (o 1 2)
    ∷ smallest_area Nested C (o 1 2)
    ∷ smallest_area Apart D (o 29 5)
    ∷ smallest_area Nested D (o 10 14)
    ∷ smallest_area Apart E (o 8 1)
    ∷ smallest_area Nested E (o 8 1)
    ∷ smallest_area Apart F (o 13 2)
    ∷ smallest_area Nested F (o 5 4)
    ∷ smallest_area Nested E2 (o 3 4)
    ∷ smallest_area Nested F3 (o 6 4)
    ∷ smallest_area Nested FH1 (o 5 4)
    ∷ smallest_area Nested G (o 1 5)
    ∷ header [] 1
    ∷ header (83 ∷ 84 ∷ 76 ∷ 3 ∷ 0 ∷ 1 ∷ 0 ∷ []) 1
    ∷ header (83 ∷ 84 ∷ 75 ∷ 0 ∷ 0 ∷ 1 ∷ 0 ∷ []) 2
    ∷ header (83 ∷ 84 ∷ 75 ∷ 3 ∷ 0 ∷ 1 ∷ 0 ∷ []) 2
    ∷ header (83 ∷ 84 ∷ 75 ∷ 2 ∷ 1 ∷ 1 ∷ 0 ∷ []) 2
    ∷ header (83 ∷ 84 ∷ 75 ∷ 1 ∷ 0 ∷ 1 ∷ 0 ∷ []) 3
    ∷ header (83 ∷ 84 ∷ 75 ∷ 1 ∷ 0 ∷ 1 ∷ 0 ∷ 1 ∷ 0 ∷ 1 ∷ 0 ∷ 0 ∷ 0 ∷ 0 ∷ 0 ∷ []) 3
    ∷ header (83 ∷ 84 ∷ 75 ∷ 2 ∷ 0 ∷ 1 ∷ 0 ∷ []) 3
    ∷ header (83 ∷ 84 ∷ 75 ∷ 2 ∷ 0 ∷ 1 ∷ 0 ∷ 1 ∷ 0 ∷ 1 ∷ 0 ∷ 0 ∷ 0 ∷ []) 3
    ∷ size Nested [] (refusal 4)
    ∷ size Nested (units 64) (result 64)
    ∷ size Nested (units 65) (refusal 4)
    ∷ size Apart (units 256) (result 256)
    ∷ size Apart (units 257) (refusal 4)
    ∷ size Nested (c 0 1 0 ∷ units 64) (refusal 4)
    ∷ size Apart (c 4000 4000 0 ∷ []) (result 1)
    ∷ size Apart (c 0 1 0 ∷ []) (refusal 5)
    ∷ size Apart (c 4001 1 0 ∷ []) (refusal 5)
    ∷ size Apart (c 1 0 0 ∷ []) (refusal 5)
    ∷ size Apart (c 1 4001 0 ∷ []) (refusal 5)
    ∷ size Apart (c 1 1 4001 ∷ c 0 1 0 ∷ []) (refusal 5)
    ∷ size Apart (c 1 1 4000 ∷ c 1 1 0 ∷ []) (result 2)
    ∷ size Apart (c 1 1 4001 ∷ c 1 1 0 ∷ []) (refusal 6)
    ∷ size Apart (c 1 1 0 ∷ c 1 1 1 ∷ []) (refusal 6)
    ∷ size Apart (b 1 1 4000 ∷ c 1 1 0 ∷ []) (result 2)
    ∷ size Apart (b 1 1 4001 ∷ c 1 1 0 ∷ []) (refusal 6)
    ∷ size Apart (marked 1 1 0 2 ∷ c 1 1 0 ∷ []) (refusal 11)
    ∷ size Apart (c 1 1 0 ∷ b 1 1 0 ∷ []) (refusal 11)
    ∷ size Nested (b 1 1 0 ∷ []) (refusal 11)
    ∷ size Apart (marked 1 1 0 2 ∷ c 1 1 1 ∷ []) (refusal 6)
    ∷ size Apart (marked 1 1 0 2 ∷ c 0 1 0 ∷ []) (refusal 5)
    ∷ size Nested (marked 1 1 0 2 ∷ units 64) (refusal 4)
    ∷ lent 2000000 3 8192 (result 1)
    ∷ lent 2000001 3 8192 (refusal 7)
    ∷ lent 1 3 8192 (result 1)
    ∷ lent 0 3 8192 (refusal 7)
    ∷ lent 0 2 8191 (refusal 7)
    ∷ lent 1 2 8192 (refusal 8)
    ∷ lent 1 3 8191 (refusal 8)
    ∷ area_room 3 8192 (result 1)
    ∷ area_room 2 8192 (refusal 8)
    ∷ area_room 3 8191 (refusal 8)
    ∷ table_work 8192 (result 1)
    ∷ table_work 8191 (refusal 8)
    ∷ table_room 6 (o 3 4 ∷ o 6 2 ∷ o 8 1 ∷ []) (result 3)
    ∷ table_room 5 (o 3 4 ∷ o 6 2 ∷ o 8 1 ∷ []) (refusal 8)
    ∷ []
