-- What reading and lookup answer, and what the lent buffers hold afterwards.
use Rattle.std.specs.Prelude.{ℕ, ◌+◌, ◌-◌, ◌*◌, min, List, [], ◌++◌, map, ◌≡◌, Option, Some, None, cond, ◌&&◌, length, take, drop, leb, ltb}
use Rattle.std.specs.declared.ops.Range.{Range}
use Rattle.terms.specs.declared.Component.{Component}
use Rattle.terms.specs.declared.Kind.{Kind}
use Rattle.terms.specs.declared.Kind.TheVariants.{Apart}
use Rattle.terms.specs.declared.Piece.{Piece}
use Rattle.terms.specs.Answer.{Answer, refusal, result, refuse_if, and_then}
use Rattle.terms.specs.Component.{count_of}
use Rattle.terms.specs.Pieces.{piece_of}
use Rattle.stack.specs.File.{version_of, bytes_each, check_of}

-- Reading, where the shortest of the lists lent has this length: the file's own refusals, then 8, "a read list under n".
abbrev pub read_of : Kind → List ℕ → ℕ → Answer (List Component)
read_of kind file shortest = and_then (check_of kind file) (λ cs. refuse_if (ltb shortest (length cs)) 8 (result cs))

-- "Only the first n .. list entries .. are written; all beyond stay unchanged"; after a refusal all are.
abbrev pub read_into : {A : Type 0} → Answer (List Component) → (Component → A) → List A → List A
read_into (refusal k) part old = old
read_into (result cs) part old = map part cs ++ drop (length cs) old

-- Reading inside a call: the file's own refusals, or its pieces.
abbrev pub pieces_of : Kind → List ℕ → Answer (List Piece)
pieces_of kind file = and_then (check_of kind file) (λ cs. result (map piece_of cs))

-- The pieces that are held after a refusal, and after the file's pieces were read in place of the old ones.
abbrev pub refilled : Answer (List Piece) → List Piece → List Piece
refilled (refusal k) old = old
refilled (result pieces) old = pieces

-- The length of the shortest of four lists.
abbrev pub least_length : List ℕ → List ℕ → List ℕ → List ℕ → ℕ
least_length heights widths gaps marks = min (min (length heights) (length widths)) (min (length gaps) (length marks))

-- Reading into four lists. Ticket 3: "one too short for its result is 8".
abbrev pub read_all : List ℕ → List ℕ → List ℕ → List ℕ → List ℕ → Answer (List Component)
read_all file heights widths gaps marks = read_of Apart file (least_length heights widths gaps marks)

-- Its answer, and what the four lists hold afterwards. Ticket 3: "Reading fills a fourth list with the marks".
pub record Read (file heights widths gaps marks : List ℕ) (answer : Answer ℕ) (heights' widths' gaps' marks' : List ℕ) : Type 0 where
  pub answers : answer ≡ count_of (read_all file heights widths gaps marks)
  pub heights_hold : heights' ≡ read_into (read_all file heights widths gaps marks) (λ c. c.height.0) heights
  pub widths_hold : widths' ≡ read_into (read_all file heights widths gaps marks) (λ c. c.width.0) widths
  pub gaps_hold : gaps' ≡ read_into (read_all file heights widths gaps marks) (λ c. c.gap.0) gaps
  pub marks_hold : marks' ≡ read_into (read_all file heights widths gaps marks) (λ c. c.mark) marks

-- "A lookup by component number hands back the six bytes of one component as part of the file; for a number outside 1 to n,
-- or a refused file, it is an empty part." Ticket 3: "A lookup shows all bytes of the component."
abbrev pub part_of : Answer (List Component) → List ℕ → ℕ → List ℕ
part_of (refusal k) file number = []
part_of (result cs) file number =
    cond (leb 1 number && leb number (length cs))
    (take (bytes_each (version_of file)) (drop (7 + bytes_each (version_of file) * (number - 1)) file))
    []

-- Where the bytes of the component stand that has i others before it.
abbrev pub place_at : List ℕ → ℕ → Range ℕ
place_at file i =
    record { start = 7 + bytes_each (version_of file) * i; end = 7 + bytes_each (version_of file) * i + bytes_each (version_of file) }

-- Where the part stands that a lookup shows, unless it is empty.
abbrev pub place_in : Answer (List Component) → List ℕ → ℕ → Option (Range ℕ)
place_in (refusal k) file number = None
place_in (result cs) file number = cond (leb 1 number && leb number (length cs)) (Some (place_at file (number - 1))) None

abbrev pub place_of : List ℕ → ℕ → Option (Range ℕ)
place_of file number = place_in (check_of Apart file) file number

abbrev pub lookup_of : List ℕ → ℕ → List ℕ
lookup_of file number = part_of (check_of Apart file) file number
