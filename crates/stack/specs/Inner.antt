-- What the functions inside this crate promise each other, and what `read_pieces` promises. Nothing here is part of a promise
-- to a caller of C or Rust.
use Rattle.std.specs.Prelude.{ℕ, ◌+◌, ◌*◌, ◌≤◌, ◌<◌, ◌≡◌, List, [], ◌∷◌, ◌++◌, length, drop}
use Rattle.terms.specs.Numbers.{most_apart}
use Rattle.terms.specs.declared.Component.{Component}
use Rattle.terms.specs.declared.Kind.{Kind}
use Rattle.terms.specs.declared.Piece.{Piece}
use Rattle.terms.specs.Answer.{Answer, result, and_then}
use Rattle.terms.specs.Component.{tabulate, count_of}
use Rattle.terms.specs.Pieces.{piece_of}
use Rattle.stack.specs.File.{version_of, bytes_each, component_at}
use Rattle.stack.specs.Calls.{read_of, read_into}

-- One part of a result, and its refusal.
abbrev pub mapped : {A B : Type 0} → (A → B) → Answer A → Answer B
mapped f a = and_then a (λ v. result (f v))

-- Reading into the list of pieces in which a stack is handed on inside a call.
pub record Pieced (kind : Kind) (file : List ℕ) (room : List Piece) (answer : Answer ℕ) (room' : List Piece) : Type 0 where
  pub answers : answer ≡ count_of (read_of kind file (length room))
  pub pieces_hold : room' ≡ read_into (read_of kind file (length room)) piece_of room

-- The four words of a component.
abbrev pub words_of : Component → List ℕ
words_of c = c.height.0 ∷ c.width.0 ∷ c.gap.0 ∷ c.mark ∷ []

-- The file has the bytes of the component that has i others before it.
pub record Within (file : List ℕ) (i : ℕ) : Type 0 where
  pub held : 7 + bytes_each (version_of file) * i + bytes_each (version_of file) ≤ length file

-- One part of each of the file's n components, and what stood behind the first n entries.
abbrev pub column_into : {A : Type 0} → (Component → A) → List ℕ → ℕ → List A → List A
column_into part file n old = tabulate (λ i. part (component_at file i)) n ++ drop n old

pub record Fillable (file : List ℕ) (n room : ℕ) : Type 0 where
  pub few : n ≤ most_apart
  pub fits : n ≤ room
  pub marked : (i : ℕ) → i < n → (component_at file i).mark ≤ 1

pub record Filled (file : List ℕ) (n : ℕ) (heights widths gaps marks heights' widths' gaps' marks' : List ℕ) : Type 0 where
  pub heights_hold : heights' ≡ column_into (λ c. c.height.0) file n heights
  pub widths_hold : widths' ≡ column_into (λ c. c.width.0) file n widths
  pub gaps_hold : gaps' ≡ column_into (λ c. c.gap.0) file n gaps
  pub marks_hold : marks' ≡ column_into (λ c. c.mark) file n marks
