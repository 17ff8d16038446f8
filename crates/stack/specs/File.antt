-- The stack file: what its bytes say, and which refusal applies to it (document 01, "Components and stack files"; ticket 3).
use Rattle.std.specs.Prelude.{ℕ, ◌+◌, ◌*◌, ◌<◌, List, Bool, not, cond, ◌&&◌, ◌||◌, length, get_or, ltb, eqb}
use Rattle.terms.specs.declared.Component.{Component}
use Rattle.terms.specs.declared.Kind.{Kind}
use Rattle.terms.specs.Answer.{Answer, result, refuse_if, and_then}
use Rattle.terms.specs.Component.{most_of, stack_of, tabulate}

-- A file is bytes: each of its numbers is one.
abbrev pub Bytes : List ℕ → Type 0
Bytes file = (i : ℕ) → get_or file i 0 < 256

-- "16 bits .. The low byte comes first": the number at byte i.
abbrev pub word_at : List ℕ → ℕ → ℕ
word_at file i = get_or file i 0 + 256 * get_or file (i + 1) 0

-- "a version (16 bits ..)"
abbrev pub version_of : List ℕ → ℕ
version_of file = word_at file 3

-- "six bytes for each component"; ticket 3: "Stack file version 2 has eight bytes a component".
abbrev pub bytes_each : ℕ → ℕ
bytes_each version = cond (eqb version 1) 6 8

-- "after the gap a 16-bit fold mark"; "version 1 reads as all 0".
abbrev pub mark_from : ℕ → List ℕ → ℕ → ℕ
mark_from version file at = cond (eqb version 1) 0 (word_at file (at + 6))

-- "height, width, gap (16 bits each)", and the mark: the component whose bytes start at byte `at`.
abbrev pub component_from : ℕ → List ℕ → ℕ → Component
component_from version file at = record {
  height = record { 0 = word_at file at };
  width = record { 0 = word_at file (at + 2) };
  gap = record { 0 = word_at file (at + 4) };
  mark = mark_from version file at;
}

-- The component that has i others before it.
abbrev pub component_at : List ℕ → ℕ → Component
component_at file i = component_from (version_of file) file (7 + bytes_each (version_of file) * i)

abbrev pub components_of : List ℕ → ℕ → List Component
components_of file n = tabulate (component_at file) n

-- "the letters STK (3 bytes)"
abbrev pub letters : List ℕ → Bool
letters file = eqb (get_or file 0 0) 83 && eqb (get_or file 1 0) 84 && eqb (get_or file 2 0) 75

-- Refusals 1 to 3 of a file: "under 7 bytes, or the letters are not STK"; "versions other than 1 and 2"; "the file is not 7+6n
-- bytes", of version 2 "Its length is 7+8n". The result is n.
unfoldable pub header_of : List ℕ → Answer ℕ
header_of file =
    refuse_if (ltb (length file) 7) 1
    (refuse_if (not (letters file)) 1
    (refuse_if (not (eqb (version_of file) 1 || eqb (version_of file) 2)) 2
    (refuse_if (not (eqb (length file) (7 + bytes_each (version_of file) * word_at file 5))) 3
    (result (word_at file 5)))))

-- The check of a stack file: the refusal of 1 to 6 and 11 that applies, or its components.
abbrev pub check_of : Kind → List ℕ → Answer (List Component)
check_of kind file = and_then (header_of file) (λ n. stack_of (most_of kind) (components_of file n))
