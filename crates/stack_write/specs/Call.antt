-- What the writer answers, and what the lent buffer holds afterwards.
use Rattle.std.specs.Prelude.{ℕ, ◌+◌, ◌*◌, ◌≡◌, List, ◌++◌, map, not, length, take, drop, get_or, ltb, eqb}
use Rattle.terms.specs.declared.Component.{Component}
use Rattle.terms.specs.declared.Kind.{Kind}
use Rattle.terms.specs.declared.Kind.TheVariants.{Apart}
use Rattle.terms.specs.Answer.{Answer, refusal, result, refuse_if, and_then}
use Rattle.terms.specs.Component.{most_of, stack_of, tabulate}
use Rattle.stack.specs.File.{Bytes, version_of, check_of}
use Rattle.stack_write.specs.File.{file_of}

-- The components that four lists hold: their entries at the same place.
abbrev pub entry_at : List ℕ → List ℕ → List ℕ → List ℕ → ℕ → Component
entry_at heights widths gaps marks i = record {
  height = record { 0 = get_or heights i 0 };
  width = record { 0 = get_or widths i 0 };
  gap = record { 0 = get_or gaps i 0 };
  mark = get_or marks i 0;
}

abbrev pub entries_of : List ℕ → List ℕ → List ℕ → List ℕ → List Component
entries_of heights widths gaps marks = tabulate (entry_at heights widths gaps marks) (length heights)

-- The writer, with a buffer of `room` bytes lent: 3, "the writer's lists differ in length", 4 to 6 and 11, then 8, "a writer's
-- buffer under the file's length". Ticket 3: "takes the marks as a fourth list and makes version 2 only".
abbrev pub write_of : List ℕ → List ℕ → List ℕ → List ℕ → ℕ → Answer (List Component)
write_of heights widths gaps marks room =
    refuse_if (not (eqb (length widths) (length heights))) 3
    (refuse_if (not (eqb (length gaps) (length heights))) 3
    (refuse_if (not (eqb (length marks) (length heights))) 3
    (and_then (stack_of (most_of Apart) (entries_of heights widths gaps marks)) (λ cs.
    refuse_if (ltb room (7 + 8 * length cs)) 8
    (result cs)))))

-- "gives the file's length"
abbrev pub length_of : Answer (List Component) → Answer ℕ
length_of a = and_then a (λ cs. result (7 + 8 * length cs))

-- "Only .. the file's bytes are written; all beyond stay unchanged"; after a refusal all are.
abbrev pub write_into : Answer (List Component) → List ℕ → List ℕ
write_into (refusal k) old = old
write_into (result cs) old = file_of cs ++ drop (7 + 8 * length cs) old

-- "every valid list of components writes to the one file that reads to it"; ticket 3: "for components with marks that is
-- the one version 2 file that reads to them": a call of either kind checks the file as it does the components, which hold
-- the four lists, and no other file of version 2 reads to them.
pub record OneFile (heights widths gaps marks : List ℕ) (cs : List Component) (file : List ℕ) : Type 0 where
  pub version : version_of file ≡ 2
  pub reads : (kind : Kind) → check_of kind file ≡ stack_of (most_of kind) cs
  pub heights_back : map (λ c. c.height.0) cs ≡ heights
  pub widths_back : map (λ c. c.width.0) cs ≡ widths
  pub gaps_back : map (λ c. c.gap.0) cs ≡ gaps
  pub marks_back : map (λ c. c.mark) cs ≡ marks
  pub only : (kind : Kind) (other : List ℕ) → Bytes other → version_of other ≡ 2 → check_of kind other ≡ result cs → other ≡ file

abbrev pub ReadsBack : List ℕ → List ℕ → List ℕ → List ℕ → Answer (List Component) → List ℕ → Type 0
ReadsBack heights widths gaps marks (refusal k) out' = Unit {0}
ReadsBack heights widths gaps marks (result cs) out' = OneFile heights widths gaps marks cs (take (7 + 8 * length cs) out')

-- The writer: its answer, what the buffer holds afterwards, and that reading gives the lists back.
pub record Wrote (heights widths gaps marks out : List ℕ) (answer : Answer ℕ) (out' : List ℕ) : Type 0 where
  pub answers : answer ≡ length_of (write_of heights widths gaps marks (length out))
  pub holds : out' ≡ write_into (write_of heights widths gaps marks (length out)) out
  pub reads_back : ReadsBack heights widths gaps marks (write_of heights widths gaps marks (length out)) out'
