-- What the outline table answers, and what the lent buffers hold afterwards (document 01, "Calls"; demand 3).
use Rattle.std.specs.Prelude.{ℕ, ◌*◌, ◌/◌, ◌≤◌, ◌≡◌, List, [], ◌∷◌, ◌++◌, cond, length, drop, ltb}
use Rattle.terms.specs.declared.Component.{Component}
use Rattle.terms.specs.declared.Kind.{Kind}
use Rattle.terms.specs.Answer.{Answer, refusal, result, refuse_if, and_then}
use Rattle.stack.specs.File.{check_of}
use Rattle.terms.specs.Component.{width_sum}
use Rattle.folding.specs.declared.Outline.{Outline}
use Rattle.folding.specs.Best.{Listing}
use Rattle.fold.specs.Calls.{work_check}

-- The file's own refusals, then 8 as far as it can be told before the outlines are counted, or the stack's components.
abbrev pub table_valid_of : Kind → List ℕ → List ℕ → Answer (List Component)
table_valid_of kind file work = and_then (check_of kind file) (λ cs. work_check (length work) cs)

-- "32-bit pairs width, height"
unfoldable pub pairs_of : List Outline → List ℕ
pairs_of [] = []
pairs_of (o ∷ os) = o.width.0 ∷ o.height.0 ∷ pairs_of os

-- "The result carries the number of pairs". Refusal 8, "more outlines than pairs fit": the buffer has `room` numbers.
abbrev pub table_answer : ℕ → List Outline → Answer ℕ
table_answer room os = refuse_if (ltb (room / 2) (length os)) 8 (result (length os))

-- "the listed pairs are that many from the buffer's start"; "Only .. the listed pairs .. are written; all beyond stay
-- unchanged."
abbrev pub table_into : List Outline → List ℕ → List ℕ
table_into os out = cond (ltb (length out / 2) (length os)) out (pairs_of os ++ drop (2 * length os) out)

-- "Outline table: the unbeaten outlines as 32-bit pairs width, height; widths strictly rise, heights strictly fall." There
-- is only one such list. It has at most as many outlines as the components' widths add up to, so that a caller can know a
-- buffer that is long enough.
pub record Tabled (kind : Kind) (cs : List Component) (out out' : List ℕ) (answer : Answer ℕ) : Type 0 where
  pub listed : List Outline
  pub listing : Listing kind cs listed
  pub only : (other : List Outline) → Listing kind cs other → other ≡ listed
  pub few : length listed ≤ width_sum cs
  pub answers : answer ≡ table_answer (length out) listed
  pub holds : out' ≡ table_into listed out

-- "a refusal leaves every buffer lent for results unchanged", "and so is the work buffer where its content is not free": it
-- is free after a result, "or after 8 for too long a table".
abbrev pub TableAnswered : Kind → List ℕ → List ℕ → List ℕ → List ℕ → Answer ℕ → Answer (List Component) → Type 0
TableAnswered kind out work out' work' answer (refusal k) = (answer ≡ refusal k) × (out' ≡ out) × (work' ≡ work)
TableAnswered kind out work out' work' answer (result cs) = Tabled kind cs out out' answer

abbrev pub TableOf : Kind → List ℕ → List ℕ → List ℕ → Answer ℕ → List ℕ → List ℕ → Type 0
TableOf kind file out work answer out' work' = TableAnswered kind out work out' work' answer (table_valid_of kind file work)
