-- The ways in which reading ends.
use Prim.Native.Nat.{ℕ, ◌≤◌}
use mathlib.Core.Path.{◌≡◌, refl, sym, ap, ◌∙◌}
use mathlib.Core.List.{List, map}
use native.Mathlib.Omega.{arith}
use lib.ListN.{length}
use lib.Dec.{ltb}
use borrow.Author.Tests.{le-ltb}
use Rattle.terms.specs.declared.Component.{Component}
use Rattle.terms.specs.declared.Kind.{Kind}
use Rattle.terms.specs.declared.Kind.TheVariants.{Apart}
use Rattle.terms.specs.declared.Refusal.{Refusal}
use Rattle.terms.specs.Answer.{Answer, refusal, result, refuse_if, and_then, answer_of}
use Rattle.terms.specs.Component.{count_of}
use Rattle.terms.specs.declared.Piece.{Piece}
use Rattle.terms.specs.Pieces.{piece_of, stack_in, heights_in, widths_in, seams_in}
use Rattle.terms.proofs.Lists.{heights_of, widths_of, seams_of, all_marked}
use Rattle.terms.proofs.Pieces.{heights_packed, widths_packed, seams_packed, unpacked}
use Rattle.std.proofs.Common.{Result, Ok}
use Rattle.std.proofs.lemmas.List.{length-map}
use Rattle.terms.proofs.Answers.{counted, uncounted, went_on, result_same, most_256}
use Rattle.stack.specs.File.{components_of, check_of}
use Rattle.stack.specs.Calls.{read_of, read_into, least_length, Read, pieces_of, refilled}
use Rattle.stack.specs.Inner.{mapped, Pieced, column_into, Fillable, Filled}
use Rattle.stack.proofs.Valid.{Valid, valid}
use Rattle.stack.proofs.Columns.{counts, column-map, mark_fits}

-- A file that the check accepts, read into lists of which the shortest has the length `room`.
module _ (kind : Kind) (file : List ℕ) {n : ℕ} (e : count_of (check_of kind file) ≡ result n) where
  is : check_of kind file ≡ result (components_of file n)
  is =
      let c = counted (check_of kind file) n e in
      c.1 ∙ ap result (sym (rw c.2 at (valid kind file c.0 c.1).components))

  stands : Valid kind file (components_of file n)
  stands = valid kind file (components_of file n) is

  enough : (room : ℕ) → n ≤ room → read_of kind file room ≡ result (components_of file n)
  enough room h = rw (is, counts file n, le-ltb _ _ h)

  answered : (room : ℕ) → n ≤ room → result n ≡ count_of (read_of kind file room)
  answered room h = rw (enough room h, counts file n)

  column : {A : Type 0} (part : Component → A) (old new : List A) (room : ℕ) → n ≤ room → new ≡ column_into part file n old → new ≡ read_into (read_of kind file room) part old
  column part old new room h k = k ∙ column-map part file old n ∙ rw (enough room h, counts file n)

  pub fillable : (room : ℕ) → n ≤ room → Fillable file n room
  fillable room h =
      let s = stands in
      record {
        few = omega (arith, s.stack.few, most_256 kind, counts file n);
        fits = h;
        marked = mark_fits file n s.stack.marks;
      }

  pub pieced : {room room' : List Piece} → n ≤ length room → room' ≡ column_into piece_of file n room → Pieced kind file room (result n) room'
  pieced {room} {room'} h k = record { answers = answered (length room) h; pieces_hold = column piece_of room room' (length room) h k }

-- A refusal leaves the list of pieces as it was.
module _ (kind : Kind) (file : List ℕ) (room : List Piece) where
  pub refused : (k : ℕ) → read_of kind file (length room) ≡ refusal k → Pieced kind file room (refusal k) room
  refused k e = record { answers = rw e; pieces_hold = rw e }

-- Reading into four lists.
module _ (file heights widths gaps marks : List ℕ) {n : ℕ} (e : count_of (check_of Apart file) ≡ result n) where
  abbrev room : ℕ
  room = least_length heights widths gaps marks

  pub all_read : {heights' widths' gaps' marks' : List ℕ} → n ≤ room → Filled file n heights widths gaps marks heights' widths' gaps' marks'
      → Read file heights widths gaps marks (result n) heights' widths' gaps' marks'
  all_read {heights'} {widths'} {gaps'} {marks'} h f = record {
    answers = answered Apart file e room h;
    heights_hold = column Apart file e (λ c. c.height.0) heights heights' room h f.heights_hold;
    widths_hold = column Apart file e (λ c. c.width.0) widths widths' room h f.widths_hold;
    gaps_hold = column Apart file e (λ c. c.gap.0) gaps gaps' room h f.gaps_hold;
    marks_hold = column Apart file e (λ c. c.mark) marks marks' room h f.marks_hold;
  }

-- A list of 256 pieces is always long enough.
module _ (kind : Kind) (file : List ℕ) (room : List Piece) (h : length room ≡ 256) where
  roomy : read_of kind file (length room) ≡ check_of kind file
  roomy = go (check_of kind file) (λ cs e. let v = (valid kind file cs e).stack.few in omega (arith, most_256 kind))
    where
      go : (a : Answer (List Component)) → ((cs : List Component) → a ≡ result cs → length cs ≤ 256)
          → and_then a (λ cs. refuse_if (ltb (length room) (length cs)) 8 (result cs)) ≡ a
      go (refusal k) m = refl
      go (result cs) m = rw (h, le-ltb 256 (length cs) (m cs refl))

  module _ {answer : Answer ℕ} {room' : List Piece} (d : Pieced kind file room answer room') (k : ℕ) (e : answer ≡ refusal k) where
    no_file : check_of kind file ≡ refusal k
    no_file = uncounted (check_of kind file) k (rw (← roomy) (sym d.answers ∙ e))

    pub no_pieces : refusal k ≡ pieces_of kind file
    no_pieces = rw no_file

    pub room_kept : room' ≡ room
    room_kept = rw (roomy, no_file) at d.pieces_hold

-- What is held after reading in place of what was held, where nothing was refused.
pub refilled_is : {a : Answer (List Piece)} (old : List Piece) {new : List Piece} {r : Result (Unit {0}) Refusal} → answer_of r ≡ mapped (λ pieces. tt) a → new ≡ refilled a old → r ≡ Ok tt → result new ≡ a
refilled_is {a} old {new} e n w = go a (sym (ap answer_of w) ∙ e) n
  where
    go : (a : Answer (List Piece)) → result (tt {0}) ≡ mapped (λ pieces. tt {0}) a → new ≡ refilled a old → result new ≡ a
    go (refusal k) e n = let z : ◌≡◌ {A = ℕ} 0 1 = cc in absurd (omega arith)
    go (result pieces) e n = ap result n

-- A stack that was read, and the components that it stands for.
pub record Held (kind : Kind) (file : List ℕ) (s : List Piece) : Type 0 where
  pub components : List Component
  pub checked : check_of kind file ≡ result components
  pub in_pieces : s ≡ map piece_of components

module _ (kind : Kind) (file : List ℕ) where
  pub held : {s p : List Piece} → p ≡ s → result s ≡ pieces_of kind file → Held kind file p
  held {s} {p} i e =
      let w = went_on (check_of kind file) (λ cs. result (map piece_of cs)) s (sym e) in
      record { components = w.0; checked = w.1; in_pieces = i ∙ sym (result_same w.2) }

module _ {kind : Kind} {file : List ℕ} {s : List Piece} (h : Held kind file s) where
  pub components_held : stack_in s ≡ h.components
  components_held = rw h.in_pieces (unpacked h.components (all_marked h.components (valid kind file h.components h.checked).stack.marks))

  pub count_held : length h.components ≡ length s
  count_held = sym (ap length h.in_pieces ∙ length-map h.components piece_of)

  pub heights_held : heights_in s ≡ heights_of h.components
  heights_held = rw h.in_pieces (heights_packed h.components)

  pub widths_held : widths_in s ≡ widths_of h.components
  widths_held = rw h.in_pieces (widths_packed h.components)

  pub seams_held : seams_in s ≡ seams_of h.components
  seams_held = rw h.in_pieces (seams_packed h.components (all_marked h.components (valid kind file h.components h.checked).stack.marks))
