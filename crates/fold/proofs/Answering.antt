-- The answers of the two calls, from their checks and from the search. With a limit of 1, which is in range, the checks are
-- those of the smallest area, which has none.
use Prim.Native.Nat.{ℕ}
use mathlib.Core.Path.{◌≡◌, sym, ap, ◌∙◌}
use mathlib.Core.List.{List}
use native.Mathlib.Omega.{arith}
use lib.ListN.{length}
use Rattle.terms.specs.declared.Component.{Component}
use Rattle.terms.specs.declared.Kind.{Kind}
use Rattle.terms.specs.declared.Piece.{Piece}
use Rattle.terms.specs.Pieces.{columns, stack_in}
use Rattle.std.specs.Prelude.{Result, Ok}
use Rattle.terms.specs.Answer.{Answer, result, answer_of}
use Rattle.terms.specs.declared.Refusal.{Refusal}
use Rattle.terms.proofs.Pieces.{heights_length}
use Rattle.stack.specs.Calls.{pieces_of}
use Rattle.stack.proofs.Reading.{Held, held, components_held, count_held}
use Rattle.folding.specs.declared.Outline.{Outline}
use Rattle.layout.proofs.Groups.{Stacked}
use Rattle.fold.specs.Calls.{fold_checks, valid_of, Wanted, Searched, Answered, by_height}
use Rattle.best.specs.Asks.{Foldable, Written}
use Rattle.fold.proofs.Checks.{Lent, lent, all_well}
use Rattle.fold.proofs.Held.{read, stacked_plan}
use Rattle.fold.proofs.Limits.{to_height}

module _ (wanted : Wanted) (kind : Kind) (limit : ℕ) (out work : List ℕ) where
  searched : (out' work' : List ℕ) (answer : Answer Outline) (cs : List Component) (a : Answer (List Component)) → a ≡ result cs → Searched wanted cs out out' answer
      → Answered wanted out work out' work' answer a
  searched out' work' answer cs a e s = rw e s

  of_file : {file : List ℕ} {s : List Piece} (h : Held kind file s) (out' work' : List ℕ) (answer : Answer Outline)
      → Answered wanted out work out' work' answer (fold_checks limit (length out) (length work) (length s) (stack_in s))
      → Answered wanted out work out' work' answer (valid_of kind file limit out work)
  of_file h out' work' answer a = rw (h.checked, count_held h) (rw (components_held h) at a)

-- The checks passed: what the search answers for a stack is the call's answer, wherever the stack comes from.
module _ (limit : ℕ) (out work : List ℕ) (n : ℕ) (e : fold_checks {A = Unit {0}} limit (length out) (length work) n tt ≡ result tt) where
  within : Lent limit (length out) (length work) n
  within = lent limit (length out) (length work) n tt tt e

  module _ (cs : List Component) (out' work' : List ℕ) (answer : Answer Outline) where
    pub any_searched : (kind : Kind) (wanted : Wanted) → Searched wanted cs out out' answer
        → Answered wanted out work out' work' answer (fold_checks limit (length out) (length work) n cs)
    any_searched kind wanted s =
        let l = within in
        searched wanted kind limit out work out' work' answer cs _ (sym (all_well limit (length out) (length work) n cs l.low l.high l.room l.work_room)) s

    pub any_height : (kind : Kind) → Stacked cs → Written kind cs limit out out' answer
        → Answered (by_height kind limit) out work out' work' answer (fold_checks limit (length out) (length work) n cs)
    any_height kind s w = any_searched kind (by_height kind limit) (to_height kind cs s limit out out' answer w)

-- A stack that was read and past the checks can be planned, its placements fit, and the call's answer is that of the file.
module _ (kind : Kind) (file : List ℕ) {s p : List Piece} (i : p ≡ s) (d : result s ≡ pieces_of kind file) (limit : ℕ) (out work : List ℕ) {r : Result (Unit {0}) Refusal}
    (f : answer_of r ≡ fold_checks limit (length out) (length work) (length p) tt) (o : r ≡ Ok tt) where
  here : Held kind file p
  here = held kind file i d

  passed : fold_checks {A = Unit {0}} limit (length out) (length work) (length p) tt ≡ result tt
  passed = sym f ∙ ap answer_of o

  pub search_asks : columns p (Foldable kind limit) out work
  search_asks =
      let l = within limit out work (length p) passed in
      let r = read here in
      let k = heights_length p in
      (record { lists = r.lists; some = omega (arith, r.some); free = r.free; room = l.work_room }, l.high, omega (arith, l.room))

  pub answered : (wanted : Wanted) (out' work' : List ℕ) (answer : Answer Outline)
      → Searched wanted (stack_in p) out out' answer → Answered wanted out work out' work' answer (valid_of kind file limit out work)
  answered wanted out' work' answer a =
      of_file wanted kind limit out work here out' work' answer (any_searched limit out work (length p) passed (stack_in p) out' work' answer kind wanted a)

  pub answered_height : (out' work' : List ℕ) (answer : Answer Outline) → Written kind (stack_in p) limit out out' answer
      → Answered (by_height kind limit) out work out' work' answer (valid_of kind file limit out work)
  answered_height out' work' answer w =
      of_file (by_height kind limit) kind limit out work here out' work' answer
      (any_height limit out work (length p) passed (stack_in p) out' work' answer kind (stacked_plan search_asks.0) w)
