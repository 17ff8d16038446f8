-- A table that is a result fits its buffer.
use Prim.Native.Nat.{ℕ, ◌*◌, ◌/◌, ◌≤◌}
use mathlib.Core.Path.{◌≡◌, sym}
use mathlib.Core.List.{List}
use native.Mathlib.Omega.{arith}
use lib.ListN.{length}
use lib.Dec.{ltb}
use borrow.Author.Tests.{ltb-false}
use Rattle.std.specs.Prelude.{Result, Ok}
use Rattle.terms.specs.declared.Component.{Component}
use Rattle.terms.specs.declared.Kind.{Kind}
use Rattle.terms.specs.Answer.{Answer, refusal, result, answer_of}
use Rattle.terms.proofs.Answers.{passed, result_same}
use Rattle.terms.specs.declared.Refusal.{Refusal}
use Rattle.fold_table.specs.Calls.{TableAnswered, table_valid_of, TableOf}

within : (kind : Kind) (out work out' work' : List ℕ) (n : ℕ) (a : Answer (List Component)) → TableAnswered kind out work out' work' (result n) a → 2 * n ≤ length out
within kind out work out' work' n (refusal k) t =
    let e : ◌≡◌ {A = Answer ℕ} (result n) (refusal k) = t.0 in
    let z : ◌≡◌ {A = ℕ} 0 1 = cc in
    absurd (omega arith)
within kind out work out' work' n (result cs) t =
    let p = passed (ltb (length out / 2) (length t.listed)) 8 (result (length t.listed)) n (sym t.answers) in
    omega (arith, ltb-false (length out / 2) (length t.listed) p.0, result_same p.1)

pub fits : (kind : Kind) (file out work out' work' : List ℕ) (r : Result ℕ Refusal) (n : ℕ) → TableOf kind file out work (answer_of r) out' work' → r ≡ Ok n → length out' ≡ length out → 2 * n ≤ length out'
fits kind file out work out' work' r n t e k = omega (arith, k, within kind out work out' work' n (table_valid_of kind file work) (rw e at t))
