-- What follows where the check of a file gives its components.
use Prim.Native.Nat.{ℕ, ◌+◌, ◌*◌, ◌≤◌, ◌<◌}
use mathlib.Core.Path.{◌≡◌, sym, ap, ◌∙◌}
use mathlib.Core.Logic.{◌⊎◌, inl, inr}
use mathlib.Core.List.{List}
use mathlib.Core.Bool.{Bool, true, false, not, cond, ◌||◌}
use native.Mathlib.Omega.{arith}
use lib.ListN.{length}
use lib.Dec.{ltb, eqb}
use borrow.Author.Tests.{eqb-true, not-false}
use Rattle.terms.specs.declared.Component.{Component}
use Rattle.terms.specs.declared.Kind.{Kind}
use Rattle.terms.specs.Answer.{result}
use Rattle.terms.specs.Component.{most_of, stack_of}
use Rattle.terms.proofs.Bools.{one_of}
use Rattle.terms.proofs.Tabulate.{tabulate-length}
use Rattle.terms.proofs.Answers.{passed, went_on, result_same, Stack, stack_is}
use Rattle.stack.specs.File.{word_at, version_of, bytes_each, component_at, components_of, letters, header_of, check_of}
use Rattle.stack.specs.Inner.{Within}

pub record Header (file : List ℕ) (n : ℕ) : Type 0 where
  pub letters_stand : letters file ≡ true
  pub version : (version_of file ≡ 1) ⊎ (version_of file ≡ 2)
  pub count : word_at file 5 ≡ n
  pub size : length file ≡ 7 + bytes_each (version_of file) * n

pub record Valid (kind : Kind) (file : List ℕ) (cs : List Component) : Type 0 where
  pub header : Header file (length cs)
  pub components : components_of file (length cs) ≡ cs
  pub stack : Stack (most_of kind) cs

known : (version : ℕ) → (eqb version 1 || eqb version 2) ≡ true → (version ≡ 1) ⊎ (version ≡ 2)
known version e = go (one_of (eqb version 1) (eqb version 2) e)
  where
    go : (eqb version 1 ≡ true) ⊎ (eqb version 2 ≡ true) → (version ≡ 1) ⊎ (version ≡ 2)
    go (inl k) = inl (eqb-true version 1 k)
    go (inr k) = inr (eqb-true version 2 k)

pub header_is : (file : List ℕ) (n : ℕ) → header_of file ≡ result n → Header file n
unfolding header_of
header_is file n e =
    let e1 = passed (ltb (length file) 7) 1 _ n e in
    let e2 = passed (not (letters file)) 1 _ n e1.1 in
    let e3 = passed (not (eqb (version_of file) 1 || eqb (version_of file) 2)) 2 _ n e2.1 in
    let e4 = passed (not (eqb (length file) (7 + bytes_each (version_of file) * word_at file 5))) 3 _ n e3.1 in
    let m : word_at file 5 ≡ n = result_same e4.1 in
    record {
      letters_stand = not-false _ e2.0;
      version = known (version_of file) (not-false _ e3.0);
      count = m;
      size = rw m at (eqb-true (length file) (7 + bytes_each (version_of file) * word_at file 5) (not-false _ e4.0));
    }

pub valid : (kind : Kind) (file : List ℕ) (cs : List Component) → check_of kind file ≡ result cs → Valid kind file cs
valid kind file cs e =
    let a = went_on (header_of file) (λ n. stack_of (most_of kind) (components_of file n)) cs e in
    let b = stack_is (most_of kind) (components_of file a.0) cs a.2 in
    let m : a.0 ≡ length cs = sym (tabulate-length (component_at file) a.0) ∙ ap length b.0 in
    record { header = rw m at (header_is file a.0 a.1); components = rw m at b.0; stack = b.1 }

-- The bytes of a component before the n-th stand in the file.
pub within : (file : List ℕ) (n i : ℕ) → 7 + bytes_each (version_of file) * n ≤ length file → i < n → Within file i
within file n i h l = record { held = go (eqb (version_of file) 1) h }
  where
    go : (first : Bool) → 7 + cond first 6 8 * n ≤ length file → 7 + cond first 6 8 * i + cond first 6 8 ≤ length file
    go true h = omega arith
    go false h = omega arith
