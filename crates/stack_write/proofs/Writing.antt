-- The bytes of components, written one component after another behind the header; and the ways in which the writer ends.
use Prim.Native.Nat.{ℕ, suc, ◌+◌, ◌-◌, ◌*◌, ◌≤◌}
use mathlib.Core.Path.{◌≡◌, refl, sym, ap, ◌∙◌}
use mathlib.Core.List.{List, [], ◌∷◌, ◌++◌, append_assoc}
use native.Mathlib.Omega.{arith}
use native.Mathlib.Numerals.{add-one}
use lib.ListN.{length, take, drop}
use lib.Seq.{take_at, drop_at, drop-drop}
use borrow.Author.Tests.{le-ltb, eq-eqb}
use borrow.Rule.Slice.PartMut.{put_mid}
use Rattle.terms.specs.declared.Component.{Component}
use Rattle.terms.specs.declared.Kind.TheVariants.{Apart}
use Rattle.terms.specs.Answer.{result}
use Rattle.terms.specs.Component.{tabulate, stack_of, most_of, count_of}
use Rattle.stack_write.specs.File.{bytes_of, headed, file_of}
use Rattle.stack_write.specs.Call.{entry_at, entries_of, write_of, Wrote}
use Rattle.stack_write.specs.Inner.{Lists}
use Rattle.terms.proofs.Tabulate.{tabulate-length}
use Rattle.terms.proofs.Parts.{from, back}
use Rattle.terms.proofs.Answers.{counted, stack_is}
use Rattle.stack_write.proofs.RoundTrip.{bytes-length, file_length, one_file}

bytes-append : (cs ds : List Component) → bytes_of (cs ++ ds) ≡ bytes_of cs ++ bytes_of ds
unfolding bytes_of
bytes-append [] ds = refl
bytes-append (c ∷ cs) ds = rw (bytes-append cs ds)

-- A buffer that holds the first i components' bytes takes the next component's.
module _ (g : ℕ → Component) (old : List ℕ) where
  abbrev pub written : ℕ → List ℕ
  written i = bytes_of (tabulate g i) ++ drop (8 * i) old

  first_bytes : (i : ℕ) → length (bytes_of (tabulate g i)) ≡ 8 * i
  first_bytes i = bytes-length (tabulate g i) ∙ rw (tabulate-length g i)

  pub written_none : written 0 ≡ old
  unfolding tabulate bytes_of
  written_none = refl

  pub written_more : (i : ℕ) (c : Component) (out new : List ℕ) → 8 * i ≤ length out → out ≡ written i → c ≡ g i
      → new ≡ bytes_of (c ∷ []) ++ drop 8 (take (length out - 8 * i) (drop (8 * i) out))
      → put_mid (8 * i) (length out - 8 * i) out new ≡ written (i + 1)
  unfolding tabulate
  written_more i c out new h e k n =
      let m : 8 * i + 8 ≡ 8 * suc i = omega arith in
      let d : drop (8 * i) out ≡ drop (8 * i) old = rw e (drop_at (bytes_of (tabulate g i)) (drop (8 * i) old) (8 * i) (first_bytes i)) in
      let t : take (8 * i) out ≡ bytes_of (tabulate g i) = rw e (take_at (bytes_of (tabulate g i)) (drop (8 * i) old) (8 * i) (first_bytes i)) in
      back (8 * i) out new h
      ∙ rw (n, k, from (8 * i) out, d, t, add-one, bytes-append (tabulate g i) (g i ∷ []), append_assoc (bytes_of (tabulate g i)) (bytes_of (g i ∷ [])) (drop (8 * suc i) old), drop-drop 8 (8 * i) old, m)

-- The header, and the components' bytes behind it.
whole : (cs : List Component) (old p last : List ℕ) (n : ℕ) → length cs ≡ n → 7 ≤ length p
    → p ≡ headed n (drop 7 old)
    → last ≡ bytes_of cs ++ drop (8 * n) (take (length p - 7) (drop 7 p))
    → put_mid 7 (length p - 7) p last ≡ file_of cs ++ drop (7 + 8 * n) old
whole cs old p last n m d e l =
    back 7 p last d ∙ ap (λ (z : List ℕ). take 7 p ++ z) (rw (from 7 p) at l) ∙ rw (e, drop-drop (8 * n) 7 old, m)

pub counts : (heights widths gaps marks : List ℕ) → length (entries_of heights widths gaps marks) ≡ length heights
counts heights widths gaps marks = tabulate-length (entry_at heights widths gaps marks) (length heights)

-- Lists whose components are a stack.
module _ (heights widths gaps marks : List ℕ) {n : ℕ} (e : count_of (stack_of (most_of Apart) (entries_of heights widths gaps marks)) ≡ result n) where
  is : stack_of (most_of Apart) (entries_of heights widths gaps marks) ≡ result (entries_of heights widths gaps marks)
  is =
      let c = counted (stack_of (most_of Apart) (entries_of heights widths gaps marks)) n e in
      c.1 ∙ ap result (sym (stack_is _ _ _ c.1).0)

  pub long : length heights ≡ n
  long =
      let c = counted _ n e in
      sym (tabulate-length (entry_at heights widths gaps marks) (length heights)) ∙ ap length (stack_is _ _ _ c.1).0 ∙ c.2

  counted_as : length (entries_of heights widths gaps marks) ≡ n
  counted_as = counts heights widths gaps marks ∙ long

pub equal : {heights widths gaps marks : List ℕ} → length widths ≡ length heights → length gaps ≡ length heights → length marks ≡ length heights → Lists heights widths gaps marks
equal w g m = record { widths_long = w; gaps_long = g; marks_long = m }

-- The lists' file, written.
module _ (heights widths gaps marks out : List ℕ) (s : Lists heights widths gaps marks) {n : ℕ}
    (e : count_of (stack_of (most_of Apart) (entries_of heights widths gaps marks)) ≡ result n) where
  pub wrote : (p last : List ℕ) → 7 + 8 * n ≤ length out → length p ≡ length out
      → p ≡ headed n (drop 7 out)
      → last ≡ bytes_of (entries_of heights widths gaps marks) ++ drop (8 * length heights) (take (length p - 7) (drop 7 p))
      → Wrote heights widths gaps marks out (result (7 + 8 * n)) (put_mid 7 (length p - 7) p last)
  wrote p last h m k l =
      let a : write_of heights widths gaps marks (length out) ≡ result (entries_of heights widths gaps marks) = rw (eq-eqb _ _ s.widths_long, eq-eqb _ _ s.gaps_long, eq-eqb _ _ s.marks_long, is heights widths gaps marks e, counted_as heights widths gaps marks e, le-ltb _ _ h) in
      let f : put_mid 7 (length p - 7) p last ≡ file_of (entries_of heights widths gaps marks) ++ drop (7 + 8 * n) out = whole (entries_of heights widths gaps marks) out p last n (counted_as heights widths gaps marks e) (omega arith) k (rw (← long heights widths gaps marks e) l) in
      let g : put_mid 7 (length p - 7) p last ≡ file_of (entries_of heights widths gaps marks) ++ drop (7 + 8 * length (entries_of heights widths gaps marks)) out = f ∙ rw (counted_as heights widths gaps marks e) in
      record {
        answers = rw (a, counted_as heights widths gaps marks e);
        holds = rw a g;
        reads_back =
            rw (a, g, take_at (file_of (entries_of heights widths gaps marks)) (drop (7 + 8 * length (entries_of heights widths gaps marks)) out) (7 + 8 * length (entries_of heights widths gaps marks)) (file_length (entries_of heights widths gaps marks)))
            (one_file heights widths gaps marks s (is heights widths gaps marks e));
      }
