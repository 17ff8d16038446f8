-- What is remembered of groups: a word, a row of words, all rows.
use Prim.Native.Nat.{ℕ, zero, suc, ◌+◌, ◌-◌, ◌≤◌, ◌<◌, min}
use mathlib.Core.Path.{◌≡◌, refl, sym, ap, ◌∙◌, subst}
use mathlib.Core.Logic.{◌⊎◌, inl, inr}
use mathlib.Core.List.{List, ◌++◌}
use mathlib.Core.Bool.{Bool}
use lib.Dec.{eqb}
use native.Mathlib.Nat.{eq-or-lt_of_le}
use native.Mathlib.Omega.{arith}
use lib.ListN.{length, get_or, take, drop, set, length-drop, length-set}
use lib.Seq.{get_or-set_same, get_or-set_other, length-take-le}
use borrow.Rule.Slice.PartMut.{put_mid, same_len_mid}
use Rattle.std.specs.List.{between}
use Rattle.std.proofs.lemmas.List.Edits.{length-between}
use Rattle.std.proofs.lemmas.Slice.{between_is, between-put_mid, take-put_mid_below, drop-put_mid}
use Rattle.numbers.specs.Table.{cells}
use Rattle.std.proofs.lemmas.List.{take-map, drop-map, drop_at}
use Rattle.terms.specs.declared.Kind.{Kind}
use Rattle.terms.specs.declared.Piece.{Piece}
use Rattle.terms.specs.Pieces.{heights_in, widths_in, seams_in, columns}
use Rattle.terms.proofs.Order.{order}
use Rattle.terms.proofs.Pieces.{heights_length}
use Rattle.terms.specs.declared.Kind.TheVariants.{Apart, Nested}
use Rattle.terms.specs.Component.{most_of}
use Rattle.plan.specs.Asks.{plan_room, gap_before}
use Rattle.plan.specs.Memory.{WordHolds, WordAsks, RowDone, RowAsks, RowGiven, row_words, row_for, RowAt, RowsFrom, RowsTo, Memory}

-- A row that is asked for holds.
module _ (limit g0 : ℕ) (hs ws gs : List ℕ) where
  pub row_start : (kind : Kind) (es row : List ℕ) → RowAsks kind limit g0 hs ws gs es row → RowDone kind limit g0 hs ws gs row
  row_start Apart es row r = tt
  row_start Nested es row r = r.1

-- The word of the first j + 1 components in the row of a stack, of which it is told whether they stand last.
module _ {limit g0 : ℕ} (s : List Piece) (j : ℕ) (h : j < length s) {last : Bool} (told : last ≡ eqb (j + 1) (length s)) where
  pub row_word : (es row : List ℕ) → columns s (RowAsks Nested limit g0) es row → columns (take (j + 1) s) (WordAsks last limit g0) es (get_or row j 0)
  row_word es row r = rw told (r.0, simp take-map at (rw (heights_length s) at (r.1.holds j (omega (arith, heights_length s)))))

  word_back : {word : ℕ} → columns (take (j + 1) s) (WordHolds last limit g0) word
      → WordHolds (eqb (j + 1) (length (heights_in s))) limit g0 (take (j + 1) (heights_in s)) (take (j + 1) (widths_in s)) (take (j + 1) (seams_in s)) word
  word_back w = rw (heights_length s, ← told) (simp take-map w)

  pub row_more : {row : List ℕ} (word : ℕ) → columns s (RowDone Nested limit g0) row → columns (take (j + 1) s) (WordHolds last limit g0) word → columns s (RowDone Nested limit g0) (set row j word)
  row_more {row} word r w = record { long = length-set row j word ∙ r.long; holds = λ k u. go k u (order j k) (order k j) }
    where
      Word : ℕ → Type 0
      Word k = WordHolds (eqb (k + 1) (length (heights_in s))) limit g0 (take (k + 1) (heights_in s)) (take (k + 1) (widths_in s)) (take (k + 1) (seams_in s)) (get_or (set row j word) k 0)

      same : Word j
      same = rw (get_or-set_same row j word 0 (omega (arith, r.long, heights_length s))) (word_back w)

      other : (k : ℕ) → k < length (heights_in s) → (k ≡ j → ⊥) → Word k
      other k u n = rw (get_or-set_other row j k word 0 n) (r.holds k u)

      go : (k : ℕ) → k < length (heights_in s) → (j ≤ k) ⊎ (k < j) → (k ≤ j) ⊎ (j < k) → Word k
      go k u (inr p) q = other k u (λ z. omega arith)
      go k u (inl p) (inr q) = other k u (λ z. omega arith)
      go k u (inl p) (inl q) = let z : j ≡ k = omega arith in subst Word z same

-- Where rows stand behind the table.
row_next : (n : ℕ) → row_for (suc n) ≡ row_for n + n
unfolding row_for
row_next n = refl

row_apart : (m n : ℕ) → m < n → row_for m + m ≤ row_for n
row_apart m zero h = absurd (omega arith)
row_apart m (suc n) h = go (eq-or-lt_of_le h) (row_apart m n)
  where
    go : (suc m ≡ suc n) ⊎ (suc m < suc n) → (m < n → row_for m + m ≤ row_for n) → row_for m + m ≤ row_for (suc n)
    go (inl e) i = let z : m ≡ n = omega arith in rw z (omega (arith, row_next n))
    go (inr l) i = omega (arith, row_next n, i (omega arith))

last_row : row_for 65 ≡ 2080
unfolding row_for
last_row = refl

row_fits : (n : ℕ) → n ≤ 64 → row_for n + n ≤ 2080
row_fits n h = omega (arith, row_apart n 65 (omega arith), last_row)

-- The rows as the plan goes on: those from i on are done, the others are as they were given, and the next one stands at `at`.
-- Nested there is a table, and room for all rows.
pub record Rows (kind : Kind) (known limit : ℕ) (hs ws gs es words : List ℕ) (i at : ℕ) : Type 0 where
  pub few : length hs ≤ most_of kind
  pub table : row_words kind (length es) ≡ row_words kind cells
  pub room : row_words kind 2080 ≤ length words
  pub at_is : at ≡ row_words kind (row_for (length hs - i + 1))
  pub done : RowsFrom kind limit hs ws gs words i
  pub given : RowsTo kind known limit hs ws gs words i

-- At the start none is done, and those of a higher limit are given.
first_row : row_for 1 ≡ 0
unfolding row_for
first_row = refl

module _ (known limit : ℕ) (hs ws gs work : List ℕ) (front i : ℕ) (e : front ≡ min cells (length work)) (l : i ≡ length hs) where
  pub rows_start : (kind : Kind) → length hs ≤ most_of kind → plan_room kind ≤ length work → (limit < known → Memory kind known hs ws gs work)
      → Rows kind known limit hs ws gs (take front work) (drop front work) i 0
  rows_start Apart few room m = record { few = few; table = refl; room = omega arith; at_is = refl; done = tt; given = tt }
  rows_start Nested few room m =
      let z : front ≡ cells = omega arith in
      let a : length hs - i + 1 ≡ 1 = omega arith in
      record {
        few = few;
        table = rw z (length-take-le cells work (omega arith));
        room = omega (arith, length-drop front work);
        at_is = rw (a, first_row) refl;
        done = λ k f h. absurd (omega arith);
        given = λ o k h. rw z (m o k (omega arith) (omega arith));
      }

-- At the end all are done.
pub rows_end : (kind : Kind) (known limit : ℕ) (hs ws gs es words : List ℕ) (i at : ℕ) → i ≡ 0 → Rows kind known limit hs ws gs es words i at → Memory kind limit hs ws gs (es ++ words)
rows_end Apart known limit hs ws gs es words i at z r = tt
rows_end Nested known limit hs ws gs es words i at z r = λ k f h. rw (drop_at es words cells (omega (arith, r.table))) (r.done k (omega arith) h)

-- The row of i is the next one.
module _ {hs ws gs es words : List ℕ} {known limit : ℕ} (i : ℕ) {later at : ℕ} (next : i + 1 ≡ later) (within : later ≤ length hs) where
  at_row : Rows Nested known limit hs ws gs es words later at → at ≡ row_for (length hs - i)
  at_row r = r.at_is ∙ ap row_for (omega (arith, next, within))

  row_ends : (kind : Kind) → Rows kind known limit hs ws gs es words later at → (at + row_words kind (length hs - i) ≤ 2080) × (at + row_words kind (length hs - i) ≤ length words)
  row_ends Apart r = (omega (arith, r.at_is), omega (arith, r.at_is))
  row_ends Nested r =
      let f = row_fits (length hs - i) (omega (arith, r.few)) in
      (omega (arith, at_row r), omega (arith, at_row r, r.room))

  module _ (end : ℕ) where
    given_row : (kind : Kind) → Rows kind known limit hs ws gs es words later at → end ≡ at + row_words kind (length hs - i)
        → RowGiven kind known limit (gap_before gs i) (drop i hs) (drop i ws) (drop i gs) es (between at end words)
    given_row Apart r e = tt
    given_row Nested r e =
        let b = at_row r in
        let l : length (between at end words) ≡ end - at = length-between words at end (omega (arith, e, (row_ends Nested r).1)) in
        (omega (arith, r.table), omega (arith, l, length-drop i hs), λ o. rw (e, b) (r.given o i (omega arith)))

    module _ (fs new : List ℕ) where
      done_row : (kind : Kind) → Rows kind known limit hs ws gs es words later at → end ≡ at + row_words kind (length hs - i) → length fs ≡ length es → length new ≡ end - at
          → RowDone kind limit (gap_before gs i) (drop i hs) (drop i ws) (drop i gs) new → Rows kind known limit hs ws gs fs (put_mid at (end - at) words new) i end
      done_row Apart r e u l d = record { few = r.few; table = refl; room = omega arith; at_is = omega (arith, r.at_is); done = tt; given = tt }
      done_row Nested r e u l d = record {
        few = r.few;
        table = u ∙ r.table;
        room = omega (arith, r.room, same);
        at_is = let z : length hs - i + 1 ≡ suc (length hs - i) = omega arith in rw z (omega (arith, row_next (length hs - i), b));
        done = λ k f h. at_k k h (eq-or-lt_of_le f);
        given = λ o k h. rw (below k h) (r.given o k (omega arith));
      }
        where
          b : at ≡ row_for (length hs - i)
          b = at_row r

          fits : end ≤ length words
          fits = omega (arith, e, (row_ends Nested r).1)

          same : length (put_mid at (end - at) words new) ≡ length words
          same = same_len_mid at (end - at) words new (l ∙ sym (length-between words at end fits))

          here : between (row_for (length hs - i)) (row_for (length hs - i) + (length hs - i)) (put_mid at (end - at) words new) ≡ new
          here = rw (← b, ← e) (between-put_mid at (end - at) words new end (omega (arith, fits, e)) l)

          -- The part of the words for another row.
          other : (k s t : ℕ) → (t ≤ at) ⊎ (end ≤ s) → between s t (put_mid at (end - at) words new) ≡ between s t words
          other k s t (inl h) =
              between_is (put_mid at (end - at) words new) s t ∙ ap (drop s) (take-put_mid_below at (end - at) words new t h (omega (arith, fits, e))) ∙ sym (between_is words s t)
          other k s t (inr h) = ap (take (t - s)) (drop-put_mid at (end - at) words new s (omega (arith, e)) (omega (arith, fits, e)) l)

          behind : (k : ℕ) → i < k → k < length hs → between (row_for (length hs - k)) (row_for (length hs - k) + (length hs - k)) (put_mid at (end - at) words new) ≡ between (row_for (length hs - k)) (row_for (length hs - k) + (length hs - k)) words
          behind k f h = other k _ _ (inl (omega (arith, b, row_apart (length hs - k) (length hs - i) (omega arith))))

          below : (k : ℕ) → k < i → between (row_for (length hs - k)) (row_for (length hs - k) + (length hs - k)) (put_mid at (end - at) words new) ≡ between (row_for (length hs - k)) (row_for (length hs - k) + (length hs - k)) words
          below k h = other k _ _ (inr (omega (arith, b, e, row_apart (length hs - i) (length hs - k) (omega arith))))

          at_k : (k : ℕ) → k < length hs → (i ≡ k) ⊎ (i < k) → RowAt limit hs ws gs (put_mid at (end - at) words new) k
          at_k k h (inl q) = subst (λ (z : ℕ). RowAt limit hs ws gs (put_mid at (end - at) words new) z) q (rw here d)
          at_k k h (inr q) = rw (behind k q h) (r.done k (omega arith) h)

-- The same of a stack.
module _ {kind : Kind} {known limit : ℕ} (s : List Piece) {es words : List ℕ} (i : ℕ) {later at : ℕ} (next : i + 1 ≡ later) (within : later ≤ length s) (r : columns s (Rows kind known limit) es words later at) where
  left : length (heights_in s) ≡ length s
  left = heights_length s

  pub row_within : (at + row_words kind (length s - i) ≤ 2080) × (at + row_words kind (length s - i) ≤ length words)
  row_within = rw left at (row_ends i next (omega (arith, left)) kind r)

  module _ {end : ℕ} (e : end ≡ at + row_words kind (length s - i)) where
    pub row_given : columns (drop i s) (RowGiven kind known limit (gap_before (seams_in s) i)) es (between at end words)
    row_given = simp drop-map at (given_row i next (omega (arith, left)) end kind r (rw left e))

    pub row_done : (fs new : List ℕ) → length fs ≡ length es → length new ≡ end - at → columns (drop i s) (RowDone kind limit (gap_before (seams_in s) i)) new → columns s (Rows kind known limit) fs (put_mid at (end - at) words new) i end
    row_done fs new u l d = done_row i next (omega (arith, left)) end fs new kind r (rw left e) u l (simp drop-map d)
