-- The round trip: the file that is written reads to the components, and no other file of version 2 does.
use Prim.Native.Nat.{ℕ, zero, suc, ◌+◌, ◌*◌, ◌<◌, ◌≤◌}
use mathlib.Core.Path.{◌≡◌, refl, ap, sym, ◌∙◌}
use mathlib.Core.List.{List, [], ◌∷◌, map}
use mathlib.Core.Bool.{Bool, true, false, ◌&&◌}
use native.Mathlib.Omega.{arith}
use lib.ListN.{length, drop, get_or}
use lib.Seq.{get_or-drop, ext_get_or}
use lib.Dec.{eqb, leb}
use borrow.Author.Tests.{eqb-true, leb-true, le-ltb, eq-eqb}
use Rattle.terms.specs.declared.Component.{Component}
use Rattle.terms.specs.declared.Kind.{Kind}
use Rattle.terms.specs.declared.Kind.TheVariants.{Apart}
use Rattle.terms.specs.Answer.{result}
use Rattle.stack_write.specs.Call.{entry_at, entries_of, OneFile}
use Rattle.terms.specs.Component.{good_size, good_gap, good_mark, ends, every, most_of, stack_of, tabulate}
use Rattle.stack.specs.File.{Bytes, word_at, version_of, component_from, component_at, components_of, header_of, check_of}
use Rattle.stack_write.specs.Inner.{Lists}
use Rattle.stack_write.specs.File.{low, high, bytes_of, file_of}
use Rattle.terms.proofs.Tabulate.{tabulate-length, tabulate_at, tabulate_front, tabulate_same, tabulate-map}
use Rattle.terms.proofs.Answers.{stack_is}
use Rattle.terms.proofs.Bools.{both}
use Rattle.terms.proofs.Lists.{sized}
use Rattle.stack.proofs.Valid.{Header, valid}

pub bytes-length : (cs : List Component) → length (bytes_of cs) ≡ 8 * length cs
unfolding bytes_of
bytes-length [] = refl
bytes-length (c ∷ cs) = omega (arith, bytes-length cs)

-- The bytes behind the header, read by themselves.
abbrev body_at : List ℕ → ℕ → Component
body_at body i = component_from 2 body (8 * i)

shift : (k : ℕ) (file : List ℕ) (at : ℕ) → component_from 2 file (k + at) ≡ component_from 2 (drop k file) at
shift k file at =
    let e0 : (j : ℕ) → get_or file (k + at + j) 0 ≡ get_or (drop k file) (at + j) 0 = λ j. rw (get_or-drop k file (at + j) 0) (ap (λ (i : ℕ). get_or file i 0) (omega arith)) in
    let e1 : (j : ℕ) → get_or file (k + at + j + 1) 0 ≡ get_or (drop k file) (at + j + 1) 0 = λ j. rw (get_or-drop k file (at + j + 1) 0) (ap (λ (i : ℕ). get_or file i 0) (omega arith)) in
    rw (get_or-drop k file at 0, get_or-drop k file (at + 1) 0, e0 2, e1 2, e0 4, e1 4, e0 6, e1 6)
    (ap (λ (i : ℕ). record { height = record { 0 = get_or file (k + at) 0 + 256 * get_or file i 0 }; width = (component_from 2 (drop k file) at).width; gap = (component_from 2 (drop k file) at).gap; mark = (component_from 2 (drop k file) at).mark }) (omega arith))

front : (body : List ℕ) (n : ℕ) → tabulate (body_at body) (suc n) ≡ component_from 2 body 0 ∷ tabulate (body_at (drop 8 body)) n
front body n =
    tabulate_front (body_at body) n
    ∙ ap (λ (l : List Component). component_from 2 body 0 ∷ l)
    (tabulate_same (λ i. body_at body (suc i)) (body_at (drop 8 body)) n
    (λ i l. let e : 8 * suc i ≡ 8 + 8 * i = omega arith in rw e (shift 8 body (8 * i))))

behind : (file : List ℕ) (n : ℕ) → version_of file ≡ 2 → components_of file n ≡ tabulate (body_at (drop 7 file)) n
behind file n e = tabulate_same (component_at file) (body_at (drop 7 file)) n (λ i l. rw e (shift 7 file (8 * i)))

-- A file from its components.
bytes_drop : (k : ℕ) (file : List ℕ) → Bytes file → Bytes (drop k file)
bytes_drop k file h i = rw (get_or-drop k file i 0) (h (k + i))

low_of : (a b : ℕ) → a < 256 → low (a + 256 * b) ≡ a
low_of a b h = omega arith

high_of : (a b : ℕ) → a < 256 → b < 256 → high (a + 256 * b) ≡ b
high_of a b h g = omega arith

body_back : (body : List ℕ) (n : ℕ) → length body ≡ 8 * n → Bytes body → bytes_of (tabulate (body_at body) n) ≡ body
unfolding bytes_of tabulate
body_back [] zero e h = refl
body_back (x ∷ body) zero e h = absurd (omega arith)
body_back [] (suc n) e h = absurd (omega arith)
body_back (a ∷ []) (suc n) e h = absurd (omega arith)
body_back (a ∷ b ∷ []) (suc n) e h = absurd (omega arith)
body_back (a ∷ b ∷ c ∷ []) (suc n) e h = absurd (omega arith)
body_back (a ∷ b ∷ c ∷ d ∷ []) (suc n) e h = absurd (omega arith)
body_back (a ∷ b ∷ c ∷ d ∷ x ∷ []) (suc n) e h = absurd (omega arith)
body_back (a ∷ b ∷ c ∷ d ∷ x ∷ y ∷ []) (suc n) e h = absurd (omega arith)
body_back (a ∷ b ∷ c ∷ d ∷ x ∷ y ∷ s ∷ []) (suc n) e h = absurd (omega arith)
body_back (a ∷ b ∷ c ∷ d ∷ x ∷ y ∷ s ∷ t ∷ body) (suc n) e h =
    let l = a ∷ b ∷ c ∷ d ∷ x ∷ y ∷ s ∷ t ∷ body in
    rw (
      front l n,
      low_of a b (h 0),
      high_of a b (h 0) (h 1),
      low_of c d (h 2),
      high_of c d (h 2) (h 3),
      low_of x y (h 4),
      high_of x y (h 4) (h 5),
      low_of s t (h 6),
      high_of s t (h 6) (h 7),
      body_back body n (omega arith) (bytes_drop 8 l h),
    )

file_back : (file : List ℕ) (cs : List Component) → version_of file ≡ 2 → Header file (length cs) → components_of file (length cs) ≡ cs → Bytes file → file_of cs ≡ file
file_back [] cs o v k h = absurd (omega (arith, v.size))
file_back (a ∷ []) cs o v k h = absurd (omega (arith, v.size))
file_back (a ∷ b ∷ []) cs o v k h = absurd (omega (arith, v.size))
file_back (a ∷ b ∷ c ∷ []) cs o v k h = absurd (omega (arith, v.size))
file_back (a ∷ b ∷ c ∷ d ∷ []) cs o v k h = absurd (omega (arith, v.size))
file_back (a ∷ b ∷ c ∷ d ∷ e ∷ []) cs o v k h = absurd (omega (arith, v.size))
file_back (a ∷ b ∷ c ∷ d ∷ e ∷ x ∷ []) cs o v k h = absurd (omega (arith, v.size))
file_back (a ∷ b ∷ c ∷ d ∷ e ∷ x ∷ y ∷ body) cs o v k h =
    let l = a ∷ b ∷ c ∷ d ∷ e ∷ x ∷ y ∷ body in
    let s = both (eqb a 83 && eqb b 84) (eqb c 75) v.letters_stand in
    let t = both (eqb a 83) (eqb b 84) s.0 in
    let e0 : 83 ≡ a = sym (eqb-true a 83 t.0) in
    let e1 : 84 ≡ b = sym (eqb-true b 84 t.1) in
    let e2 : 75 ≡ c = sym (eqb-true c 75 s.1) in
    let e3 : 2 ≡ d = omega (arith, o, h 3, h 4) in
    let e4 : 0 ≡ e = omega (arith, o, h 3, h 4) in
    let e5 : low (length cs) ≡ x = ap low (sym v.count) ∙ low_of x y (h 5) in
    let e6 : high (length cs) ≡ y = ap high (sym v.count) ∙ high_of x y (h 5) (h 6) in
    let e7 : bytes_of cs ≡ body = ap bytes_of (sym k) ∙ ap bytes_of (behind l (length cs) o) ∙ body_back body (length cs) (omega (arith, rw o at v.size)) (bytes_drop 7 l h) in
    cc

-- A valid file of version 2 is the one that its components write to.
file_of_read : (kind : Kind) (file : List ℕ) (cs : List Component) → Bytes file → version_of file ≡ 2 → check_of kind file ≡ result cs → file ≡ file_of cs
file_of_read kind file cs h o e = let v = valid kind file cs e in sym (file_back file cs o v.header v.components h)

-- The components from a file that was written.
word_of : (x : ℕ) → x < 65536 → low x + 256 * high x ≡ x
word_of x h = omega arith

-- Each number of the components fits 16 bits.
record Words (c : Component) : Type 0 where
  height_fits : c.height.0 < 65536
  width_fits : c.width.0 < 65536
  gap_fits : c.gap.0 < 65536
  mark_fits : c.mark < 65536

abbrev AllWords : List Component → Type 0
AllWords [] = Unit {0}
AllWords (c ∷ cs) = Words c × AllWords cs

read_body : (cs : List Component) → AllWords cs → tabulate (body_at (bytes_of cs)) (length cs) ≡ cs
unfolding bytes_of tabulate
read_body [] w = refl
read_body (c ∷ cs) w =
    front (bytes_of (c ∷ cs)) (length cs)
    ∙ rw (word_of c.height.0 w.0.height_fits, word_of c.width.0 w.0.width_fits, word_of c.gap.0 w.0.gap_fits, word_of c.mark w.0.mark_fits, read_body cs w.1)

small : (x : ℕ) → leb x 4000 ≡ true → x < 65536
small x e = omega (arith, leb-true x 4000 e)

words : (cs : List Component) → every good_size cs ≡ true → every good_gap cs ≡ true → every good_mark cs ≡ true → AllWords cs
unfolding every
words [] s g m = tt
words (c ∷ cs) s g m =
    let a = both (good_size c (ends cs)) (every good_size cs) s in
    let b = both (good_gap c (ends cs)) (every good_gap cs) g in
    let d = both (good_mark c (ends cs)) (every good_mark cs) m in
    let z = sized c (ends cs) a.0 in
    (record { height_fits = omega (arith, z.height_most); width_fits = omega (arith, z.width_most); gap_fits = gap_small c (ends cs) b.0; mark_fits = mark_small c (ends cs) d.0 }, words cs a.1 b.1 d.1)
  where
    gap_small : (c : Component) (last : Bool) → good_gap c last ≡ true → c.gap.0 < 65536
    gap_small c true e = omega (arith, eqb-true c.gap.0 0 e)
    gap_small c false e = small c.gap.0 e

    mark_small : (c : Component) (last : Bool) → good_mark c last ≡ true → c.mark < 65536
    mark_small c true e = omega (arith, eqb-true c.mark 0 e)
    mark_small c false e = omega (arith, leb-true c.mark 1 e)

pub file_length : (cs : List Component) → length (file_of cs) ≡ 7 + 8 * length cs
file_length cs = omega (arith, bytes-length cs)

header_of_lem : (cs : List Component) → length cs < 65536 → header_of (file_of cs) ≡ result (length cs)
unfolding header_of
header_of_lem cs h =
    let n : length (file_of cs) ≡ 7 + 8 * length cs = file_length cs in
    let w : word_at (file_of cs) 5 ≡ length cs = word_of (length cs) h in
    rw (le-ltb (length (file_of cs)) 7 (omega arith), w, eq-eqb (length (file_of cs)) (7 + 8 * length cs) n)

read_of_write : (most : ℕ) (cs : List Component) → most ≤ 256 → stack_of most cs ≡ result cs → (kind : Kind) → check_of kind (file_of cs) ≡ stack_of (most_of kind) cs
read_of_write most cs h e kind =
    let s = (stack_is most cs cs e).1 in
    rw (header_of_lem cs (omega (arith, s.few)), behind (file_of cs) (length cs) refl, read_body cs (words cs s.sizes s.gaps s.marks))

-- A column of the components that lists hold is the list.
tabulate_list : (l : List ℕ) → tabulate (λ i. get_or l i 0) (length l) ≡ l
tabulate_list l =
    ext_get_or 0 (tabulate (λ i. get_or l i 0) (length l)) l (tabulate-length (λ i. get_or l i 0) (length l))
    (λ i h. tabulate_at (λ j. get_or l j 0) (length l) i 0 (omega (arith, tabulate-length (λ j. get_or l j 0) (length l))))

column_of : (part : Component → ℕ) (g : ℕ → Component) (l : List ℕ) (cs : List Component) → ((i : ℕ) → part (g i) ≡ get_or l i 0) → tabulate g (length l) ≡ cs → map part cs ≡ l
column_of part g l cs e d =
    rw (← d) (tabulate-map part g (length l))
    ∙ tabulate_same (λ i. part (g i)) (λ i. get_or l i 0) (length l) (λ i h. e i)
    ∙ tabulate_list l

module _ (heights widths gaps marks : List ℕ) (s : Lists heights widths gaps marks) where
  abbrev cs : List Component
  cs = entries_of heights widths gaps marks

  pub one_file : stack_of (most_of Apart) cs ≡ result cs → OneFile heights widths gaps marks cs (file_of cs)
  one_file e = record {
    version = refl;
    reads = read_of_write (most_of Apart) cs (omega arith) e;
    heights_back = column_of (λ c. c.height.0) (entry_at heights widths gaps marks) heights cs (λ i. refl) refl;
    widths_back = column_of (λ c. c.width.0) (entry_at heights widths gaps marks) widths cs (λ i. refl) (rw s.widths_long refl);
    gaps_back = column_of (λ c. c.gap.0) (entry_at heights widths gaps marks) gaps cs (λ i. refl) (rw s.gaps_long refl);
    marks_back = column_of (λ c. c.mark) (entry_at heights widths gaps marks) marks cs (λ i. refl) (rw s.marks_long refl);
    only = λ kind other b o k. file_of_read kind other cs b o k;
  }
