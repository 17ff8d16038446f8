-- Counting the outlines and writing them.
use Prim.Native.Nat.{ℕ, zero, suc, ◌+◌, ◌-◌, ◌*◌, ◌/◌, ◌≤◌, ◌<◌}
use mathlib.Core.Path.{◌≡◌, refl, sym, ap, ◌∙◌}
use mathlib.Core.List.{List, [], ◌∷◌, ◌++◌, append-nil, append_assoc}
use native.Mathlib.Omega.{arith}
use lib.ListN.{length, take, drop, take-append-drop}
use lib.Seq.{drop-drop}
use lib.Dec.{ltb}
use borrow.Author.Tests.{lt-ltb, le-ltb, ltb-false}
use Rattle.std.specs.Prelude.{Result, Ok}
use Rattle.terms.specs.declared.Component.{Component}
use Rattle.terms.specs.declared.Kind.{Kind}
use Rattle.terms.specs.declared.Piece.{Piece}
use Rattle.terms.specs.Answer.{Answer, refusal, result, answer_of}
use Rattle.terms.specs.declared.Refusal.{Refusal}
use Rattle.terms.proofs.Answers.{passed}
use Rattle.terms.specs.Component.{width_sum}
use Rattle.terms.specs.Pieces.{columns, stack_in}
use Rattle.terms.proofs.Pieces.{heights_length}
use Rattle.stack.proofs.Reading.{Held, components_held}
use Rattle.folding.specs.declared.Outline.{Outline}
use Rattle.folding.specs.Best.{Listing}
use Rattle.folding.proofs.Listings.{one_listing, few_listed}
use Rattle.group.specs.Group.{none}
use Rattle.model.specs.Outlines.{outlines_by}
use Rattle.model.proofs.Best.{layout_high}
use Rattle.model.proofs.Fuel.{outlines_next, outlines_done, outlines-length}
use Rattle.layout.specs.Layout.{layout_of}
use Rattle.layout.proofs.Foldings.{search}
use Rattle.layout.proofs.Groups.{Stacked}
use Rattle.layout.proofs.Table.{table}
use Rattle.plan.specs.Asks.{Plannable, best_at}
use Rattle.fold.specs.Calls.{work_check}
use Rattle.fold.proofs.Held.{read}
use Rattle.fold_table.specs.Calls.{table_valid_of, pairs_of, table_answer, table_into, Tabled, TableAnswered}
use Rattle.fold_table.specs.Inner.{outlines_to, all_outlines, PairKept, GatheredTo, Gathered}

drop_on : (old new : List ℕ) (n : ℕ) → drop (2 * n) new ≡ drop (2 * n) old → drop (2 * (n + 1)) new ≡ drop (2 * (n + 1)) old
drop_on old new n e =
    let z : 2 * (n + 1) ≡ 2 * n + 2 = omega arith in
    rw z (sym (drop-drop 2 (2 * n) new) ∙ ap (λ (l : List ℕ). drop 2 l) e ∙ drop-drop 2 (2 * n) old)

none_to : (kind : Kind) (cs : List Component) (limit : ℕ) → limit ≤ 0 → outlines_to kind cs limit ≡ []
unfolding outlines_by
none_to kind cs zero h = refl
none_to kind cs (suc limit) h = absurd (omega arith)

-- What one more outline means for the count, for the limit behind it and for the buffer.
pub record Counted (kind : Kind) (cs : List Component) (old new : List ℕ) (limit n : ℕ) (o : Outline) : Type 0 where
  pub high : 0 < o.height.0
  pub falls : o.height.0 ≤ limit
  pub few : n + 1 ≤ 2000000
  pub more : {put : List ℕ} → PairKept n o new put → length put ≡ length new → GatheredTo kind cs old put (o.height.0 - 1) (n + 1)

module _ {kind : Kind} {cs : List Component} (s : Stacked cs) {old new : List ℕ} {limit n : ℕ} (g : GatheredTo kind cs old new limit n) where
  -- No outline is left.
  gathered : outlines_to kind cs limit ≡ [] → Gathered kind cs old new n
  unfolding pairs_of
  gathered e = record {
    all = omega (arith, g.rest, ap length e);
    front = λ h. sym (append-nil (take (2 * n) new)) ∙ sym (ap (λ (os : List Outline). take (2 * n) new ++ pairs_of os) e) ∙ g.front h;
    beyond = g.beyond;
  }

  pub all_counted : limit ≤ 0 → Gathered kind cs old new n
  all_counted h = gathered (none_to kind cs limit h)

  pub no_more : none ≤ (layout_of kind limit 0 cs).width → Gathered kind cs old new n
  no_more h = gathered (outlines_done (search kind cs s) limit h)

  module _ {o : Outline} (m : (o ≡ best_at kind limit cs) × ((layout_of kind limit 0 cs).width < none)) where
    height_is : o.height.0 ≡ (layout_of kind limit 0 cs).height
    height_is = ap (λ (p : Outline). p.height.0) m.0

    height_falls : o.height.0 ≤ limit
    height_falls = omega (arith, height_is, (search kind cs s).keeps limit m.1)

    next : outlines_to kind cs limit ≡ o ∷ outlines_to kind cs (o.height.0 - 1)
    next = rw m.0 (outlines_next (search kind cs s) limit m.1)

    kept : (put : List ℕ) → PairKept n o new put → length put ≡ length new → GatheredTo kind cs old put (o.height.0 - 1) (n + 1)
    unfolding pairs_of
    kept put k l = record {
      most = omega (arith, height_falls, g.most);
      rest = omega (arith, g.rest, ap length next);
      front = λ h.
          rw (k.put (omega arith))
          (append_assoc (take (2 * n) new) (o.width.0 ∷ o.height.0 ∷ []) (pairs_of (outlines_to kind cs (o.height.0 - 1)))
          ∙ sym (ap (λ (os : List Outline). take (2 * n) new ++ pairs_of os) next) ∙ g.front (omega arith));
      beyond = k.beyond ∙ drop_on old new n g.beyond;
    }

    pub counted : Counted kind cs old new limit n o
    counted = record {
      high = omega (arith, height_is, layout_high (search kind cs s) limit m.1);
      falls = height_falls;
      few = omega (arith, g.rest, ap length next, outlines-length (λ limit. layout_of kind limit 0 cs) 2000000 2000000);
      more = λ {put} k l. kept put k l;
    }

module _ (kind : Kind) (cs : List Component) (s : Stacked cs) where
  -- The two ways in which the table ends.
  module _ (out out' : List ℕ) (answer : Answer ℕ) where
    tabled_as : answer ≡ table_answer (length out) (all_outlines kind cs) → out' ≡ table_into (all_outlines kind cs) out → Tabled kind cs out out' answer
    tabled_as a h =
        let l = table kind cs s in
        record {
          listed = all_outlines kind cs;
          listing = l;
          only = λ other m. one_listing kind cs other (all_outlines kind cs) m l;
          few = few_listed kind cs (all_outlines kind cs) s.good.sized s.some l;
          answers = a;
          holds = h;
        }

  module _ (out : List ℕ) (n : ℕ) (e : n ≡ length (all_outlines kind cs)) where
    pub too_long : length out / 2 < n → Tabled kind cs out out (refusal 8)
    too_long h = tabled_as out out (refusal 8) (rw (← e, lt-ltb (length out / 2) n h)) (rw (← e, lt-ltb (length out / 2) n h))

    -- Copied from where they waited.
    pub all_listed : (out' : List ℕ) → n ≤ length out / 2 → out' ≡ pairs_of (all_outlines kind cs) ++ drop (2 * n) out → Tabled kind cs out out' (result n)
    all_listed out' h p = tabled_as out out' (result n) (rw (← e, le-ltb (length out / 2) n h)) (p ∙ rw (← e, le-ltb (length out / 2) n h))

    -- Gathered in that buffer itself.
    pub all_gathered : {out' : List ℕ} {m : ℕ} → n ≤ length out / 2 → length out' ≡ length out → Gathered kind cs out out' m → Tabled kind cs out out' (result n)
    all_gathered {out'} {m} h l g =
        let k : n ≡ m = omega (arith, e, g.all) in
        all_listed out' h (sym (take-append-drop (2 * m) out') ∙ rw (k, g.front (omega arith), g.beyond))

-- What follows where the check of the work buffer passes.
pub work_held : (work : ℕ) {r : Result (Unit {0}) Refusal} → answer_of r ≡ work_check work tt → r ≡ Ok tt → 8192 ≤ work
work_held work f o = ltb-false _ _ (passed (ltb work 8192) 8 (result tt) tt (sym f ∙ ap answer_of o)).0

-- The calls' answers.
module _ (kind : Kind) (out work : List ℕ) where
  pub tabled : (out' work' : List ℕ) (answer : Answer ℕ) (cs : List Component) → 8192 ≤ length work → Tabled kind cs out out' answer → TableAnswered kind out work out' work' answer (work_check (length work) cs)
  tabled out' work' answer cs h t = rw (le-ltb (length work) 8192 h) t

  pub of_file : {file : List ℕ} {s : List Piece} (h : Held kind file s) (out' work' : List ℕ) (answer : Answer ℕ)
      → TableAnswered kind out work out' work' answer (work_check (length work) (stack_in s)) → TableAnswered kind out work out' work' answer (table_valid_of kind file work)
  of_file h out' work' answer a = rw h.checked (rw (components_held h) at a)

-- The stack that was read can be planned.
pub list_asks : {kind : Kind} {file : List ℕ} {s : List Piece} {work : List ℕ} → Held kind file s → 8192 ≤ length work → columns s (Plannable kind) work
list_asks {s = s} h w =
    let r = read h in
    record { lists = r.lists; some = omega (arith, heights_length s, r.some); free = r.free; room = w }

-- A call that its checks refuse answers so, and leaves what was lent as it was.
pub refused_call : (kind : Kind) (out work out' work' : List ℕ) (answer : Answer ℕ) (k : ℕ) (valid : Answer (List Component)) → valid ≡ refusal k → TableAnswered kind out work out' work' answer valid
    → (answer ≡ refusal k) × (out' ≡ out) × (work' ≡ work)
refused_call kind out work out' work' answer k valid e t = rw e at t

-- A known table leaves the call no choice.
module _ (kind : Kind) (cs : List Component) (os : List Outline) (l : Listing kind cs os) (out work out' work' : List ℕ) (answer : Answer ℕ) where
  -- What the call answers, what it writes, and that a buffer for as many pairs as the widths add up to is long enough.
  abbrev Known : Type 0
  Known = (answer ≡ table_answer (length out) os) × (out' ≡ table_into os out) × (2 * width_sum cs ≤ length out → answer ≡ result (length os))

  tabled_known : Tabled kind cs out out' answer → Known
  tabled_known t =
      let e : os ≡ t.listed = t.only os l in
      let few : length os ≤ width_sum cs = rw e t.few in
      let a : answer ≡ table_answer (length out) os = rw e t.answers in
      let h : out' ≡ table_into os out = rw e t.holds in
      (a, h, λ room. a ∙ rw (le-ltb (length out / 2) (length os) (omega arith)))

  pub the_table : (valid : Answer (List Component)) → valid ≡ result cs → TableAnswered kind out work out' work' answer valid → Known
  the_table valid e t = tabled_known (rw e at t)
