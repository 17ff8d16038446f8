-- The calls can answer nothing else than the lines say: their promises leave one answer.
use Prim.Native.Nat.{ℕ}
use mathlib.Core.Path.{◌≡◌, sym, ap, ◌∙◌}
use mathlib.Core.List.{List}
use Rattle.terms.specs.declared.Component.{Component}
use Rattle.terms.specs.declared.Kind.{Kind}
use Rattle.terms.specs.Answer.{refusal, result}
use Rattle.terms.specs.Component.{most_of, stack_of}
use Rattle.terms.proofs.Answers.{stack_is, counted, uncounted}
use Rattle.terms.proofs.Lists.{all_sized}
use Rattle.stack.specs.File.{check_of}
use Rattle.stack.proofs.Valid.{valid}
use Rattle.folding.specs.declared.Outline.{Outline}
use Rattle.folding.specs.declared.Placement.{Placement}
use Rattle.folding.specs.Best.{SmallestArea}
use Rattle.fold.specs.Calls.{valid_of, by_height, by_width}
use Rattle.fold.proofs.Checks.{Lent, lent, all_well, refused_alike}
use Rattle.fold_area.specs.Calls.{area_valid_of, by_area}
use Rattle.fold_area.proofs.OneAnswer.{one_of_area}
use Rattle.fold.proofs.OneAnswer.{one_for_height, one_for_width, met_height, met_width, the_best, there_is_none, best_left, none_left, refused_call, valid_file, measures}
use Rattle.fold_table.specs.Calls.{table_valid_of}
use Rattle.fold_table.proofs.Tables as tables
use Rattle.known.specs.Known.{Line, to_height, to_width, smallest_area, table, header, size, lent as lent-line, area_room, table_work, table_room, Holds, Answers, FoldsRefuse, AreaRefuses, TableRefuses, Refuses}

folds_refuse : (kind : Kind) (file : List ℕ) (limit : ℕ) (out work : List ℕ) (k : ℕ) → valid_of kind file limit out work ≡ refusal k → FoldsRefuse kind file limit out work k
folds_refuse kind file limit out work k e = λ out' work' answer.
    (λ t. refused_call (by_height kind limit) out work out' work' answer k _ e t, λ t. refused_call (by_width kind limit) out work out' work' answer k _ e t)

area_refuses : (kind : Kind) (file out work : List ℕ) (k : ℕ) → area_valid_of kind file out work ≡ refusal k → AreaRefuses kind file out work k
area_refuses kind file out work k e = λ out' work' answer t. refused_call (by_area kind) out work out' work' answer k _ e t

table_refuses : (kind : Kind) (file out work : List ℕ) (k : ℕ) → table_valid_of kind file work ≡ refusal k → TableRefuses kind file out work k
table_refuses kind file out work k e = λ out' work' answer t. tables.refused_call kind out work out' work' answer k _ e t

-- A refused file is refused by every call.
refuses : (kind : Kind) (file : List ℕ) (k : ℕ) → check_of kind file ≡ refusal k → Refuses kind file k
refuses kind file k e = record {
  checking = e;
  reading = λ shortest. rw e;
  measuring = λ flat. rw e;
  choosing = λ first second. rw e;
  folding = λ limit out work. folds_refuse kind file limit out work k (rw e);
  smallest = λ out work. area_refuses kind file out work k (rw e);
  listing = λ out work. table_refuses kind file out work k (rw e);
}

-- The components of a file are a stack, which has only one smallest area.
one_area : (kind : Kind) (file out work : List ℕ) (cs : List Component) → area_valid_of kind file out work ≡ result cs → (ps qs : List Placement) (o p : Outline)
    → SmallestArea kind cs ps o → SmallestArea kind cs qs p → o ≡ p
one_area kind file out work cs v =
    let s = (valid kind file cs (valid_file kind file 1 out work cs v).0).stack in
    one_of_area kind cs (all_sized cs s.sizes) s.some

pub answers : (l : Line) → Holds l → Answers l
answers (to_height kind cs limit (refusal k)) h = λ file out work out' work' answer v t.
    let q = there_is_none (by_height kind limit) cs (one_for_height kind cs limit) (met_height kind cs limit) out work out' work' answer _ v t h.1 in
    (q ∙ ap refusal (sym h.0), none_left (by_height kind limit) cs (one_for_height kind cs limit) (met_height kind cs limit) out work out' work' answer _ v t 9 q)
answers (to_height kind cs limit (result o)) h = λ file out work out' work' answer v t.
    let q = the_best (by_height kind limit) cs (one_for_height kind cs limit) (met_height kind cs limit) out work out' work' answer _ v t h.0 o h.1 in
    let s = best_left (by_height kind limit) cs (one_for_height kind cs limit) (met_height kind cs limit) out work out' work' answer _ v t o q in
    (q, (measures kind file limit out work cs v out' o s.2 s.0.is_legal s.0.has, s.1))
answers (to_width kind cs limit (refusal k)) h = λ file out work out' work' answer v t.
    let q = there_is_none (by_width kind limit) cs (one_for_width kind cs limit) (met_width kind cs limit) out work out' work' answer _ v t h.1 in
    (q ∙ ap refusal (sym h.0), none_left (by_width kind limit) cs (one_for_width kind cs limit) (met_width kind cs limit) out work out' work' answer _ v t 9 q)
answers (to_width kind cs limit (result o)) h = λ file out work out' work' answer v t.
    let q = the_best (by_width kind limit) cs (one_for_width kind cs limit) (met_width kind cs limit) out work out' work' answer _ v t h.0 o h.1 in
    let s = best_left (by_width kind limit) cs (one_for_width kind cs limit) (met_width kind cs limit) out work out' work' answer _ v t o q in
    (q, (measures kind file limit out work cs v out' o s.2 s.0.is_legal s.0.has, s.1))
answers (smallest_area kind cs o) h = λ file out work out' work' answer v t.
    let one = one_area kind file out work cs v in
    let q = the_best (by_area kind) cs one (λ ps p b u. u) out work out' work' answer _ v t h.0 o h.1 in
    let s = best_left (by_area kind) cs one (λ ps p b u. u) out work out' work' answer _ v t o q in
    (q, (measures kind file 1 out work cs v out' o s.2 s.0.is_legal s.0.has, s.1))
answers (table kind cs os) h = λ file out work out' work' answer v t. tables.the_table kind cs os h out work out' work' answer _ v t
answers (header file k) h = λ kind. refuses kind file k (rw h)
answers (size kind cs (refusal k)) h = λ file b. refuses kind file k (rw (b.0, b.1) (uncounted (stack_of (most_of kind) cs) k h))
answers (size kind cs (result n)) h = λ file b.
    let s = counted (stack_of (most_of kind) cs) n h in
    rw (b.0, b.1) (s.1 ∙ ap result (sym (stack_is (most_of kind) cs s.0 s.1).0))
answers (lent-line limit o w (refusal k)) h = λ kind file out work cs e n a b.
    folds_refuse kind file limit out work k (rw (e, n, a, b) (refused_alike limit o w 1 1 cs k h))
answers (lent-line limit o w (result m)) h = λ kind file out work cs e n a b.
    let l : Lent limit o w 1 = lent limit o w 1 1 m h in
    rw (e, n, a, b) (sym (all_well limit o w 1 cs l.low l.high l.room l.work_room))
-- With a limit of 1 a fold call checks what is lent alone, as the smallest area does; with room for one placement the work
-- buffer alone, as the table does.
answers (area_room o w (refusal k)) h = λ kind file out work cs e n a b. area_refuses kind file out work k (rw (e, n, a, b) (refused_alike 1 o w 1 1 cs k h))
answers (area_room o w (result m)) h = λ kind file out work cs e n a b.
    let l : Lent 1 o w 1 = lent 1 o w 1 1 m h in
    rw (e, n, a, b) (sym (all_well 1 o w 1 cs l.low l.high l.room l.work_room))
answers (table_work w (refusal k)) h = λ kind file out work cs e b. table_refuses kind file out work k (rw (e, b) (refused_alike 1 3 w 1 1 cs k h))
answers (table_work w (result m)) h = λ kind file work cs e b.
    let l : Lent 1 3 w 1 = lent 1 3 w 1 1 m h in
    rw (e, b) (sym (all_well 1 3 w 1 cs l.low l.high l.room l.work_room))
answers (table_room n os a) h = λ kind cs file out work out' work' answer l v m t. (tables.the_table kind cs os l out work out' work' answer _ v t).0 ∙ rw m h
