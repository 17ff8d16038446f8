-- The known stacks, proved: each line by computation through the layout's definitions and by the theorems on them.
use Prim.Native.Nat.{ℕ, ◌-◌, ◌≤◌, ◌<◌}
use mathlib.Core.Path.{◌≡◌, refl, sym, ap, subst}
use mathlib.Core.List.{List, [], ◌∷◌}
use mathlib.Core.Bool.{Bool, true, false, ◌&&◌}
use mathlib.Core.Logic.{inl, inr}
use native.Mathlib.Omega.{arith}
use lib.Dec.{leb, ltb}
use borrow.Author.Tests.{ltb-true, ltb-false, leb-true}
use Rattle.terms.specs.declared.Component.{Component}
use Rattle.terms.specs.declared.Kind.{Kind}
use Rattle.terms.specs.Answer.{Answer, refusal, result}
use Rattle.terms.specs.Component.{most_of, stack_of, count_of, every}
use Rattle.terms.proofs.Answers.{stack_is, most_256, result_same}
use Rattle.terms.proofs.Bools.{both}
use Rattle.terms.proofs.Lists.{all_sized}
use Rattle.stack.specs.File.{header_of}
use Rattle.folding.specs.declared.Outline.{Outline}
use Rattle.folding.specs.declared.Placement.{Placement}
use Rattle.fold.specs.Calls.{work_check, room_checks, fold_checks}
use Rattle.fold_table.specs.Calls.{table_answer}
use Rattle.folding.specs.Best.{Among, Larger, BestForHeight, BestForWidth, SmallestArea, Listing}
use Rattle.model.specs.Groups.{gap_behind}
use Rattle.model.specs.Layout.{scan_by, layouts_by}
use Rattle.model.specs.Outlines.{outlines_by}
use Rattle.model.proofs.Best.{Below, unmeetable_height, unmeetable_width}
use Rattle.model.specs.Area.{larger}
use Rattle.model.proofs.Area.{larger_true, among_unbeaten}
use Rattle.group.specs.Rows.{tall, rows}
use Rattle.group.specs.Group.{none, widest, may_stand, ways, lowest, least_height_by, first_from, least_width_by}
use Rattle.layout.specs.Layout.{Layout, layout_of}
use Rattle.layout.specs.Table.{outline, outlines}
use Rattle.layout.proofs.Bounds.{all_gaps}
use Rattle.layout.proofs.Groups.{Stacked}
use Rattle.layout.proofs.Marks.{stack_free}
use Rattle.layout.proofs.Foldings.{search}
use Rattle.layout.proofs.Best.{reach, best_height, best_width}
use Rattle.layout.proofs.Table as tables
use Rattle.known.proofs.Answering.{answers}
use Rattle.known.specs.Known.{Line, to_height, to_width, smallest_area, table, header, size, lent, area_room, table_work, table_room, Holds, AllHold, units, lines}

-- What the layout of a stack answers for a height.
abbrev answer_of : Bool → Layout → Answer Outline
answer_of true b = result (outline b.width b.height)
answer_of false b = refusal 9

abbrev found : Kind → ℕ → List Component → Answer Outline
found kind limit cs = answer_of (ltb (layout_of kind limit 0 cs).width none) (layout_of kind limit 0 cs)

-- No outline of a list is smaller, or as small and narrower.
abbrev all_larger : Outline → List Outline → Bool
all_larger o [] = true
all_larger o (p ∷ os) = larger o p && all_larger o os

-- A line by computation: the list of components is a stack, and the layouts answer as it says.
abbrev IsStack : Kind → List Component → Type 0
IsStack kind cs = stack_of (most_of kind) cs ≡ result cs

abbrev Computed : Line → Type 0
Computed (to_height kind cs limit a) = IsStack kind cs × (found kind limit cs ≡ a)
Computed (to_width kind cs limit (refusal k)) = IsStack kind cs × (k ≡ 9) × (ltb limit (layout_of kind 2000000 0 cs).width ≡ true)
Computed (to_width kind cs limit (result o)) =
    IsStack kind cs × (found kind o.height.0 cs ≡ result o) × (leb o.width.0 limit ≡ true) × (ltb limit (layout_of kind (o.height.0 - 1) 0 cs).width ≡ true)
Computed (smallest_area kind cs o) = IsStack kind cs × (found kind o.height.0 cs ≡ result o) × (all_larger o (outlines kind cs 2000000 2000000) ≡ true)
Computed (table kind cs os) = IsStack kind cs × (outlines kind cs 2000000 2000000 ≡ os)
Computed (header file k) = header_of file ≡ refusal k
Computed (size kind cs a) = count_of (stack_of (most_of kind) cs) ≡ a
Computed (lent limit out work a) = fold_checks limit out work 1 1 ≡ a
Computed (area_room out work a) = room_checks out work 1 1 ≡ a
Computed (table_work n a) = work_check n 1 ≡ a
Computed (table_room n os a) = table_answer n os ≡ a

abbrev AllComputed : List Line → Type 0
AllComputed [] = Unit {0}
AllComputed (l ∷ ls) = Computed l × AllComputed ls

computed : AllComputed lines
unfolding lines header_of tall rows gap_behind widest may_stand ways lowest least_height_by first_from least_width_by scan_by layouts_by outlines_by stack_of every units
computed =
    ((refl, refl), ((refl, refl), ((refl, refl), ((refl, refl), ((refl, refl, refl), ((refl, refl, refl), ((refl, refl), ((refl, refl, refl, refl), ((refl, refl), ((refl, refl), ((refl, refl), ((refl, refl), ((refl, refl), ((refl, refl, refl, refl), ((refl, refl), ((refl, refl), ((refl, refl), ((refl, refl), ((refl, refl), ((refl, refl), ((refl, refl), ((refl, refl), ((refl, refl), ((refl, refl), ((refl, refl, refl, refl), ((refl, refl), ((refl, refl), ((refl, refl), ((refl, refl), ((refl, refl), ((refl, refl), ((refl, refl), ((refl, refl), ((refl, refl), ((refl, refl), ((refl, refl), ((refl, refl), ((refl, refl), ((refl, refl), ((refl, refl, refl), ((refl, refl, refl), ((refl, refl, refl), ((refl, refl, refl), ((refl, refl, refl), ((refl, refl, refl), ((refl, refl, refl), ((refl, refl, refl), ((refl, refl, refl), ((refl, refl, refl), ((refl, refl, refl), ((refl, refl, refl), ((refl, refl, refl), ((refl, refl, refl), ((refl, refl, refl), ((refl, refl, refl), (refl, (refl, (refl, (refl, (refl, (refl, (refl, (refl, (refl, (refl, (refl, (refl, (refl, (refl, (refl, (refl, (refl, (refl, (refl, (refl, (refl, (refl, (refl, (refl, (refl, (refl, (refl, (refl, (refl, (refl, (refl, (refl, (refl, (refl, (refl, (refl, (refl, (refl, (refl, (refl, (refl, (refl, (refl, (refl, (refl, (refl, tt)))))))))))))))))))))))))))))))))))))))))))))))))))))))))))))))))))))))))))))))))))))))))))))))))))))

-- What a stack's check says.
stacked : (kind : Kind) (cs : List Component) → IsStack kind cs → Stacked cs
stacked kind cs e =
    let s = (stack_is (most_of kind) cs cs e).1 in
    record { some = s.some; good = record { few = omega (arith, s.few, most_256 kind); sized = all_sized cs s.sizes; gapped = all_gaps cs s.gaps }; free = stack_free cs s.marks }

met_is : (t : Bool) (b : Layout) (o : Outline) → ltb b.width none ≡ t → answer_of t b ≡ result o → (b.width < none) × (outline b.width b.height ≡ o)
met_is true b o t q = (ltb-true _ _ t, result_same q)
met_is false b o t q = let z : ◌≡◌ {A = ℕ} 0 1 = cc in absurd (omega arith)

unmet_is : (t : Bool) (b : Layout) (k : ℕ) → ltb b.width none ≡ t → answer_of t b ≡ refusal k → (none ≤ b.width) × (k ≡ 9)
unmet_is true b k t q = let z : ◌≡◌ {A = ℕ} 0 1 = cc in absurd (omega arith)
unmet_is false b k t q = let z : 9 ≡ k = cc in (ltb-false _ _ t, sym z)

width_found : (kind : Kind) (cs : List Component) (limit : ℕ) (o : Outline) → IsStack kind cs → ((layout_of kind o.height.0 0 cs).width < none)
    × (outline (layout_of kind o.height.0 0 cs).width (layout_of kind o.height.0 0 cs).height ≡ o) → o.width.0 ≤ limit → limit < (layout_of kind (o.height.0 - 1) 0 cs).width
    → (ps : List Placement) × BestForWidth kind cs limit ps o
width_found kind cs limit o e r w b =
    let s = stacked kind cs e in
    let at = o.height.0 in
    let f = reach kind cs s at r.0 in
    let below : Below (λ lim. layout_of kind lim 0 cs) limit at = λ k h. let z : at - 1 ≡ k = omega (arith, h) in rw z at b in
    (f.0, subst (BestForWidth kind cs limit f.0) r.1 (best_width kind cs s at f.0 r.0 f.1 limit below (omega (arith, w, ap (λ (x : Outline). x.width.0) r.1))))

all_larger_lem : (o : Outline) (os : List Outline) → all_larger o os ≡ true → (p : Outline) → Among p os → Larger o p
all_larger_lem o [] e p u = elim u [ ]
all_larger_lem o (q ∷ os) e p (inl a) = subst (Larger o) (sym a) (larger_true o q (both (larger o q) (all_larger o os) e).0)
all_larger_lem o (q ∷ os) e p (inr a) = all_larger_lem o os (both (larger o q) (all_larger o os) e).1 p a

area_found : (kind : Kind) (cs : List Component) (o : Outline) → IsStack kind cs → ((layout_of kind o.height.0 0 cs).width < none)
    × (outline (layout_of kind o.height.0 0 cs).width (layout_of kind o.height.0 0 cs).height ≡ o) → all_larger o (outlines kind cs 2000000 2000000) ≡ true
    → (ps : List Placement) × SmallestArea kind cs ps o
area_found kind cs o e r n =
    let s = stacked kind cs e in
    let at = o.height.0 in
    let f = reach kind cs s at r.0 in
    let b = subst (BestForHeight kind cs at f.0) r.1 (best_height kind cs s at f.0 r.0 f.1) in
    let t = tables.table kind cs s in
    (f.0, record { is_legal = b.is_legal; has = b.has; smallest = among_unbeaten (search kind cs s) o (λ p u. all_larger_lem o (outlines kind cs 2000000 2000000) n p (t.complete p (tables.unbeaten_is kind cs s p u))) })

sound : (l : Line) → Computed l → Holds l
sound (to_height kind cs limit (refusal k)) h = let r = unmet_is _ (layout_of kind limit 0 cs) k refl h.1 in (r.1, unmeetable_height (search kind cs (stacked kind cs h.0)) limit r.0)
sound (to_height kind cs limit (result o)) h =
    let r = met_is _ (layout_of kind limit 0 cs) o refl h.1 in
    let s = stacked kind cs h.0 in
    let f = reach kind cs s limit r.0 in
    (f.0, subst (BestForHeight kind cs limit f.0) r.1 (best_height kind cs s limit f.0 r.0 f.1))
sound (to_width kind cs limit (refusal k)) h = (h.1, unmeetable_width (search kind cs (stacked kind cs h.0)) limit (ltb-true _ _ h.2))
sound (to_width kind cs limit (result o)) h = width_found kind cs limit o h.0 (met_is _ (layout_of kind o.height.0 0 cs) o refl h.1) (leb-true _ _ h.2) (ltb-true _ _ h.3)
sound (smallest_area kind cs o) h = area_found kind cs o h.0 (met_is _ (layout_of kind o.height.0 0 cs) o refl h.1) h.2
sound (table kind cs os) h = subst (Listing kind cs) h.1 (tables.table kind cs (stacked kind cs h.0))
sound (header file k) h = h
sound (size kind cs a) h = h
sound (lent limit out work a) h = h
sound (area_room out work a) h = h
sound (table_work n a) h = h
sound (table_room n os a) h = h

all_sound : (ls : List Line) → AllComputed ls → AllHold ls
all_sound [] h = tt
all_sound (l ∷ ls) h = let s = sound l h.0 in (s, answers l s, all_sound ls h.1)

-- Every known stack is as document 01 says.
pub known : AllHold lines
known = all_sound lines computed
