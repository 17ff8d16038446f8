-- What a stack that was read holds, for the layout.
use Prim.Native.Nat.{ℕ, zero, suc, ◌≤◌, ◌<◌}
use mathlib.Core.Path.{◌≡◌, sym, ◌∙◌}
use mathlib.Core.List.{List, [], ◌∷◌}
use mathlib.Core.Bool.{true}
use native.Mathlib.Omega.{arith}
use lib.ListN.{length, get_or}
use Rattle.std.proofs.lemmas.List.{length-map}
use Rattle.terms.specs.declared.Component.{Component}
use Rattle.terms.specs.declared.Kind.{Kind}
use Rattle.terms.specs.declared.Piece.{Piece}
use Rattle.terms.specs.Pieces.{columns}
use Rattle.terms.specs.Seams.{seam_of, gap_at, components_in}
use Rattle.terms.proofs.Lists.{heights_of, widths_of, seams_of, heights_some, all_sized, AllSized, all_marked, AllMarked}
use Rattle.stack.proofs.Valid.{valid}
use Rattle.stack.proofs.Reading.{Held, components_held, count_held, heights_held, widths_held, seams_held}
use Rattle.group.specs.Group.{unbarred}
use Rattle.layout.specs.Plan.{StackLists}
use Rattle.layout.proofs.Bounds.{AllGaps, all_gaps}
use Rattle.layout.proofs.Groups.{Stacked}
use Rattle.layout.proofs.Marks.{stack_free}
use Rattle.layout.proofs.Columns.{components_length, good_lists}
use Rattle.plan.specs.Asks.{Plannable}
use Rattle.best.specs.Asks.{Room}
use Rattle.fold.specs.Inner.{Read}

heights_most : (cs : List Component) → AllSized cs → (i : ℕ) → get_or (heights_of cs) i 0 ≤ 4000
heights_most [] s i = omega arith
heights_most (c ∷ cs) s zero = s.0.height_most
heights_most (c ∷ cs) s (suc i) = heights_most cs s.1 i

widths_some : (cs : List Component) → AllSized cs → (i : ℕ) → i < length (heights_of cs) → 1 ≤ get_or (widths_of cs) i 0
widths_some [] s i h = absurd (omega arith)
widths_some (c ∷ cs) s zero h = s.0.width_some
widths_some (c ∷ cs) s (suc i) h = widths_some cs s.1 i (omega arith)

widths_most : (cs : List Component) → AllSized cs → (i : ℕ) → get_or (widths_of cs) i 0 ≤ 4000
widths_most [] s i = omega arith
widths_most (c ∷ cs) s zero = s.0.width_most
widths_most (c ∷ cs) s (suc i) = widths_most cs s.1 i

gaps_most : (cs : List Component) → AllGaps cs → AllMarked cs → (i : ℕ) → gap_at (seams_of cs) i ≤ 4000
gaps_most [] s m i = omega arith
gaps_most (c ∷ cs) s m zero = omega (arith, s.0, m.0)
gaps_most (c ∷ cs) s m (suc i) = gaps_most cs s.1 m.1 i

module _ {kind : Kind} {file : List ℕ} {s : List Piece} (h : Held kind file s) where
  lists_held : columns s (StackLists kind)
  lists_held =
      let cs = h.components in
      let v = (valid kind file cs h.checked).stack in
      let z = all_sized cs v.sizes in
      let l : length (heights_of cs) ≡ length cs = length-map cs (λ c. c.height.0) in
      rw (heights_held h, widths_held h, seams_held h) (record {
        same_widths = length-map cs (λ c. c.width.0) ∙ sym l;
        same_seams = length-map cs seam_of ∙ sym l;
        few = omega (arith, v.few);
        tall = heights_some cs z;
        low = heights_most cs z;
        wide = widths_some cs z;
        slim = widths_most cs z;
        near = gaps_most cs (all_gaps cs v.gaps) (all_marked cs v.marks);
      })

  pub read : Read kind s
  read =
      let v = (valid kind file h.components h.checked).stack in
      record {
        some = omega (arith, v.some, count_held h);
        lists = lists_held;
        free = rw (components_held h) (stack_free h.components v.marks);
      }

pub stacked : (kind : Kind) (hs ws gs : List ℕ) → StackLists kind hs ws gs → 0 < length hs → unbarred (components_in hs ws gs) ≡ true → Stacked (components_in hs ws gs)
stacked kind hs ws gs s p f = record { some = omega (arith, components_length hs ws gs); good = good_lists s; free = f }

-- So of a stack that can be planned.
pub stacked_room : {kind : Kind} {hs ws gs work : List ℕ} → Room kind hs ws gs work → Stacked (components_in hs ws gs)
stacked_room {kind} {hs = hs} {ws = ws} {gs = gs} a = stacked kind hs ws gs a.lists a.some a.free

pub stacked_plan : {kind : Kind} {hs ws gs work : List ℕ} → Plannable kind hs ws gs work → Stacked (components_in hs ws gs)
stacked_plan {kind} {hs = hs} {ws = ws} {gs = gs} a = stacked kind hs ws gs a.lists a.some a.free
