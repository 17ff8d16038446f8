-- The columns of a stack, and the components that they make.
use Prim.Native.Nat.{ℕ, zero, suc, ◌/◌, ◌%◌, ◌<◌, ◌≤◌}
use mathlib.Core.Path.{◌≡◌, ◌∙◌}
use mathlib.Core.List.{List, [], ◌∷◌, map}
use mathlib.Core.Bool.{Bool, true, false}
use native.Mathlib.Omega.{arith}
use lib.ListN.{length, get_or, get_or-map}
use lib.Seq.{ext_get_or}
use lib.Dec.{leb}
use borrow.Author.Tests.{leb-true, eqb-true}
use Rattle.std.proofs.lemmas.List.{length-map}
use Rattle.terms.specs.declared.Component.{Component}
use Rattle.terms.specs.Component.{in_size, good_size, good_mark, ends, every, tabulate}
use Rattle.terms.specs.Seams.{seam_of, component_in, components_in}
use Rattle.terms.proofs.Bools.{both}
use Rattle.terms.proofs.Tabulate.{tabulate-length, tabulate_at}

abbrev pub heights_of : List Component → List ℕ
heights_of cs = map (λ c. c.height.0) cs

abbrev pub widths_of : List Component → List ℕ
widths_of cs = map (λ c. c.width.0) cs

abbrev pub seams_of : List Component → List ℕ
seams_of cs = map seam_of cs

-- Each mark is 0 or 1, so that a seam holds gap and mark.
abbrev pub AllMarked : List Component → Type 0
AllMarked [] = Unit {0}
AllMarked (c ∷ cs) = (c.mark ≤ 1) × AllMarked cs

mark_low : (c : Component) (last : Bool) → good_mark c last ≡ true → c.mark ≤ 1
mark_low c true e = omega (arith, eqb-true c.mark 0 e)
mark_low c false e = leb-true c.mark 1 e

pub all_marked : (cs : List Component) → every good_mark cs ≡ true → AllMarked cs
unfolding every
all_marked [] e = tt
all_marked (c ∷ cs) e = let b = both (good_mark c (ends cs)) (every good_mark cs) e in (mark_low c (ends cs) b.0, all_marked cs b.1)

pub none : Component
none = record { height = record { 0 = 0 }; width = record { 0 = 0 }; gap = record { 0 = 0 }; mark = 0 }

pub marked_at : (cs : List Component) → AllMarked cs → (i : ℕ) → (get_or cs i none).mark ≤ 1
unfolding none
marked_at [] a i = omega arith
marked_at (c ∷ cs) a zero = a.0
marked_at (c ∷ cs) a (suc i) = marked_at cs a.1 i

pub seam_gap : (c : Component) → c.mark ≤ 1 → seam_of c / 2 ≡ c.gap.0
seam_gap c h = omega arith

pub seam_mark : (c : Component) → c.mark ≤ 1 → seam_of c % 2 ≡ c.mark
seam_mark c h = omega arith

pub columns : (cs : List Component) → AllMarked cs → components_in (heights_of cs) (widths_of cs) (seams_of cs) ≡ cs
unfolding none
columns cs a =
    let g : ℕ → Component = component_in (heights_of cs) (widths_of cs) (seams_of cs) in
    let n : length (heights_of cs) ≡ length cs = length-map cs (λ c. c.height.0) in
    ext_get_or none (tabulate g (length (heights_of cs))) cs (tabulate-length g (length (heights_of cs)) ∙ n)
    (λ i h.
    tabulate_at g (length (heights_of cs)) i none (omega (arith, tabulate-length g (length (heights_of cs))))
    ∙ rw (
      get_or-map (λ c. c.height.0) cs i none,
      get_or-map (λ c. c.width.0) cs i none,
      get_or-map seam_of cs i none,
      seam_gap (get_or cs i none) (marked_at cs a i),
      seam_mark (get_or cs i none) (marked_at cs a i),
    ))

-- Heights and widths of a stack are 1 to 4,000.
pub record Sized (c : Component) : Type 0 where
  pub height_some : 1 ≤ c.height.0
  pub height_most : c.height.0 ≤ 4000
  pub width_some : 1 ≤ c.width.0
  pub width_most : c.width.0 ≤ 4000

pub sized : (c : Component) (last : Bool) → good_size c last ≡ true → Sized c
sized c last e =
    let d = both (in_size c.height.0) (in_size c.width.0) e in
    let h = both (leb 1 c.height.0) (leb c.height.0 4000) d.0 in
    let w = both (leb 1 c.width.0) (leb c.width.0 4000) d.1 in
    record { height_some = leb-true _ _ h.0; height_most = leb-true _ _ h.1; width_some = leb-true _ _ w.0; width_most = leb-true _ _ w.1 }

abbrev pub AllSized : List Component → Type 0
AllSized [] = Unit {0}
AllSized (c ∷ cs) = Sized c × AllSized cs

pub all_sized : (cs : List Component) → every good_size cs ≡ true → AllSized cs
unfolding every
all_sized [] e = tt
all_sized (c ∷ cs) e = let b = both (good_size c (ends cs)) (every good_size cs) e in (sized c (ends cs) b.0, all_sized cs b.1)

pub heights_some : (cs : List Component) → AllSized cs → (i : ℕ) → i < length (heights_of cs) → 0 < get_or (heights_of cs) i 0
heights_some [] s i h = absurd (omega arith)
heights_some (c ∷ cs) s zero h = s.0.height_some
heights_some (c ∷ cs) s (suc i) h = heights_some cs s.1 i (omega arith)
