-- Stacks, parts of stacks, and the components that they make.
use Prim.Native.Nat.{ℕ, zero, suc, ◌+◌, ◌-◌, ◌≤◌, ◌<◌, max}
use mathlib.Core.Path.{◌≡◌, refl, sym, ◌∙◌}
use mathlib.Core.List.{List, [], ◌∷◌}
use native.Mathlib.Omega.{arith}
use lib.ListN.{length, get_or, take, drop, length-drop, get_or-map}
use lib.Seq.{take_all}
use Rattle.std.proofs.lemmas.List.{take-map}
use Rattle.terms.specs.declared.Component.{Component}
use Rattle.terms.specs.declared.Kind.{Kind}
use Rattle.terms.specs.declared.Piece.{Piece}
use Rattle.terms.specs.Seams.{component_in, components_in}
use Rattle.terms.specs.Pieces.{heights_in, widths_in, seams_in, stack_in, columns}
use Rattle.terms.proofs.Pieces.{heights_length}
use Rattle.terms.proofs.Tabulate.{tabulate_at}
use Rattle.model.specs.Groups.{gap_behind}
use Rattle.group.specs.Rows.{ht, wd, gap, tall}
use Rattle.group.specs.Group.{gap_after, widest}
use Rattle.layout.specs.Plan.{StackLists, plan_widths, plan_heights}
use Rattle.layout.specs.declared.Entry.{Entry}
use Rattle.layout.proofs.Columns.{components_length, components_take, lists_take}

abbrev nil : Component
nil = component_in [] [] [] 0

module _ (hs ws gs : List ℕ) where
  pub component_at_lem : (i : ℕ) → i < length hs → get_or (components_in hs ws gs) i (component_in [] [] [] 0) ≡ component_in hs ws gs i
  component_at_lem i h = tabulate_at (component_in hs ws gs) (length hs) i nil h

-- What one more component adds.
pub tall_more : (cs : List Component) (k : ℕ) (d : Component) → k < length cs → tall (take (suc k) cs) ≡ tall (take k cs) + ht (get_or cs k d)
unfolding tall
tall_more [] k d h = absurd (omega arith)
tall_more (x ∷ cs) zero d h = omega arith
tall_more (x ∷ cs) (suc k) d h = omega (arith, tall_more cs k d (omega arith))

pub widest_more : (cs : List Component) (k : ℕ) (d : Component) → k < length cs → widest (take (suc k) cs) ≡ max (widest (take k cs)) (wd (get_or cs k d))
unfolding widest
widest_more [] k d h = absurd (omega arith)
widest_more (x ∷ cs) zero d h = omega arith
widest_more (x ∷ cs) (suc k) d h = omega (arith, widest_more cs k d (omega arith))

pub gap_last : (cs : List Component) (k : ℕ) (d : Component) → k < length cs → gap_after (take (suc k) cs) ≡ gap (get_or cs k d)
unfolding gap_behind
gap_last [] k d h = absurd (omega arith)
gap_last (x ∷ cs) zero d h = refl
gap_last (x ∷ []) (suc k) d h = absurd (omega arith)
gap_last (x ∷ y ∷ cs) (suc k) d h = gap_last (y ∷ cs) k d (omega arith)

pub widest_most : (cs : List Component) (d : Component) (m : ℕ) → ((i : ℕ) → i < length cs → wd (get_or cs i d) ≤ m) → widest cs ≤ m
unfolding widest
widest_most [] d m h = omega arith
widest_most (x ∷ cs) d m h = omega (arith, h 0 (omega arith), widest_most cs d m (λ i l. h (suc i) (omega arith)))

-- A stack and its first k pieces.
pub stack_length : (s : List Piece) → length (stack_in s) ≡ length s
stack_length s = components_length (heights_in s) (widths_in s) (seams_in s) ∙ heights_length s

module _ (s : List Piece) (k : ℕ) (h : k ≤ length s) where
  pub stack_take : stack_in (take k s) ≡ take k (stack_in s)
  stack_take = simp take-map at (components_take (heights_in s) (widths_in s) (seams_in s) k (omega (arith, heights_length s)))

  pub stack_lists_take : {kind : Kind} → columns s (StackLists kind) → columns (take k s) (StackLists kind)
  stack_lists_take a = simp take-map at (lists_take a k (omega (arith, heights_length s)))

-- The part of a list from an index on, as it is lent.
pub behind : {A : Type 0} (i : ℕ) (l : List A) → take (length l - i) (drop i l) ≡ drop i l
behind i l = take_all (length l - i) (drop i l) (omega (arith, length-drop i l))

-- An entry of a plan, as it is read.
abbrev pub zeros : Entry
zeros = record { width = record { 0 = 0 }; height = record { 0 = 0 }; end = 0 }

abbrev pub entry_at : List Entry → ℕ → Entry
entry_at p i = get_or p i zeros

pub width_at : (p : List Entry) (i : ℕ) → (entry_at p i).width.0 ≡ get_or (plan_widths p) i 0
width_at p i = sym (get_or-map (λ (b : Entry). b.width.0) p i zeros)

pub height_at : (p : List Entry) (i : ℕ) → (entry_at p i).height.0 ≡ get_or (plan_heights p) i 0
height_at p i = sym (get_or-map (λ (b : Entry). b.height.0) p i zeros)
