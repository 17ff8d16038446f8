-- The pass over a folding, one component further.
use Rattle.std.proofs.Common.{◌≡◌, ℕ, ◌+◌, ◌≤◌, ◌<◌, Bool, true, false, ◌&&◌, drop, eqb, ◌∙◌}
use Rattle.terms.specs.declared.Kind.{Kind}
use Rattle.terms.specs.Component.{tabulate}
use Rattle.terms.proofs.Tabulate.{tabulate-drop, tabulate_end}
use Rattle.folding.specs.declared.Placed.{Placed}
use Rattle.folding.specs.Placement.{group_of, left}
use Rattle.folding.specs.Legal.{unparted, turned, legal}
use Rattle.folding.proofs.Rules.{passes, legal_passes}
use Rattle.legality.specs.Inner.{alone, follows}

-- The pass of a legal folding, of which n components are tabulated.
module _ (kind : Kind) (g : ℕ → Placed) (n : ℕ) where
  module _ (x : Placed) (e : x ≡ g 0) (h : 0 < n) {b : Bool} (o : b ≡ (eqb (group_of x) 0 && left x && alone kind x)) where
    opened : legal kind (tabulate g n) ≡ (b && passes kind x (drop 1 (tabulate g n)))
    opened = rw (tabulate-drop g n 0 h, ← e) (legal_passes kind x (drop 1 (tabulate g n)) ∙ rw (← o))

    pub pass_unopened : b ≡ false → false ≡ legal kind (tabulate g n)
    pass_unopened z = rw (opened, z)

    pub pass_opened : b ≡ true → passes kind x (drop 1 (tabulate g n)) ≡ legal kind (tabulate g n)
    pass_opened z = rw (opened, z)

  module _ (x y : Placed) {b : Bool} (o : b ≡ (alone kind y && follows x y && unparted x y && turned kind x y)) where
    module _ (i : ℕ) (h : i < n) (e : y ≡ g i) {whole : Bool} (p : passes kind x (drop i (tabulate g n)) ≡ whole) where
      here : (b && passes kind y (drop (i + 1) (tabulate g n))) ≡ whole
      unfolding passes
      here = rw (tabulate-drop g n i h, ← e, ← o) at p

      pub pass_broken : b ≡ false → false ≡ whole
      pass_broken z = rw z at here

      pub pass_on : b ≡ true → passes kind y (drop (i + 1) (tabulate g n)) ≡ whole
      pass_on z = rw z at here

  pub pass_done : (x : Placed) (i : ℕ) {whole : Bool} → n ≤ i → passes kind x (drop i (tabulate g n)) ≡ whole → true ≡ whole
  unfolding passes
  pass_done x i h p = rw (tabulate_end g n i h) at p
