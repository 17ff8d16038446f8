-- What "best" means (document 01, "Calls"; demand 3): over legal foldings and their outlines only, for every placement list
-- of the stack and kind.
use Rattle.std.specs.Prelude.{ℕ, ◌*◌, ◌≤◌, ◌<◌, ◌≡◌, ◌⊎◌, List, [], ◌∷◌}
use Rattle.terms.specs.declared.Component.{Component}
use Rattle.terms.specs.declared.Kind.{Kind}
use Rattle.folding.specs.declared.Placement.{Placement}
use Rattle.folding.specs.declared.Outline.{Outline}
use Rattle.folding.specs.Legal.{Legal}
use Rattle.folding.specs.Outline.{outline_of}

-- An outline is in a list of them.
abbrev pub Among : Outline → List Outline → Type 0
Among o [] = ⊥
Among o (p ∷ os) = (o ≡ p) ⊎ Among o os

-- "widths strictly rise, heights strictly fall"
abbrev pub Rising : List Outline → Type 0
Rising [] = Unit {0}
Rising (o ∷ []) = Unit {0}
Rising (o ∷ p ∷ os) = (o.width.0 < p.width.0) × (p.height.0 < o.height.0) × Rising (p ∷ os)

-- "wider and higher compare outlines": beside o the other is "wider .., or as wide and at least as high".
abbrev pub Wider : Outline → Outline → Type 0
Wider o other = (o.width.0 < other.width.0) ⊎ ((o.width.0 ≡ other.width.0) × (o.height.0 ≤ other.height.0))

-- "higher, or as high and at least as wide"
abbrev pub Higher : Outline → Outline → Type 0
Higher o other = (o.height.0 < other.height.0) ⊎ ((o.height.0 ≡ other.height.0) × (o.width.0 ≤ other.width.0))

-- Ticket 1: "width times height".
abbrev pub area_of : Outline → ℕ
area_of o = o.width.0 * o.height.0

-- "least, the narrower of equals": beside o the other has a greater area, or an equal one and is at least as wide.
abbrev pub Larger : Outline → Outline → Type 0
Larger o other = (area_of o < area_of other) ⊎ ((area_of o ≡ area_of other) × (o.width.0 ≤ other.width.0))

-- "wider, or higher, or equal in both"
abbrev pub Other : Outline → Outline → Type 0
Other o other = (o.width.0 < other.width.0) ⊎ ((o.height.0 < other.height.0) ⊎ (other ≡ o))

module _ (kind : Kind) (cs : List Component) where
  -- "A folding keeps H when its outline's height is at most H, and W when its outline's width is at most W".
  abbrev pub keeps_height : ℕ → List Placement → Type 0
  keeps_height h ps = (outline_of cs ps).height.0 ≤ h

  abbrev pub keeps_width : ℕ → List Placement → Type 0
  keeps_width w ps = (outline_of cs ps).width.0 ≤ w

  -- "the folding returned is legal, keeps its limit and has the outline given"; "every other legal folding that keeps it is
  -- wider than the one returned, or as wide and at least as high".
  pub record BestForHeight (limit : ℕ) (ps : List Placement) (o : Outline) : Type 0 where
    pub is_legal : Legal kind cs ps
    pub has : outline_of cs ps ≡ o
    pub keeps : keeps_height limit ps
    pub best : (other : List Placement) → Legal kind cs other → keeps_height limit other → Wider o (outline_of cs other)

  -- "For a given width, every other that keeps it is higher, or as high and at least as wide."
  pub record BestForWidth (limit : ℕ) (ps : List Placement) (o : Outline) : Type 0 where
    pub is_legal : Legal kind cs ps
    pub has : outline_of cs ps ≡ o
    pub keeps : keeps_width limit ps
    pub best : (other : List Placement) → Legal kind cs other → keeps_width limit other → Higher o (outline_of cs other)

  -- Refusal 9: "no legal folding keeps the limit".
  abbrev pub UnmeetableHeight : ℕ → Type 0
  UnmeetableHeight h = (ps : List Placement) → Legal kind cs ps → keeps_height h ps → ⊥

  abbrev pub UnmeetableWidth : ℕ → Type 0
  UnmeetableWidth w = (ps : List Placement) → Legal kind cs ps → keeps_width w ps → ⊥

  -- Ticket 1: "the outline whose width times height is least, the narrower of equals, with a folding that has it"; "against
  -- each legal folding of the stack and kind, listed in the outline table or not".
  pub record SmallestArea (ps : List Placement) (o : Outline) : Type 0 where
    pub is_legal : Legal kind cs ps
    pub has : outline_of cs ps ≡ o
    pub smallest : (other : List Placement) → Legal kind cs other → Larger o (outline_of cs other)

  -- "An outline is unbeaten when a legal folding has it and every other legal folding of that stack and kind is wider, or
  -- higher, or equal in both."
  pub record Unbeaten (o : Outline) : Type 0 where
    pub folding : List Placement
    pub is_legal : Legal kind cs folding
    pub has : outline_of cs folding ≡ o
    pub unbeaten : (other : List Placement) → Legal kind cs other → Other o (outline_of cs other)

  -- Outline table: "the unbeaten outlines", all of them and no others; "widths strictly rise, heights strictly fall".
  pub record Listing (os : List Outline) : Type 0 where
    pub ordered : Rising os
    pub sound : (o : Outline) → Among o os → Unbeaten o
    pub complete : (o : Outline) → Unbeaten o → Among o os
