-- The ways in which a group may stand, and the least height over them.
use Prim.Native.Nat.{ℕ, zero, suc, ◌≤◌, ◌<◌, min}
use mathlib.Core.Path.{◌≡◌, refl, sym, ap, ◌∙◌}
use mathlib.Core.Logic.{◌⊎◌, inl, inr}
use mathlib.Core.List.{List, [], ◌∷◌}
use mathlib.Core.Bool.{Bool, true, false, true≢false, false≢true, cond, ◌&&◌}
use native.Mathlib.Nat.{eq-or-lt_of_le, le_of_suc-le-suc}
use native.Mathlib.Omega.{arith}
use lib.ListN.{length, take}
use lib.Seq.{take_all}
use borrow.Author.Tests.{eqb-true, eq-eqb, ne_eqb}
use Rattle.terms.specs.declared.Component.{Component}
use Rattle.terms.specs.declared.Kind.{Kind}
use Rattle.terms.specs.declared.Kind.TheVariants.{Apart, Nested}
use Rattle.model.specs.Groups.{is_end}
use Rattle.group.specs.Group.{none, widest, flat_height, fold_height, May, on_sides, unbarred, may_stand, way_height, ways, lowest, ways_of, SomeWay, least_height_by, least_cap, least_width_by, FoldPointBy}
use Rattle.terms.proofs.Bools.{both, and_is}
use Rattle.terms.proofs.Order.{order}
use Rattle.group.proofs.First.{first_none}

-- p is one of a list of ways.
abbrev pub In : ℕ → List ℕ → Type 0
In p [] = ⊥
In p (q ∷ l) = (p ≡ q) ⊎ In p l

-- The least over a list is at most each, and it is one of them.
pub lowest_at : (f : ℕ → ℕ) (l : List ℕ) (p : ℕ) → In p l → lowest f l ≤ f p
unfolding lowest
lowest_at f [] p i = absurd i
lowest_at f (q ∷ []) p (inl e) = rw e (omega arith)
lowest_at f (q ∷ []) p (inr i) = absurd i
lowest_at f (q ∷ r ∷ l) p (inl e) = rw e (omega arith)
lowest_at f (q ∷ r ∷ l) p (inr i) = omega (arith, lowest_at f (r ∷ l) p i)

pub lowest_taken : (f : ℕ → ℕ) (l : List ℕ) (p : ℕ) → In p l → (q : ℕ) × In q l × (lowest f l ≡ f q)
unfolding lowest
lowest_taken f [] p i = absurd i
lowest_taken f (q ∷ []) p i = (q, inl refl, refl)
lowest_taken f (q ∷ r ∷ l) p i = go (order (f q) (lowest f (r ∷ l))) (lowest_taken f (r ∷ l) r (inl refl))
  where
    go : (f q ≤ lowest f (r ∷ l)) ⊎ (lowest f (r ∷ l) < f q) → (s : ℕ) × In s (r ∷ l) × (lowest f (r ∷ l) ≡ f s) → (s : ℕ) × In s (q ∷ r ∷ l) × (min (f q) (lowest f (r ∷ l)) ≡ f s)
    go (inl h) t = (q, inl refl, omega arith)
    go (inr h) (s, j, e) = (s, inr j, omega arith)

lowest_some : (f : ℕ → ℕ) (l : List ℕ) → lowest f l < none → is_end l ≡ false
unfolding lowest
lowest_some f [] h = absurd (omega arith)
lowest_some f (p ∷ l) h = refl

lowest_none : (f : ℕ → ℕ) (l : List ℕ) → is_end l ≡ true → lowest f l ≡ none
unfolding lowest
lowest_none f [] e = refl
lowest_none f (p ∷ l) e = absurd (false≢true e)

pub lowest_falls : (f g : ℕ → ℕ) (l : List ℕ) → ((p : ℕ) → f p ≤ g p) → lowest f l ≤ lowest g l
unfolding lowest
lowest_falls f g [] h = omega arith
lowest_falls f g (p ∷ []) h = h p
lowest_falls f g (p ∷ q ∷ l) h = omega (arith, h p, lowest_falls f g (q ∷ l) h)

-- The list of ways has those of 1 to n that are allowed.
abbrev pub Allowed : (ℕ → Bool) → ℕ → ℕ → Type 0
Allowed may n p = (0 < p) × (p ≤ n) × (may p ≡ true)

in_later : (b : Bool) (p q : ℕ) (l : List ℕ) → In p l → In p (cond b (q ∷ l) l)
in_later true p q l i = inr i
in_later false p q l i = i

module _ (may : ℕ → Bool) where
  pub ways_in : (n p : ℕ) → Allowed may n p → In p (ways may n)
  unfolding ways
  ways_in zero p a = absurd (omega (arith, a.0, a.1))
  ways_in (suc n) p a = go (eq-or-lt_of_le a.1) (ways_in n p)
    where
      go : (p ≡ suc n) ⊎ (p < suc n) → (Allowed may n p → In p (ways may n)) → In p (cond (may (suc n)) (suc n ∷ ways may n) (ways may n))
      go (inl e) i = rw (rw e at a.2) (inl e)
      go (inr l) i = in_later (may (suc n)) p (suc n) (ways may n) (i (a.0, le_of_suc-le-suc l, a.2))

  pub in_ways : (n p : ℕ) → In p (ways may n) → Allowed may n p
  unfolding ways
  in_ways zero p i = absurd i
  in_ways (suc n) p i = go (may (suc n)) refl i (in_ways n p)
    where
      wider : Allowed may n p → Allowed may (suc n) p
      wider a = (a.0, omega (arith, a.1), a.2)

      go : (b : Bool) → may (suc n) ≡ b → In p (cond b (suc n ∷ ways may n) (ways may n)) → (In p (ways may n) → Allowed may n p) → Allowed may (suc n) p
      go true e (inl q) k = (omega arith, omega arith, ap may q ∙ e)
      go true e (inr j) k = wider (k j)
      go false e j k = wider (k j)

-- How a legal group of n components stands: at least one is on its left, and where not all of them are, it is nested.
pub record Stands (kind : Kind) (n p : ℕ) : Type 0 where
  pub some : 0 < p
  pub within : p ≤ n
  pub folded : p < n → kind ≡ Nested

pub apart_whole : (n p : ℕ) → Stands Apart n p → p ≡ n
apart_whole n p s = go (order n p)
  where
    go : (n ≤ p) ⊎ (p < n) → p ≡ n
    go (inl h) = omega (arith, s.within)
    go (inr h) = let e : Apart ≡ Nested = s.folded h in cc

-- A rule for groups of a kind: it allows a fold to nested groups only.
abbrev pub Suits : Kind → May → Type 0
Suits kind may = (cs : List Component) (p : ℕ) → p < length cs → may cs p ≡ true → kind ≡ Nested

first_in : (l : List ℕ) → is_end l ≡ false → (p : ℕ) × In p l
first_in [] e = absurd (true≢false e)
first_in (p ∷ l) e = (p, inl refl)

in_some : (l : List ℕ) (p : ℕ) → In p l → is_end l ≡ false
in_some [] p i = absurd i
in_some (q ∷ l) p i = refl

-- The height of a way without a fold, and with one.
module _ (g0 : ℕ) (cs : List Component) (cap p : ℕ) where
  pub way_flat : p ≡ length cs → way_height g0 cs cap p ≡ flat_height g0 cs
  way_flat e = rw (eq-eqb p (length cs) e)

  pub way_fold : p < length cs → way_height g0 cs cap p ≡ fold_height g0 cs cap p
  way_fold h = rw (ne_eqb p (length cs) (λ e. omega arith))

module _ (may : May) (cs : List Component) where
  pub allowed_some : (p : ℕ) → Allowed (may cs) (length cs) p → SomeWay may cs
  allowed_some p a = in_some (ways_of may cs) p (ways_in (may cs) (length cs) p a)

  -- The least width where some way is allowed; and where there is one, some way is.
  pub width_is : (g0 limit : ℕ) → SomeWay may cs → least_width_by may g0 cs limit ≡ least_cap may g0 cs limit
  unfolding least_width_by
  width_is g0 limit e = rw e

  pub width_some : (g0 limit : ℕ) → least_width_by may g0 cs limit < none → SomeWay may cs
  unfolding least_width_by
  width_some g0 limit = go (is_end (ways_of may cs))
    where
      go : (b : Bool) → cond b none (least_cap may g0 cs limit) < none → b ≡ false
      go true h = absurd (omega arith)
      go false h = refl

  -- Where none is, no cap leads to a height; so for a limit the first cap that does is the least width either way.
  pub no_height : (g0 cap : ℕ) → is_end (ways_of may cs) ≡ true → least_height_by may g0 cs cap ≡ none
  unfolding least_height_by
  no_height g0 cap e = lowest_none (way_height g0 cs cap) (ways_of may cs) e

  pub width_first : (g0 limit : ℕ) → limit < none → least_width_by may g0 cs limit ≡ least_cap may g0 cs limit
  unfolding least_width_by
  width_first g0 limit l = go (is_end (ways_of may cs)) refl
    where
      go : (b : Bool) → is_end (ways_of may cs) ≡ b → cond b none (least_cap may g0 cs limit) ≡ least_cap may g0 cs limit
      go true e = sym (first_none (least_height_by may g0 cs) limit (widest cs) (suc (widest cs)) (λ k h u. omega (arith, no_height g0 k e)))
      go false e = refl

  -- Where there is a height, too.
  pub height_some : (g0 cap : ℕ) → least_height_by may g0 cs cap < none → SomeWay may cs
  unfolding least_height_by
  height_some g0 cap h = lowest_some (way_height g0 cs cap) (ways_of may cs) h

  -- No way that is allowed is lower than the least height, and one has it.
  module _ (g0 cap : ℕ) where
    pub least_at : (p : ℕ) → Allowed (may cs) (length cs) p → least_height_by may g0 cs cap ≤ way_height g0 cs cap p
    unfolding least_height_by
    least_at p a = lowest_at (way_height g0 cs cap) (ways_of may cs) p (ways_in (may cs) (length cs) p a)

    pub fold_point : SomeWay may cs → (p : ℕ) × FoldPointBy may g0 cs cap p
    unfolding least_height_by
    fold_point e =
        let w = first_in (ways_of may cs) e in
        let t = lowest_taken (way_height g0 cs cap) (ways_of may cs) w.0 w.1 in
        let i = in_ways (may cs) (length cs) t.0 t.1 in
        (t.0, record { some = i.0; within = i.1; allowed = i.2; least = t.2 })

    pub point_stands : (kind : Kind) (p : ℕ) → Suits kind may → FoldPointBy may g0 cs cap p → Stands kind (length cs) p
    point_stands kind p s f = record { some = f.some; within = f.within; folded = λ h. s cs p h f.allowed }

-- What the kind, the place and the marks allow; nothing else looks into `may_stand`. Neither fold nor end behind a barred component.
module _ (kind : Kind) (last : Bool) (cs : List Component) (p : ℕ) where
  may_parts : may_stand kind last cs p ≡ true → (on_sides kind last cs p ≡ true) × (unbarred (take p cs) ≡ true) × (unbarred cs ≡ true)
  unfolding may_stand
  may_parts a =
      let b = both (on_sides kind last cs p && unbarred (take p cs)) (unbarred cs) a in
      let d = both (on_sides kind last cs p) (unbarred (take p cs)) b.0 in
      (d.0, d.1, b.1)

  pub may_fold : may_stand kind last cs p ≡ true → unbarred (take p cs) ≡ true
  may_fold a = (may_parts a).1

  pub may_end : may_stand kind last cs p ≡ true → unbarred cs ≡ true
  may_end a = (may_parts a).2

-- A fold: only to nested groups.
pub suits : (kind : Kind) (last : Bool) → Suits kind (may_stand kind last)
suits kind last cs p h a = go kind (may_parts kind last cs p a).0
  where
    go : (k : Kind) → on_sides k last cs p ≡ true → k ≡ Nested
    go Apart e = absurd (let z = eqb-true p (length cs) e in omega arith)
    go Nested e = refl

-- No fold: nested only to the last group.
abbrev pub FlatStands : Kind → Bool → Type 0
FlatStands Apart last = Unit {0}
FlatStands Nested last = last ≡ true

pub last_flat : (kind : Kind) → FlatStands kind true
last_flat Apart = tt
last_flat Nested = refl

pub flat_stands : (kind : Kind) (last : Bool) (cs : List Component) (p : ℕ) → p ≡ length cs → may_stand kind last cs p ≡ true → FlatStands kind last
flat_stands kind last cs p e a = go kind (may_parts kind last cs p a).0
  where
    only_last : (b : Bool) → on_sides Nested b cs p ≡ true → b ≡ true
    only_last true o = refl
    only_last false o = absurd (false≢true (rw (eq-eqb p (length cs) e) at o))

    go : (k : Kind) → on_sides k last cs p ≡ true → FlatStands k last
    go Apart o = tt
    go Nested o = only_last last o

-- Every way in which a legal group stands, with neither behind a barred component.
pub stands_allowed : (kind : Kind) (last : Bool) (cs : List Component) (p : ℕ) → Stands kind (length cs) p → (p ≡ length cs → FlatStands kind last)
    → unbarred (take p cs) ≡ true → unbarred cs ≡ true → may_stand kind last cs p ≡ true
unfolding may_stand
stands_allowed Apart last cs p s t f e = and_is (and_is (eq-eqb p (length cs) (apart_whole (length cs) p s)) f) e
stands_allowed Nested last cs p s t f e = and_is (and_is (go (order (length cs) p)) f) e
  where
    flat : (b : Bool) → b ≡ true → on_sides Nested b cs p ≡ true
    flat true f = refl
    flat false f = absurd (false≢true f)

    folded : (b : Bool) → p < length cs → on_sides Nested b cs p ≡ true
    folded true h = refl
    folded false h = rw (ne_eqb p (length cs) (λ q. omega arith))

    go : (length cs ≤ p) ⊎ (p < length cs) → on_sides Nested last cs p ≡ true
    go (inl h) = flat last (t (omega (arith, s.within)))
    go (inr h) = folded last h

-- So every group that may end there and stand without a fold may stand so, and some way is allowed to it.
pub flat_allowed : (kind : Kind) (last : Bool) (cs : List Component) → FlatStands kind last → 0 < length cs → unbarred cs ≡ true → may_stand kind last cs (length cs) ≡ true
flat_allowed kind last cs t s e =
    stands_allowed kind last cs (length cs) (record { some = s; within = omega arith; folded = λ h. absurd (omega arith) }) (λ q. t) (rw (take_all (length cs) cs (omega arith)) e) e

pub some_way : (kind : Kind) (last : Bool) (cs : List Component) → FlatStands kind last → 0 < length cs → unbarred cs ≡ true → SomeWay (may_stand kind last) cs
some_way kind last cs t s e = allowed_some (may_stand kind last) cs (length cs) (s, omega arith, flat_allowed kind last cs t s e)

-- To one that may not end there none is: it has no width.
pub barred_end : (kind : Kind) (last : Bool) (cs : List Component) (g0 limit : ℕ) → unbarred cs ≡ false → least_width_by (may_stand kind last) g0 cs limit ≡ none
unfolding least_width_by
barred_end kind last cs g0 limit e = go (ways_of (may_stand kind last) cs) (λ p i. (in_ways (may_stand kind last cs) (length cs) p i).2)
  where
    go : (l : List ℕ) → ((p : ℕ) → In p l → may_stand kind last cs p ≡ true) → cond (is_end l) none (least_cap (may_stand kind last) g0 cs limit) ≡ none
    go [] f = refl
    go (p ∷ l) f = absurd (true≢false (sym (may_end kind last cs p (f p (inl refl))) ∙ e))

-- A group to which some way is allowed may end there.
pub way_end : (kind : Kind) (last : Bool) (cs : List Component) → SomeWay (may_stand kind last) cs → unbarred cs ≡ true
way_end kind last cs e =
    let w = first_in (ways_of (may_stand kind last) cs) e in
    may_end kind last cs w.0 (in_ways (may_stand kind last cs) (length cs) w.0 w.1).2
