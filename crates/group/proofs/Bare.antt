-- Gaps and marks of components do not matter to rows and start rows.
use Prim.Native.Nat.{ℕ, ◌+◌, ◌≤◌, ◌<◌, min}
use mathlib.Core.Path.{◌≡◌, refl, sym, ap, ◌∙◌}
use mathlib.Core.Logic.{◌⊎◌, inl, inr}
use mathlib.Core.List.{List, [], ◌∷◌, map, reverse_aux}
use lib.ListN.{length, take}
use Rattle.std.specs.List.{take-map, drop-map}
use Rattle.terms.specs.declared.Component.{Component}
use Rattle.terms.specs.Seams.{component_in, components_in}
use Rattle.group.specs.Rows.{ht, wd, tall, rows, Starts, packed, put_left, put_right, place}
use Rattle.group.specs.Group.{left_side, right_side, group_places}
use Rattle.group.specs.Table.{bare}
use Rattle.terms.proofs.Order.{order}
use Rattle.terms.proofs.Tabulate.{tabulate-map}
use Rattle.group.proofs.Chains.{rows_left, rows_right, rows_clash, place_left, place_right, place_left_first, place_right_first}

abbrev pub gapless : Component → Component
gapless x = record { height = record { 0 = x.height.0 }; width = record { 0 = x.width.0 }; gap = record { 0 = 0 }; mark = 0 }

pub tall_bare : (l : List Component) → tall (map gapless l) ≡ tall l
unfolding tall
tall_bare [] = refl
tall_bare (x ∷ l) = ap (λ (k : ℕ). ht x + k) (tall_bare l)

packed_bare : (a : ℕ) (l : List Component) → packed a (map gapless l) ≡ packed a l
unfolding packed
packed_bare a [] = refl
packed_bare a (x ∷ l) = ap (λ (k : List ℕ). a ∷ k) (packed_bare (a + ht x) l)

abbrev SameRows : ℕ → List Component → List Component → Type 0
SameRows cap l r = (a b : ℕ) → rows cap a b (map gapless l) (map gapless r) ≡ rows cap a b l r

abbrev SamePlace : ℕ → List Component → List Component → Type 0
SamePlace cap l r = (a b : ℕ) → place cap a b (map gapless l) (map gapless r) ≡ place cap a b l r

module _ (cap : ℕ) (x : Component) (l : List Component) (y : Component) (r : List Component) where
  rows_step : SameRows cap l (y ∷ r) → SameRows cap (x ∷ l) r → SameRows cap (x ∷ l) (y ∷ r)
  rows_step f g a b = go (order (wd x + wd y) cap) (order (a + ht x) (b + ht y))
    where
      go : (wd x + wd y ≤ cap) ⊎ (cap < wd x + wd y) → (a + ht x ≤ b + ht y) ⊎ (b + ht y < a + ht x)
          → rows cap a b (gapless x ∷ map gapless l) (gapless y ∷ map gapless r) ≡ rows cap a b (x ∷ l) (y ∷ r)
      go (inl p) (inl q) = rows_left cap a b (gapless x) (map gapless l) (gapless y) (map gapless r) p q ∙ f (a + ht x) b ∙ sym (rows_left cap a b x l y r p q)
      go (inl p) (inr q) = rows_right cap a b (gapless x) (map gapless l) (gapless y) (map gapless r) p q ∙ g a (b + ht y) ∙ sym (rows_right cap a b x l y r p q)
      go (inr p) q =
          rows_clash cap a b (gapless x) (map gapless l) (gapless y) (map gapless r) p
          ∙ ap (λ (k : ℕ). min (a + ht x + k) (b + ht y + rows cap 0 0 (map gapless (x ∷ l)) (map gapless r))) (f 0 0)
          ∙ ap (λ (k : ℕ). min (a + ht x + rows cap 0 0 l (y ∷ r)) (b + ht y + k)) (g 0 0)
          ∙ sym (rows_clash cap a b x l y r p)

  place_step : SameRows cap l (y ∷ r) → SameRows cap (x ∷ l) r → SamePlace cap l (y ∷ r) → SamePlace cap (x ∷ l) r → SamePlace cap (x ∷ l) (y ∷ r)
  place_step i j f g a b =
      go (order (wd x + wd y) cap) (order (a + ht x) (b + ht y)) (order (a + ht x + rows cap 0 0 l (y ∷ r)) (b + ht y + rows cap 0 0 (x ∷ l) r))
    where
      go : (wd x + wd y ≤ cap) ⊎ (cap < wd x + wd y) → (a + ht x ≤ b + ht y) ⊎ (b + ht y < a + ht x)
          → (a + ht x + rows cap 0 0 l (y ∷ r) ≤ b + ht y + rows cap 0 0 (x ∷ l) r) ⊎ (b + ht y + rows cap 0 0 (x ∷ l) r < a + ht x + rows cap 0 0 l (y ∷ r))
          → place cap a b (gapless x ∷ map gapless l) (gapless y ∷ map gapless r) ≡ place cap a b (x ∷ l) (y ∷ r)
      go (inl p) (inl q) k =
          place_left cap a b (gapless x) (map gapless l) (gapless y) (map gapless r) p q
          ∙ ap (λ (s : Starts). put_left a s) (f (a + ht x) b) ∙ sym (place_left cap a b x l y r p q)
      go (inl p) (inr q) k =
          place_right cap a b (gapless x) (map gapless l) (gapless y) (map gapless r) p q
          ∙ ap (λ (s : Starts). put_right b s) (g a (b + ht y)) ∙ sym (place_right cap a b x l y r p q)
      go (inr p) q (inl k) =
          place_left_first cap a b (gapless x) (map gapless l) (gapless y) (map gapless r) p (rw (i 0 0, j 0 0) k)
          ∙ ap (λ (s : Starts). put_left a s) (f (a + ht x) (a + ht x)) ∙ sym (place_left_first cap a b x l y r p k)
      go (inr p) q (inr k) =
          place_right_first cap a b (gapless x) (map gapless l) (gapless y) (map gapless r) p (rw (i 0 0, j 0 0) k)
          ∙ ap (λ (s : Starts). put_right b s) (g (b + ht y) (b + ht y)) ∙ sym (place_right_first cap a b x l y r p k)

pub rows_gapless : (cap : ℕ) (l r : List Component) → SameRows cap l r
unfolding rows
rows_gapless cap [] r a b = ap (λ (k : ℕ). b + k) (tall_bare r)
rows_gapless cap (x ∷ l) [] a b = ap (λ (k : ℕ). a + k) (tall_bare (x ∷ l))
rows_gapless cap (x ∷ l) (y ∷ r) a b = rows_step cap x l y r (rows_gapless cap l (y ∷ r)) (rows_gapless cap (x ∷ l) r) a b

pub place_gapless : (cap : ℕ) (l r : List Component) → SamePlace cap l r
unfolding place
place_gapless cap [] r a b = ap (λ (k : List ℕ). record { on_the_left = []; on_the_right = k }) (packed_bare b r)
place_gapless cap (x ∷ l) [] a b = ap (λ (k : List ℕ). record { on_the_left = k; on_the_right = [] }) (packed_bare a (x ∷ l))
place_gapless cap (x ∷ l) (y ∷ r) a b =
    place_step cap x l y r (rows_gapless cap l (y ∷ r)) (rows_gapless cap (x ∷ l) r) (place_gapless cap l (y ∷ r)) (place_gapless cap (x ∷ l) r) a b

pub bare_is : (hs ws gs : List ℕ) → bare hs ws ≡ map gapless (components_in hs ws gs)
bare_is hs ws gs = sym (tabulate-map gapless (component_in hs ws gs) (length hs))

map-reverse : (l r : List Component) → map gapless (reverse_aux l r) ≡ reverse_aux (map gapless l) (map gapless r)
map-reverse [] r = refl
map-reverse (x ∷ l) r = map-reverse l (x ∷ r)

pub left_gapless : (p : ℕ) (cs : List Component) → left_side p (map gapless cs) ≡ map gapless (left_side p cs)
left_gapless p cs = rw (take-map gapless p cs) (sym (map-reverse (take p cs) []))

pub right_gapless : (p : ℕ) (cs : List Component) → right_side p (map gapless cs) ≡ map gapless (right_side p cs)
right_gapless p cs = drop-map gapless p cs

pub places_gapless : (cap m p : ℕ) (cs : List Component) → group_places cap (map gapless cs) m p ≡ group_places cap cs m p
unfolding group_places
places_gapless cap m p cs = rw (left_gapless p cs, right_gapless p cs, place_gapless cap (left_side p cs) (right_side p cs) 0 0) refl

pub places_bare : (cap m p : ℕ) (hs ws gs : List ℕ) → group_places cap (components_in hs ws gs) m p ≡ group_places cap (bare hs ws) m p
places_bare cap m p hs ws gs = rw (bare_is hs ws gs) (sym (places_gapless cap m p (components_in hs ws gs)))

-- The same over the lists of a group.
module _ (hs ws gs : List ℕ) where
  left_bare : (p : ℕ) → left_side p (bare hs ws) ≡ map gapless (left_side p (components_in hs ws gs))
  left_bare p = ap (left_side p) (bare_is hs ws gs) ∙ left_gapless p (components_in hs ws gs)

  right_bare : (p : ℕ) → right_side p (bare hs ws) ≡ map gapless (right_side p (components_in hs ws gs))
  right_bare p = ap (right_side p) (bare_is hs ws gs) ∙ right_gapless p (components_in hs ws gs)

  pub rows_bare : (cap a b p q : ℕ)
      → rows cap a b (left_side p (components_in hs ws gs)) (right_side q (components_in hs ws gs)) ≡ rows cap a b (left_side p (bare hs ws)) (right_side q (bare hs ws))
  rows_bare cap a b p q = rw (left_bare p, right_bare q) (sym (rows_gapless cap (left_side p (components_in hs ws gs)) (right_side q (components_in hs ws gs)) a b))
