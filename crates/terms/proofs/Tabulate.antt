-- Laws of `tabulate`: its length, its elements, and what is left of it from an index on.
use Prim.Native.Nat.{ℕ, zero, suc, ◌+◌, ◌<◌, ◌≤◌}
use mathlib.Core.Path.{◌≡◌, refl, ap, sym, ◌∙◌}
use mathlib.Core.Logic.{◌⊎◌, inl, inr}
use mathlib.Core.List.{List, [], ◌∷◌, ◌++◌, map}
use native.Mathlib.Nat.{eq-or-lt_of_le, le_of_suc-le-suc}
use native.Mathlib.Numerals.{add-one}
use native.Mathlib.Omega.{arith}
use lib.ListN.{length, get_or, drop, set, length-append, drop_of_length-le, get_or-append}
use lib.Seq.{drop-cons, set_at, append_snoc, get_or_at}
use Rattle.std.proofs.lemmas.List.{map-append}
use Rattle.terms.specs.Component.{tabulate}

module _ {A : Type 0} (g : ℕ → A) where
  pub tabulate-length : (n : ℕ) → length (tabulate g n) ≡ n
  unfolding tabulate
  tabulate-length zero = refl
  tabulate-length (suc n) = rw (length-append, tabulate-length n, add-one)

  pub tabulate_at : (n i : ℕ) (d : A) → i < n → get_or (tabulate g n) i d ≡ g i
  unfolding tabulate
  tabulate_at zero i d h = absurd (omega arith)
  tabulate_at (suc n) i d h = go (eq-or-lt_of_le (le_of_suc-le-suc h)) (tabulate_at n i d)
    where
      go : (i ≡ n) ⊎ (i < n) → (i < n → get_or (tabulate g n) i d ≡ g i) → get_or (tabulate g n ++ (g n ∷ [])) i d ≡ g i
      go (inl e) k = rw e (get_or_at (tabulate g n) (g n) [] d n (tabulate-length n))
      go (inr l) k = get_or-append (tabulate g n) (g n ∷ []) d i (omega (arith, tabulate-length n)) ∙ k l

  pub tabulate-drop : (n i : ℕ) → i < n → drop i (tabulate g n) ≡ g i ∷ drop (i + 1) (tabulate g n)
  tabulate-drop n i h =
      rw add-one (drop-cons (tabulate g n) i (g 0) (omega (arith, tabulate-length n)) ∙ rw (tabulate_at n i (g 0) h))

  pub tabulate_end : (n i : ℕ) → n ≤ i → drop i (tabulate g n) ≡ []
  tabulate_end n i h = drop_of_length-le (tabulate g n) {i = i} (omega (arith, tabulate-length n))

  pub tabulate_front : (n : ℕ) → tabulate g (suc n) ≡ g 0 ∷ tabulate (λ i. g (suc i)) n
  unfolding tabulate
  tabulate_front zero = refl
  tabulate_front (suc n) = ap (λ (l : List A). l ++ (g (suc n) ∷ [])) (tabulate_front n)

pub tabulate_same : {A : Type 0} (g h : ℕ → A) (n : ℕ) → ((i : ℕ) → i < n → g i ≡ h i) → tabulate g n ≡ tabulate h n
unfolding tabulate
tabulate_same g h zero e = refl
tabulate_same g h (suc n) e = rw (tabulate_same g h n (λ i l. e i (omega arith)), e n (omega arith))

-- A loop that writes element i in its turn i has filled a list so far.
pub tabulate-set : {A : Type 0} (g : ℕ → A) (old : List A) (i : ℕ) → i < length old → set (tabulate g i ++ drop i old) i (g i) ≡ tabulate g (i + 1) ++ drop (i + 1) old
unfolding tabulate
tabulate-set g old i h =
    rw (add-one, drop-cons old i (g i) h, set_at (tabulate g i) (get_or old i (g i)) (drop (suc i) old) (g i) i (tabulate-length g i))
    (sym (append_snoc (tabulate g i) (g i) (drop (suc i) old)))

pub tabulate-map : {A B : Type 0} (f : A → B) (g : ℕ → A) (n : ℕ) → map f (tabulate g n) ≡ tabulate (λ i. f (g i)) n
unfolding tabulate
tabulate-map f g zero = refl
tabulate-map {A} {B} f g (suc n) = map-append f (tabulate g n) (g n ∷ []) ∙ ap (λ (l : List B). l ++ (f (g n) ∷ [])) (tabulate-map f g n)
