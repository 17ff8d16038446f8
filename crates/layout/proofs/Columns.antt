-- The columns of a stack, and those of its first components and of the rest.
use Prim.Native.Nat.{ℕ, zero, suc, ◌+◌, ◌-◌, ◌≤◌, ◌<◌}
use mathlib.Core.Path.{◌≡◌, refl, sym, ◌∙◌}
use mathlib.Core.Logic.{◌⊎◌, inl, inr}
use mathlib.Core.List.{List, [], ◌∷◌, ◌++◌}
use native.Mathlib.Omega.{arith}
use lib.Dec.{eqb}
use lib.ListN.{length, get_or, take, drop, length-drop}
use lib.Seq.{length-take-le, get_or-take, get_or-drop, ext_get_or}
use Rattle.terms.specs.declared.Component.{Component}
use Rattle.terms.specs.declared.Kind.{Kind}
use Rattle.terms.specs.Component.{tabulate}
use Rattle.terms.specs.Seams.{component_in, components_in}
use Rattle.terms.proofs.Tabulate.{tabulate-length, tabulate_at, tabulate_same}
use Rattle.terms.proofs.Answers.{most_256}
use Rattle.terms.proofs.Order.{order}
use Rattle.std.proofs.lemmas.Bool.{eq-eqb, ne_eqb}
use Rattle.model.specs.Groups.{is_end}
use Rattle.terms.proofs.Lists.{Sized, AllSized}
use Rattle.group.specs.Table.{Columns}
use Rattle.group.proofs.Indices.{take-tabulate}
use Rattle.layout.specs.Plan.{StackLists}
use Rattle.layout.proofs.Bounds.{AllGaps}
use Rattle.layout.proofs.Groups.{Good}

pub columns_of : {kind : Kind} {hs ws gs : List ℕ} → StackLists kind hs ws gs → Columns hs ws
columns_of s = record { same = s.same_widths; low = s.low; slim = s.slim }

pub components_length : (hs ws gs : List ℕ) → length (components_in hs ws gs) ≡ length hs
components_length hs ws gs = tabulate-length (component_in hs ws gs) (length hs)

-- An entry of a part is one of the list, or there is none.
take_below : (k : ℕ) (l : List ℕ) (i : ℕ) → get_or (take k l) i 0 ≤ get_or l i 0
take_below zero l i = omega arith
take_below (suc k) [] i = omega arith
take_below (suc k) (x ∷ l) zero = omega arith
take_below (suc k) (x ∷ l) (suc i) = take_below k l i

take_least : (k : ℕ) (l : List ℕ) (i most : ℕ) → get_or l i 0 ≤ most → get_or (take k l) i 0 ≤ most
take_least k l i most h = omega (arith, take_below k l i)

module _ {kind : Kind} {hs ws gs : List ℕ} (s : StackLists kind hs ws gs) (k : ℕ) (h : k ≤ length hs) where
  pub lists_take : StackLists kind (take k hs) (take k ws) (take k gs)
  lists_take =
      let a = length-take-le k hs h in
      let b = length-take-le k ws (omega (arith, s.same_widths)) in
      let d = length-take-le k gs (omega (arith, s.same_seams)) in
      record {
        same_widths = omega arith;
        same_seams = omega arith;
        few = omega (arith, s.few);
        tall = λ i l. rw (get_or-take k hs i 0 (omega arith)) (s.tall i (omega arith));
        low = λ i. take_least k hs i 4000 (s.low i);
        wide = λ i l. rw (get_or-take k ws i 0 (omega arith)) (s.wide i (omega arith));
        slim = λ i. take_least k ws i 4000 (s.slim i);
        near = λ i. omega (arith, take_below k gs i, s.near i);
      }

  pub lists_drop : StackLists kind (drop k hs) (drop k ws) (drop k gs)
  lists_drop =
      let a = length-drop k hs in
      let b = length-drop k ws in
      let d = length-drop k gs in
      record {
        same_widths = omega (arith, s.same_widths);
        same_seams = omega (arith, s.same_seams);
        few = omega (arith, s.few);
        tall = λ i l. rw (get_or-drop k hs i 0) (s.tall (k + i) (omega arith));
        low = λ i. rw (get_or-drop k hs i 0) (s.low (k + i));
        wide = λ i l. rw (get_or-drop k ws i 0) (s.wide (k + i) (omega arith));
        slim = λ i. rw (get_or-drop k ws i 0) (s.slim (k + i));
        near = λ i. rw (get_or-drop k gs i 0) (s.near (k + i));
      }

module _ {A : Type 0} (g : ℕ → A) (n k : ℕ) (h : k ≤ n) where
  pub tabulate_rest : drop k (tabulate g n) ≡ tabulate (λ i. g (k + i)) (n - k)
  tabulate_rest =
      let a = length-drop k (tabulate g n) in
      let b = tabulate-length g n in
      ext_get_or (g 0) (drop k (tabulate g n)) (tabulate (λ i. g (k + i)) (n - k)) (omega (arith, tabulate-length (λ i. g (k + i)) (n - k)))
      (λ i l. get_or-drop k (tabulate g n) i (g 0) ∙ tabulate_at g n (k + i) (g 0) (omega arith) ∙ sym (tabulate_at (λ i. g (k + i)) (n - k) i (g 0) (omega arith)))

module _ (hs ws gs : List ℕ) (k : ℕ) (h : k ≤ length hs) where
  pub components_take : components_in (take k hs) (take k ws) (take k gs) ≡ take k (components_in hs ws gs)
  components_take =
      rw (length-take-le k hs h, take-tabulate (component_in hs ws gs) (length hs) k h)
      (tabulate_same (component_in (take k hs) (take k ws) (take k gs)) (component_in hs ws gs) k (λ i l. rw (get_or-take k hs i 0 l, get_or-take k ws i 0 l, get_or-take k gs i 0 l)))

  pub components_drop : components_in (drop k hs) (drop k ws) (drop k gs) ≡ drop k (components_in hs ws gs)
  components_drop =
      rw (length-drop k hs, tabulate_rest (component_in hs ws gs) (length hs) k h)
      (tabulate_same (component_in (drop k hs) (drop k ws) (drop k gs)) (λ i. component_in hs ws gs (k + i)) (length hs - k) (λ i l. rw (get_or-drop k hs i 0, get_or-drop k ws i 0, get_or-drop k gs i 0)))

sized_last : (cs : List Component) (c : Component) → AllSized cs → Sized c → AllSized (cs ++ (c ∷ []))
sized_last [] c s t = (t, tt)
sized_last (d ∷ cs) c s t = (s.0, sized_last cs c s.1 t)

sized_tabulate : (g : ℕ → Component) (n : ℕ) → ((i : ℕ) → i < n → Sized (g i)) → AllSized (tabulate g n)
unfolding tabulate
sized_tabulate g zero s = tt
sized_tabulate g (suc n) s = sized_last (tabulate g n) (g n) (sized_tabulate g n (λ i l. s i (omega arith))) (s n (omega arith))

pub sized_lists : {kind : Kind} {hs ws gs : List ℕ} → StackLists kind hs ws gs → AllSized (components_in hs ws gs)
sized_lists {hs = hs} {ws = ws} {gs = gs} s =
    sized_tabulate (component_in hs ws gs) (length hs)
    (λ i l. record { height_some = s.tall i l; height_most = s.low i; width_some = s.wide i l; width_most = s.slim i })

gaps_tabulate : (g : ℕ → Component) (n : ℕ) → ((i : ℕ) → (g i).gap.0 ≤ 4000) → AllGaps (tabulate g n)
unfolding tabulate
gaps_tabulate g zero h = tt
gaps_tabulate g (suc n) h = last (tabulate g n) (gaps_tabulate g n h)
  where
    last : (cs : List Component) → AllGaps cs → AllGaps (cs ++ (g n ∷ []))
    last [] a = (h n, tt)
    last (c ∷ cs) a = (a.0, last cs a.1)

pub good_lists : {kind : Kind} {hs ws gs : List ℕ} → StackLists kind hs ws gs → Good (components_in hs ws gs)
good_lists {kind} {hs} {ws} {gs} s = record {
  few = omega (arith, components_length hs ws gs, s.few, most_256 kind);
  sized = sized_lists s;
  gapped = gaps_tabulate (component_in hs ws gs) (length hs) s.near;
}

-- Behind how many components nothing follows.
pub end_drop : (cs : List Component) (k : ℕ) → k ≤ length cs → eqb k (length cs) ≡ is_end (drop k cs)
end_drop [] zero h = refl
end_drop [] (suc k) h = absurd (omega arith)
end_drop (x ∷ cs) zero h = ne_eqb 0 (suc (length cs)) (λ e. omega arith)
end_drop (x ∷ cs) (suc k) h = go (order (length cs) k) (end_drop cs k (omega arith))
  where
    go : (length cs ≤ k) ⊎ (k < length cs) → eqb k (length cs) ≡ is_end (drop k cs) → eqb (suc k) (suc (length cs)) ≡ is_end (drop k cs)
    go (inl o) e = eq-eqb (suc k) (suc (length cs)) (omega arith) ∙ sym (eq-eqb k (length cs) (omega arith)) ∙ e
    go (inr o) e = ne_eqb (suc k) (suc (length cs)) (λ z. omega arith) ∙ sym (ne_eqb k (length cs) (λ z. omega arith)) ∙ e
