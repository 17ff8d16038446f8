-- The recurrence, whatever its step: the best layout is no worse than any first group in front of the best layout of the
-- rest, and is one of these.
use Prim.Native.Nat.{ℕ, zero, suc, ◌+◌, ◌≤◌, ◌<◌}
use mathlib.Core.Path.{◌≡◌, ap, ◌∙◌, subst}
use mathlib.Core.List.{List, [], ◌∷◌, ◌++◌}
use native.Mathlib.Omega.{arith}
use lib.ListN.{length, take, drop, length-append, length-drop}
use lib.Seq.{take-append_seam, drop-append_seam}
use Rattle.model.specs.Groups.{none, is_end, gap_behind}
use Rattle.model.specs.Layout.{Layout, empty, NoWorse, Step, layouts_by, layout_by}
use Rattle.model.proofs.Scan.{scan_no_worse, scan_met, layout_empty, later_at}

module _ {C : Type 0} (gap : C → ℕ) (step : Step C) where
  -- A group in front of the best layout of the rest; k is the number of the group's components.
  abbrev pub front : ℕ → List C → List C → ℕ → Layout
  front g0 gs cs k = step g0 (is_end cs) gs (layout_by gap step (gap_behind gap gs) cs) k

  -- The same for the first k components of a stack.
  abbrev pub rest_of : List C → ℕ → Layout
  rest_of cs k = layout_by gap step (gap_behind gap (take k cs)) (drop k cs)

  abbrev pub front_at : ℕ → List C → ℕ → Layout
  front_at g0 cs k = front g0 (take k cs) (drop k cs) k

  end_no_worse : (g0 : ℕ) (x : C) (cs : List C) (k : ℕ) → k ≤ length cs
      → NoWorse (layout_by gap step g0 (x ∷ cs)) (front_at g0 (x ∷ cs) (suc k)).width (front_at g0 (x ∷ cs) (suc k)).height
  unfolding layouts_by
  end_no_worse g0 x cs k h =
      let at : Layout → Layout = λ rest. step g0 (is_end (drop (suc k) (x ∷ cs))) (take (suc k) (x ∷ cs)) rest (suc k) in
      subst (λ (rest : Layout). NoWorse (layout_by gap step g0 (x ∷ cs)) (at rest).width (at rest).height) (later_at gap step x cs k h)
      (scan_no_worse step g0 (x ∷ cs) (layouts_by gap step (gap x) cs) (suc (length cs)) k (omega arith))

  same_front : (g0 k : ℕ) (gs gs' cs cs' : List C) → gs ≡ gs' → cs ≡ cs' → front g0 gs cs k ≡ front g0 gs' cs' k
  same_front g0 k gs gs' cs cs' e f = ap (λ (l : List C). front g0 l cs k) e ∙ ap (λ (l : List C). front g0 gs' l k) f

  pub front_no_worse : (g0 : ℕ) (gs cs : List C) → 0 < length gs
      → NoWorse (layout_by gap step g0 (gs ++ cs)) (front g0 gs cs (length gs)).width (front g0 gs cs (length gs)).height
  front_no_worse g0 [] cs p = absurd (omega arith)
  front_no_worse g0 (x ∷ gs) cs p =
      subst (λ (b : Layout). NoWorse (layout_by gap step g0 (x ∷ (gs ++ cs))) b.width b.height)
      (same_front g0 (suc (length gs)) _ (x ∷ gs) _ cs (take-append_seam (x ∷ gs) cs) (drop-append_seam (x ∷ gs) cs))
      (end_no_worse g0 x (gs ++ cs) (length gs) (omega (arith, length-append gs cs)))

  -- The first group of the best layout, where there is one.
  pub record Chosen (g0 : ℕ) (cs : List C) : Type 0 where
    pub end : ℕ
    pub some : 0 < end
    pub within : end ≤ length cs
    pub is : layout_by gap step g0 cs ≡ front_at g0 cs end

  pub chosen : (g0 : ℕ) (cs : List C) → 0 < length cs → (layout_by gap step g0 cs).width < none → Chosen g0 cs
  unfolding layouts_by
  chosen g0 [] p h = absurd (omega arith)
  chosen g0 (x ∷ cs) p h =
      let r = scan_met step g0 (x ∷ cs) (layouts_by gap step (gap x) cs) (suc (length cs)) h in
      let k = r.0 in
      record {
        end = suc k;
        some = omega arith;
        within = r.1;
        is = r.2 ∙ ap (λ (rest : Layout). step g0 (is_end (drop k cs)) (x ∷ take k cs) rest (suc k)) (later_at gap step x cs k (omega (arith, r.1)));
      }

  -- P goes from the rest to a first group in front of it. m counts groups.
  abbrev pub Extends : (ℕ → ℕ → List C → Layout → Type 0) → Type 0
  Extends P = (m g0 : ℕ) (cs : List C) (k : ℕ) → 0 < k → k ≤ length cs → (front_at g0 cs k).width < none
      → ((rest_of cs k).width < none → P (m + 1) (gap_behind gap (take k cs)) (drop k cs) (rest_of cs k)) → P m g0 cs (front_at g0 cs k)

  -- What holds of nothing, and of a first group in front of a rest of which it holds, holds of the best layout, where
  -- there is one.
  module _ (P : ℕ → ℕ → List C → Layout → Type 0) (none_left : (m g0 : ℕ) → P m g0 [] empty) (one_more : Extends P) where
    every_in : (n m g0 : ℕ) (cs : List C) → length cs ≤ n → (layout_by gap step g0 cs).width < none → P m g0 cs (layout_by gap step g0 cs)
    every_in zero m g0 [] d h = rw (layout_empty gap step g0) (none_left m g0)
    every_in zero m g0 (x ∷ cs) d h = absurd (omega arith)
    every_in (suc n) m g0 [] d h = rw (layout_empty gap step g0) (none_left m g0)
    every_in (suc n) m g0 (x ∷ cs) d h = go (chosen g0 (x ∷ cs) (omega arith) h) (λ g bs e. every_in n (m + 1) g bs e)
      where
        go : Chosen g0 (x ∷ cs) → ((g : ℕ) (bs : List C) → length bs ≤ n → (layout_by gap step g bs).width < none → P (m + 1) g bs (layout_by gap step g bs)) → P m g0 (x ∷ cs) (layout_by gap step g0 (x ∷ cs))
        go c i =
            let k = c.end in
            rw c.is (one_more m g0 (x ∷ cs) k c.some c.within (rw c.is at h)
            (i (gap_behind gap (take k (x ∷ cs))) (drop k (x ∷ cs)) (omega (arith, length-drop k (x ∷ cs), c.some, c.within))))

    pub every_layout : (m g0 : ℕ) (cs : List C) → (layout_by gap step g0 cs).width < none → P m g0 cs (layout_by gap step g0 cs)
    every_layout m g0 cs h = every_in (length cs) m g0 cs (omega arith) h
