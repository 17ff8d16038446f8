-- Halving with searches finds the least width at which a group is within a limit: a success goes down to `fit`, a failure up to
-- `clash`.
use Prim.Native.Nat.{ℕ, zero, suc, ◌≤◌, ◌<◌, max}
use mathlib.Core.Bool.{Bool, true, false}
use mathlib.Core.Path.{◌≡◌, refl, ◌∙◌}
use mathlib.Core.Logic.{◌⊎◌, inl, inr, ⊎_elim}
use mathlib.Core.List.{List, [], ◌∷◌, ◌++◌}
use native.Mathlib.Omega.{arith}
use lib.ListN.{length}
use Rattle.std.specs.Prelude.{Some, None}
use Rattle.terms.specs.declared.Component.{Component}
use Rattle.terms.specs.declared.Kind.TheVariants.{Nested}
use Rattle.terms.specs.Component.{tabulate}
use Rattle.terms.specs.Seams.{component_in, components_in}
use Rattle.terms.proofs.Order.{order}
use Rattle.terms.proofs.Tabulate.{tabulate-length}
use Rattle.group.specs.Rows.{wd}
use Rattle.group.specs.Group.{widest, may_stand, least_height, least_width}
use Rattle.group.proofs.Ways.{width_is, height_some}
use Rattle.group.proofs.Falls.{falls}
use Rattle.group.proofs.First.{first_is}
use Rattle.group.proofs.Exact.{least_keeps}
use Rattle.group_height.specs.Heights.{flat_rows}
use Rattle.group_search.specs.Inner.{Bordered, SearchAsks, Missed, FirstCap}
use Rattle.model.specs.Outlines.{outline}
use Rattle.group_search.specs.Widths.{Over, LowAsks, Narrow}
use Rattle.group_search.proofs.Searching.{least_flat}

-- The widest component of a group.
widest_snoc : (l : List Component) (x : Component) → widest (l ++ (x ∷ [])) ≡ max (widest l) (wd x)
unfolding widest
widest_snoc [] x = omega arith
widest_snoc (y ∷ l) x = omega (arith, widest_snoc l x)

widest_le : (g : ℕ → Component) (n : ℕ) → ((i : ℕ) → wd (g i) ≤ 4000) → widest (tabulate g n) ≤ 4000
unfolding widest tabulate
widest_le g zero h = omega arith
widest_le g (suc n) h = omega (arith, widest_snoc (tabulate g n) (g n), widest_le g n h, h n)

-- Between lo and hi is the least width; from `low` on all below lo are too narrow, and hi, which is at most the cap, is not.
pub record Halving (last : Bool) (g0 : ℕ) (hs ws gs es : List ℕ) (limit low cap lo hi v : ℕ) : Type 0 where
  pub borders : Bordered hs es
  pub from : low ≤ lo
  pub order : lo ≤ hi
  pub to : hi ≤ cap
  pub height : v ≡ least_height Nested last g0 (components_in hs ws gs) hi
  pub within : v ≤ limit
  pub over : Over last g0 hs ws gs limit low lo

module _ {last : Bool} {g0 flat : ℕ} {hs ws gs es : List ℕ} {limit wide low cap : ℕ} (r : LowAsks last g0 flat hs ws gs es limit wide low cap) where
  abbrev cs : List Component
  cs = components_in hs ws gs

  pub cap_low : cap ≤ 8000
  cap_low = omega (arith, r.asks.to, r.asks.is_widest, widest_le (component_in hs ws gs) (length hs) r.asks.asks.table.columns.slim)

  pub asks_at : (fs : List ℕ) (c d : ℕ) → Bordered hs fs → c ≤ d → d ≤ cap → SearchAsks g0 flat hs ws gs fs limit c d
  asks_at fs c d b o l =
      let a = r.asks.asks in
      record {
        asks = record { table = record { columns = a.table.columns; few = a.table.few; room = b.room }; some = a.some; seams_long = a.seams_long; gaps_low = a.gaps_low; first_low = a.first_low; free = a.free };
        is_flat = r.is_flat;
        borders = b;
        limit_low = r.asks.limit_low;
        ordered = o;
        cap_low = omega (arith, cap_low);
      }

  -- Too high even at the cap.
  too_high : limit < least_height Nested last g0 cs cap → Narrow last g0 hs ws gs limit cap None
  too_high o = record {
    within = λ u. absurd (omega (arith, least_keeps (may_stand Nested last) g0 cs limit (omega (arith, cap_low)), falls (may_stand Nested last) g0 cs (least_width Nested last g0 cs limit) cap u));
    over = λ u. refl;
  }

  -- Below the greatest cap a search starts only where the group keeps the limit.
  pub not_met : {top least : ℕ} → FirstCap (flat_rows last flat) limit low cap top → Missed last g0 hs ws gs limit top least → Narrow last g0 hs ws gs limit cap None
  not_met {top} {least} f s = go (order cap top)
    where
      kept : (b : Bool) → last ≡ b → flat_rows b flat ≤ limit → least_height Nested last g0 cs top ≤ limit
      kept true e k =
          let n : 0 < length cs = omega (arith, tabulate-length (component_in hs ws gs) (length hs), r.asks.asks.some) in
          omega (arith, r.is_flat, least_flat last g0 cs n r.asks.asks.free top e)
      kept false e k = absurd (omega (arith, r.asks.limit_low))

      go : (cap ≤ top) ⊎ (top < cap) → Narrow last g0 hs ws gs limit cap None
      go (inl k) = let z : cap ≡ top = omega (arith, f.to) in too_high (rw z (s.over top s.clashes))
      go (inr k) = absurd (omega (arith, kept last refl (f.keeps k), s.over top s.clashes))

  module _ {fs : List ℕ} {lo hi v : ℕ} (i : Halving last g0 hs ws gs fs limit low cap lo hi v) where
    all_over : Over last g0 hs ws gs limit wide lo
    all_over c l u = ⊎_elim (λ (n : low ≤ c). i.over c n u) (λ (n : c < low). r.over c l n) (order low c)

    pub halved : hi ≤ lo → Narrow last g0 hs ws gs limit cap (Some (outline hi v))
    halved h =
        let k : least_width Nested last g0 cs limit ≡ hi =
        width_is (may_stand Nested last) cs g0 limit (height_some (may_stand Nested last) cs g0 hi (omega (arith, i.height, i.within, r.asks.limit_low)))
        ∙ first_is (least_height Nested last g0 cs) limit (widest cs) (suc (widest cs)) hi (omega (arith, i.from, i.order, r.from, r.asks.is_widest)) (omega (arith, i.to, r.asks.to, r.asks.is_widest)) (omega (arith, i.height, i.within))
        (λ j l u. all_over j (omega (arith, r.asks.is_widest)) (omega arith)) in
        record { within = λ u. cc (k, i.height); over = λ u. absurd (omega (arith, i.to)) }
