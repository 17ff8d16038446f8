-- The laws of the outward search, for any t: what two offers, a turn, a turn left out, a new row and starting do, and what is
-- known at the end.
use Prim.Native.Nat.{ℕ, ◌+◌, ◌-◌, ◌*◌, ◌≤◌, ◌<◌, min}
use mathlib.Core.Path.{◌≡◌}
use mathlib.Core.Logic.{◌⊎◌, inl, inr}
use mathlib.Core.List.{List}
use native.Mathlib.Omega.{arith}
use lib.ListN.{get_or}
use Rattle.terms.proofs.Order.{order}
use Rattle.group_search.specs.Outward.{Under, Same, Adds, Fresh, LeastFound}

pub same_trans : {t : ℕ → ℕ → ℕ} {m : ℕ} {e f g : List ℕ} {p q a p' q' a' p'' q'' a'' : ℕ} → Same t m e p q a f p' q' a' → Same t m f p' q' a' g p'' q'' a'' → Same t m e p q a g p'' q'' a''
same_trans i j = record { on = λ b u. j.on b (i.on b u); back = λ b u. i.back b (j.back b u) }

module _ (t : ℕ → ℕ → ℕ) (m : ℕ) (few : m ≤ 64) where
  -- What is no less than the height found already; two offers.
  pub adds_nothing : (es : List ℕ) (p q end v : ℕ) → end ≤ v → Adds t m es end es end p q v
  adds_nothing es p q end v h = record { on = λ b i l. i; back = λ b i. i; here = λ b i. omega (arith, i.found) }

  pub adds_both : {e f g : List ℕ} {k l n p q v w : ℕ} → Adds t m e k f l p q v → Adds t m f l g n p q w → Adds t m e k g n p q (min v w)
  adds_both i j = record {
    on = λ b u h. j.on b (i.on b u (omega arith)) (omega arith);
    back = λ b u. i.back b (j.back b u);
    here = λ b u. omega (arith, j.here b u, i.here b (j.back b u));
  }

  -- The turn of (p, q): what it leads to is added to what the others lead to.
  module _ (es : List ℕ) (p q end : ℕ) (some : 0 < p) (ordered : p ≤ q) (more : q < m) where
    turn_on : (b : ℕ) → Under t m es p q end b → Under t m es p (q + 1) end b
    turn_on b i = record { found = i.found; to_come = λ x y s o l r. i.to_come x y s o l (omega arith) }

    turn_back : (b : ℕ) → Under t m es p (q + 1) end b → b ≤ get_or es (p * 65 + q) 0 + t p q → Under t m es p q end b
    turn_back b i h = record { found = i.found; to_come = λ x y s o l r. go x y (order (x * 65 + (q + 1)) (p * 65 + y)) s o l r }
      where
        go : (x y : ℕ) → (x * 65 + (q + 1) ≤ p * 65 + y) ⊎ (p * 65 + y < x * 65 + (q + 1)) → 0 < x → x ≤ y → y < m → x * 65 + q ≤ p * 65 + y → b ≤ get_or es (x * 65 + y) 0 + t x y
        go x y (inl k) s o l r = i.to_come x y s o l k
        go x y (inr k) s o l r =
            let a : x ≡ p = omega arith in
            let c : y ≡ q = omega arith in
            rw (a, c) h

    pub turn_over : (new : List ℕ) (end' : ℕ) → Adds t m es end new end' p (q + 1) (get_or es (p * 65 + q) 0 + t p q) → Same t m es p q end new p (q + 1) end'
    turn_over new end' a = record {
      on = λ b i. a.on b (turn_on b i) (i.to_come p q some ordered more (omega arith));
      back = λ b i. turn_back b (a.back b i) (a.here b i);
    }

  -- A row is over and the next one begins.
  pub next_row : (es : List ℕ) (p end : ℕ) → 0 < p → p ≤ m → Same t m es p m end es (p - 1) (p - 1) end
  next_row es p end h k = record {
    on = λ b i. record { found = i.found; to_come = λ x y s o l r. i.to_come x y s o l (omega arith) };
    back = λ b i. record { found = i.found; to_come = λ x y s o l r. i.to_come x y s o l (omega arith) };
  }

  module _ (gaps : ℕ → ℕ) (es : List ℕ) (end : ℕ) (fresh : Fresh m gaps es) (low : end ≤ 4000000) where
    start_under : (b : ℕ) → b ≤ end → ((x : ℕ) → 0 < x → x < m → b ≤ gaps x + t x x) → Under t m es m m end b
    start_under b h f = record { found = h; to_come = λ x y s o l r. go x y s l (order y x) o }
      where
        go : (x y : ℕ) → 0 < x → y < m → (y ≤ x) ⊎ (x < y) → x ≤ y → b ≤ get_or es (x * 65 + y) 0 + t x y
        go x y s l (inl k) o = let z : y ≡ x = omega arith in rw z (omega (arith, fresh.fold x s (omega arith), f x s (omega arith)))
        go x y s l (inr k) o = omega (arith, fresh.far x y s k l)

    -- When all entries have had their turn, the height found is the least of all folds and of what was there at the start.
    pub all_found : (new : List ℕ) (end' : ℕ) → Same t m es m m end new 1 m end' → LeastFound t m gaps end end'
    all_found new end' s =
        let i : Under t m es m m end end' = s.back end' record { found = omega arith; to_come = λ x y h o l r. absurd (omega arith) } in
        record {
          from_start = i.found;
          from_fold = λ x h l. omega (arith, i.to_come x x h (omega arith) l (omega arith), fresh.fold x h l);
          no_less = λ b h f. (s.on b (start_under b h f)).found;
        }
