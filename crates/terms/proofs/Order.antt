-- Two numbers in order.
use Prim.Native.Nat.{ℕ, ◌≤◌, ◌<◌}
use mathlib.Core.Logic.{◌⊎◌, inl, inr}
use native.Mathlib.Decide.{dec_le}
use native.Mathlib.Omega.{arith}

pub order : (a b : ℕ) → (a ≤ b) ⊎ (b < a)
order a b = elim (dec_le a b) [ yes h ↦ inl h | no h ↦ inr (omega arith) ]
