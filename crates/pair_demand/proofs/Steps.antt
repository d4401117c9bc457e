-- Ways to show that a call has the laws of one call, for either end. Assumes nothing.
use mathlib.Core.Bool.{Bool}
use mathlib.Core.List.{[]}
use Prim.Native.Nat.{ℕ}
use native.Mathlib.Omega.{arith}
use Rattle.pair_demand.specs.Run.{End}
use Rattle.pair_demand.specs.Laws.{Gauge, Step}

module _ {In Out : Type 0} {E : End In Out} {G : Gauge E} {Alive : E.State → Type 0} {lives : Out → Bool} where
  -- a call that leaves the state as it is, and hands out nothing: a refusal, or a message that finds no step
  pub same : {kept : Bool} {n : ℕ} {s : E.State} → G.Ok s → Step E G Alive lives 0 kept s (record { reply = n; next = s; sent = [] })
  same o = record { ok = o; dog-falls = λ e p r. (r, omega arith); wait-falls = λ p w w'. omega arith; silent = λ q q'. tt }
