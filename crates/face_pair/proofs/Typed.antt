-- A gate request that is told in words of 64 bits is one that the statement allows.
-- Assumes nothing.
use Prim.Native.Nat.{ℕ, ◌^◌, ◌<◌}
use mathlib.Core.List.{List}
use native.Mathlib.Omega.{arith}
use lib.ListN.{get_or}
use Rattle.head_judging.specs.declared.Call.{Call}
use Rattle.head_laws.specs.Stated.{RequestTyped}
use Rattle.face_words.specs.Words.{upper}
use Rattle.face_head_calls.specs.Gate.{asked_of}

start_fits : (w : ℕ) → w < 2 ^ 64 → upper w < 2 ^ 32
start_fits w h = omega arith

pub gate-typed : (link : ℕ) (grants : List ℕ) (force : ℕ) → ((i : ℕ) → get_or grants i 0 < 2 ^ 64)
    → RequestTyped (Call.Gate link (asked_of grants force))
unfolding asked_of
gate-typed link grants force h =
    (start_fits (get_or grants 0 0) (h 0), start_fits (get_or grants 1 0) (h 1), start_fits (get_or grants 2 0) (h 2), start_fits (get_or grants 3 0) (h 3))
