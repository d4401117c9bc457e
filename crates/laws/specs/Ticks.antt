-- Rules R193 to R195, over any end: ticks one after the other, as many as are asked for, none behind one that hands something out and
-- none that would be refused.
-- Assumes nothing.
use Rattle.std.specs.Prelude.{ℕ, ◌+◌, zero, suc, Bool, cond, eqb}

-- an answer says what its tick left; `again` is the tick after it, `out` the reply to the call with the number of ticks made
module _ {A R : Type 0} (again : A → A) (done silent : A → Bool) (out : A → ℕ → R) where
  -- at most k ticks more, where m are made and r is the answer of the last; before the first, r hands out nothing and m is 0
  unfoldable pub ticks : ℕ → A → ℕ → R
  ticks zero r m = out r m
  ticks (suc k) r m =
      let x = again r in
      let more = ticks k x (m + 1) in
      -- the last one made handed out a frame or a notice
      cond (silent r)
      -- the next would be refused; if that is the first, its refusal is the answer
      (cond (done x) more (cond (eqb m 0) (out x 0) (out r m)))
      (out r m)
