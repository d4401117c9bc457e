-- The range test sees to the source of what is heard, the soundness of the box to that of its frames.
-- Assumes nothing.
use Rattle.std.proofs.Common.{Option, None, Some}
use Prim.Native.Nat.{ℕ, zero, suc, ◌+◌, ◌^◌, ◌<◌}
use mathlib.Core.Path.{ap}
use native.Mathlib.Omega.{arith}
use lib.Dec.{eqb}
use Rattle.frame.specs.declared.Body.{Body}
use Rattle.laws.specs.Cases.{either}
use Rattle.laws.specs.Ticks.{ticks}
use Rattle.clock.specs.Numbers.{is_in_reach}
use Rattle.clock.specs.declared.Count.{Count}
use Rattle.frame.specs.Layout.{encode}
use Rattle.frame.specs.Range.{Valid}
use Rattle.frame.specs.declared.Address.{Address}
use Rattle.frame.specs.declared.Message.{Message}
use Rattle.frame.specs.declared.Reply.TheVariants.{Done}
use Rattle.frame_range.specs.Laws.{message-parts}
use Rattle.frame_reader.proofs.Forth.{source-encoded}
use Rattle.box_telling.specs.Told.{no_frames, handed}
use Rattle.box_telling.specs.declared.Frames.{Frames}
use Rattle.box_calls.specs.Advance.{is_done, is_silent, again, out, advance_of}
use Rattle.box_calls.specs.Answer.{bare, message_of, accepted}
use Rattle.box_calls.specs.Box.{sound_of}
use Rattle.box_calls.specs.declared.Advanced.{Advanced}
use Rattle.box_calls.specs.declared.Answer.{Answer}
use Rattle.box_calls.specs.declared.FloorBox.{FloorBox}
use Rattle.box_laws.specs.Calls.{step, Outcome, unsound, refuses, accepts, outcome, call-accepted}
use Rattle.box_laws.specs.Frames.{Handed}
use Rattle.box_laws.proofs.Frames.{step_count, call-frames}
use Rattle.box_laws.specs.Sources.{HeardSource, Sourced, SentSource, AdvanceSource}
use Rattle.box_laws.specs.Stated.{Call, hear, tick, answer, CallTyped}
use Rattle.box_laws.proofs.Activated.{activate-leaves}

-- what is heard
pub heard-source : HeardSource
unfolding HeardSource
heard-source b m random d = (message-parts m (call-accepted (hear m random) b d).passed.1.1.0).1

-- what is handed out
none-sourced : Sourced no_frames
none-sourced = record { first = λ k. absurd (omega (arith, k)); second = λ k. absurd (omega (arith, k)) }

one-sourced : (m : Message) → Valid m → Sourced (handed no_frames (encode m))
unfolding handed
one-sourced m v = record { first = λ _. source-encoded m v; second = λ k. absurd (omega (arith, k)) }

handed-sourced : (own : Address) (now : Count) (one two : Option Body) (f : Frames) → Handed own now one two f → Sourced f
unfolding handed
handed-sourced own now None None f h = rw h.frames none-sourced
handed-sourced own now None (Some body) f h = rw h.frames (one-sourced (message_of own now body) h.second-valid)
handed-sourced own now (Some body) None f h = rw h.frames (one-sourced (message_of own now body) h.first-valid)
handed-sourced own now (Some body) (Some other) f h =
    rw h.frames
    (record {
      first = λ _. source-encoded (message_of own now body) h.first-valid;
      second = λ _. source-encoded (message_of own now other) h.second-valid;
    })

module _ (c : Call) (b : FloorBox) (t : CallTyped c) (k : b.processes.count.0 < 2 ^ 32) where
  sent-by : Outcome c b (answer c b) → Sourced (answer c b).frames
  unfolding accepted
  sent-by (unsound s e) = rw e none-sourced
  sent-by (refuses s r n u e) = rw e none-sourced
  sent-by (accepts s h e) = handed-sourced _ _ _ _ _ (call-frames c b t k (ap (λ (x : Answer). x.reply) e))

  -- and the count stays one
  count_by : Outcome c b (answer c b) → (answer c b).next.processes.count.0 < 2 ^ 32
  unfolding accepted
  count_by (unsound s e) = rw e k
  count_by (refuses s r n u e) = rw e k
  count_by (accepts s h e) = rw (e, (activate-leaves (step c b).next).0) (step_count c b t h k)

pub sent-source : SentSource
unfolding SentSource
sent-source c b t k = sent-by c b t k (outcome c b)

-- in the last of several ticks
abbrev Goes : Answer → Type 0
Goes r = Sourced r.frames × (r.next.processes.count.0 < 2 ^ 32)

goes_on : (r : Answer) → Goes r → Goes (again r)
goes_on r g = (sent-by tick r.next tt g.1 (outcome tick r.next), count_by tick r.next tt g.1 (outcome tick r.next))

abbrev Ends : Advanced → Type 0
Ends x = Sourced x.answer.frames

ticks-sourced : (k m : ℕ) (r : Answer) → Goes r → Ends (ticks again is_done is_silent out k r m)
unfolding ticks
ticks-sourced zero m r g = g.0
ticks-sourced (suc k) m r g =
    either Ends (is_silent r) _ _
    (λ _.
    either Ends (is_done (again r)) _ _ (λ _. ticks-sourced k (m + 1) (again r) (goes_on r g))
    (λ _. either Ends (eqb m 0) _ _ (λ _. (goes_on r g).0) (λ _. g.0)))
    (λ _. g.0)

pub advance-source : AdvanceSource
unfolding AdvanceSource advance_of
advance-source b n k =
    either Ends (sound_of b) _ _
    (λ _. either Ends (is_in_reach n) _ _ (λ _. ticks-sourced n 0 (bare b Done) (none-sourced, k)) (λ _. none-sourced))
    (λ _. none-sourced)
