-- Lemmas: R99: the frames of an accepted call are the encodings of valid messages.
-- Assumes nothing.
use Rattle.std.specs.Prelude.{Option, None, Some, ◌^◌, ◌<◌, ◌≡◌, refl, true, eqb, ℤ}
use Rattle.std.proofs.Common.{ap, ◌∙◌, arith}
use Rattle.std.proofs.Math.Bool.{and-eq-true_iff}
use Rattle.clock.specs.Counts.{next_of}
use Rattle.clock.specs.declared.Count.{Count}
use Rattle.frame_queues.proofs.Fitting.{sets-fit}
use Rattle.frame.specs.Range.{BodyFits, Valid}
use Rattle.frame.specs.Tests.{Passed}
use Rattle.frame.specs.declared.Address.{Address}
use Rattle.frame.specs.declared.Body.{Body}
use Rattle.frame.specs.declared.Reply.TheVariants.{Done}
use Rattle.frame.specs.declared.Writing.{Writing}
use Rattle.frame_range.specs.Fits.{is_individual}
use Rattle.frame_range.specs.Laws.{valid-of}
use Rattle.frame_writer.proofs.Page.{write_done}
use Rattle.box_telling.specs.Told.{no_frames, handed}
use Rattle.box_telling.specs.declared.Frames.{Frames}
use Rattle.box_processes.specs.Parts.{with_count}
use Rattle.box_processes.specs.Sound.{sound_of as processes_sound}
use Rattle.box_processes.specs.declared.Step.{Step}
use Rattle.box_calls.specs.Answer.{message_of, framed, accepted}
use Rattle.box_calls.specs.Box.{sound_of}
use Rattle.box_calls.specs.declared.FloorBox.{FloorBox}
use Rattle.box_laws.specs.Calls.{tests, step, drift, call-accepted}
use Rattle.box_laws.specs.Stated.{Call, register, deregister, report, hear, tick, answer, CallTyped}
use Rattle.box_laws.specs.Sends.{SentFits, Sends, tick-sends, hear-sends}
use Rattle.box_laws.specs.Frames.{count_after, SentValid, encoded, Handed}

pub step-sends : (c : Call) (b : FloorBox) → CallTyped c → Passed (tests c b) → Sends (count_after c b) (step c b)
step-sends register b t h = record { count = refl; first = tt; second = tt }
step-sends deregister b t h = record { count = refl; first = omega arith; second = tt }
step-sends (report sets) b t h = record { count = refl; first = sets-fit sets t h.1.0; second = tt }
step-sends (hear m random) b t h =
    hear-sends m.body (with_count b.processes m.timestamp) (eqb m.destination.0 b.address.0) random (valid-of m t h.1.1.0).body
step-sends tick b t h = tick-sends b.processes

count-below : (c : Call) (b : FloorBox) → CallTyped c → b.processes.count.0 < 2 ^ 32 → (count_after c b).0 < 2 ^ 32
unfolding next_of
count-below register b t h = h
count-below deregister b t h = h
count-below (report sets) b t h = h
count-below (hear m random) b t h = t.0
count-below tick b t h = omega arith

pub step_count : (c : Call) (b : FloorBox) → CallTyped c → Passed (tests c b) → b.processes.count.0 < 2 ^ 32 → (step c b).next.count.0 < 2 ^ 32
step_count c b t h k = rw (step-sends c b t h).count (count-below c b t k)

-- a message of the box, and its frame
message-valid : (own : Address) (now : Count) (body : Body) → is_individual own ≡ true → now.0 < 2 ^ 32 → BodyFits body
    → Valid (message_of own now body)
message-valid own now body i h f =
    record { destination = omega arith; source = i; timestamp = h; body = f }

sent-valid : (own : Address) (now : Count) (sent : Option Body) → is_individual own ≡ true → now.0 < 2 ^ 32 → SentFits sent → SentValid own now sent
sent-valid own now None i h f = tt
sent-valid own now (Some body) i h f = message-valid own now body i h f

framed-encoded : (own : Address) (now : Count) (f : Frames) (sent : Option Body) → SentValid own now sent → framed own now f sent ≡ encoded own now f sent
framed-encoded own now f None v = refl
framed-encoded own now f (Some body) v = ap (λ (w : Writing). handed f w.octets) (write_done (message_of own now body) v)

accepted-frames : (b : FloorBox) (drift : ℤ) (s : Step) (now : Count) → is_individual b.address ≡ true → now.0 < 2 ^ 32 → Sends now s
    → Handed b.address now s.first s.second (accepted b drift s).frames
unfolding accepted
accepted-frames b drift s now i h k =
    let own = b.address in
    let one = sent-valid own now s.first i h k.first in
    let two = sent-valid own now s.second i h k.second in
    record {
      first-valid = one;
      second-valid = two;
      frames =
          rw k.count
          (framed-encoded own now (framed own now no_frames s.first) s.second two
          ∙ ap (λ (f : Frames). encoded own now f s.second) (framed-encoded own now no_frames s.first one));
    }

sound-address : (b : FloorBox) → sound_of b ≡ true → is_individual b.address ≡ true
unfolding sound_of
sound-address b s = ((and-eq-true_iff (is_individual b.address) (processes_sound b.processes)).0 s).0

module _ (c : Call) (b : FloorBox) (t : CallTyped c) (k : b.processes.count.0 < 2 ^ 32) where
  abbrev HandedBy : Frames → Type 0
  HandedBy f = Handed b.address (count_after c b) (step c b).first (step c b).second f

  -- the frames of an accepted call are the encodings of the valid messages that its step sends, first and second; a refusal has none
  pub call-frames : (answer c b).reply ≡ Done → HandedBy (answer c b).frames
  call-frames d =
      let a = call-accepted c b d in
      rw a.answered
      (accepted-frames b (drift c b) (step c b) (count_after c b) (sound-address b a.sound) (count-below c b t k) (step-sends c b t a.passed))
