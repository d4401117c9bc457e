-- Lemmas: R149: every frame of a call stands in the output, and is the encoding of a valid message.
-- Assumes nothing.
use Rattle.std.specs.Prelude.{None, ℕ, ◌*◌, ◌^◌, ◌<◌, ◌≤◌, ◌≡◌, refl, true, List, [], ◌++◌, ◌⊎◌, leb, drop}
use Rattle.std.proofs.Math.Path.{ap}
use Rattle.std.proofs.Common.{◌∙◌, inl, inr, arith}
use Rattle.std.proofs.Math.Bool.{and-eq-true_iff}
use borrow.Author.Tests.{leb-true}
use Rattle.std.proofs.Math.ListN.{length}
use Rattle.frame.specs.Tests.{Passed}
use Rattle.frame.specs.declared.Reply.{Reply}
use Rattle.head_state.specs.Head.{sound_of}
use Rattle.head_state.specs.declared.Head.{Head}
use Rattle.head_links.specs.declared.Link.{Link}
use Rattle.head_survey.specs.Facts.{is_few, sound_table}
use Rattle.head_survey.specs.declared.Facts.{Facts}
use Rattle.head_table.specs.Output.{Output, output}
use Rattle.head_table.specs.declared.Event.{Event}
use Rattle.head_judging.specs.Judge.{has_room}
use Rattle.head_plans.specs.Plan.{refused}
use Rattle.head_plans.specs.declared.Plan.{Plan}
use Rattle.head_judging.specs.declared.Call.{Call}
use Rattle.head_calls.specs.Serve.{sender_of, sent_of, done_of, plan_of, serve_of}
use Rattle.head_laws.specs.Calls.{tests, planned, known, Outcome, unsound, short, refuses, accepts, outcome}
use Rattle.head_laws.specs.Events.{table-parts}
use Rattle.head_laws.specs.Frames.{SenderFits, links-few, nothing-frames, frames-apart, frames-valid, frames-packed}
use Rattle.head_laws.specs.Heard.{heard-message}
use Rattle.head_laws.specs.Pasted.{packed}
use Rattle.head_laws.specs.Stated.{encoded, frames_of, AllValid, call_frames, RequestTyped}
use Rattle.head_laws.specs.Refusals.{nothing-sent}
use Rattle.head_laws.specs.Sends.{planned-event, planned-lead}
use Rattle.head_laws.specs.Sound.{planned-head, planned-count}
use Rattle.head_laws.specs.Window.{head-parts}

-- the head's own frame comes with none of a link
pub planned-apart : (r : Call) (h : Head) (f : Facts) → Passed (tests r h f)
    → ((planned r h f).lead ≡ None) ⊎ ((planned r h f).event ≡ Event.Nothing)
planned-apart (Call.Open start length sync window) h f t = inr refl
planned-apart (Call.Admit a pending sync) h f t = inl refl
planned-apart (Call.Reject a pending sync) h f t = inr refl
planned-apart (Call.Reregister link sync) h f t = inl refl
planned-apart (Call.Deregister link) h f t = inl refl
planned-apart (Call.Gate link asked) h f t = inl refl
planned-apart (Call.Hear link m) h f t = inl (heard-message h f.link link m t.1.0).lead
planned-apart Call.Tick h f t = inl refl
planned-apart (Call.Advance n) h f t = inl refl

-- the messages of a plan, and the output after it
pub record Packs (p : Plan) (xs : List Link) (os : List ℕ) : Type 0 where
  pub valid : AllValid (frames_of p xs)
  pub few : length (frames_of p xs) ≤ length xs
  pub output : sent_of p xs os ≡ packed (frames_of p xs) os

-- a refusal hands out none
pub refused-frames : (h : Head) (x : Reply) (xs : List Link) → frames_of (refused h x) xs ≡ []
refused-frames h x = nothing-frames (sender_of (refused h x)) 1

refused-packs : (h : Head) (x : Reply) (xs : List Link) (os : List ℕ) → Packs (refused h x) xs os
unfolding sent_of
refused-packs h x xs os =
    record {
      valid = rw (refused-frames h x xs) tt;
      few = rw (refused-frames h x xs) (omega arith);
      output = nothing-sent (sender_of (refused h x)) xs (output os 0) ∙ rw (refused-frames h x xs);
    }

module _ (h : Head) (xs : List Link) (r : Call) (os : List ℕ) (k : RequestTyped r) (c : h.count.0 < 2 ^ 32) where
  accepted-packs : sound_of h ≡ true → sound_table xs ≡ true → 60 * length xs ≤ length os → Passed (tests r h (known xs r))
      → Packs (planned r h (known xs r)) xs os
  unfolding is_few
  accepted-packs s u room t =
      let f = known xs r in
      let p = planned r h f in
      let w = table-parts xs u in
      let some = leb-true 1 (length xs) ((and-eq-true_iff (leb 1 (length xs)) (leb (length xs) 64)).0 w.0).0 in
      let i : SenderFits (sender_of p) = ((head-parts p.head (planned-head r h f t s)).0, planned-count r h f t c) in
      let few = frames-apart p xs (length xs) (planned-apart r h f t) some (links-few p.event (sender_of p) 1 xs) in
      let e = planned-event r h f k t in
      let g = planned-lead r h f k t in
      record {
        valid = frames-valid p xs i e g w.1;
        few = few;
        output = frames-packed p xs i e g w.1 os (omega arith);
      }

  plan-packs : (p : Plan) → Outcome h xs r (length os) p → Packs p xs os
  unfolding has_room
  plan-packs p (unsound s e) = rw e (refused-packs h _ xs os)
  plan-packs p (short s m e) = rw e (refused-packs h _ xs os)
  plan-packs p (refuses s m x a b d e) = rw e (refused-packs h x xs os)
  plan-packs p (accepts s m t e) =
      let q = (and-eq-true_iff (sound_of h) (sound_table xs)).0 s in
      rw e (accepted-packs q.0 q.1 (leb-true (60 * length xs) (length os) m) t)

  packs : Packs (plan_of h xs r (length os)) xs os
  packs = plan-packs (plan_of h xs r (length os)) (outcome h xs r (length os))

  -- each is the frame of a valid message
  pub call-valid : AllValid (call_frames h xs r os)
  call-valid = packs.valid

  -- there are no more than links
  pub call-few : length (call_frames h xs r os) ≤ length xs
  call-few = packs.few

  -- the answer tells how many
  pub call-frames : (serve_of h xs r os).answer.frames ≡ length (call_frames h xs r os)
  unfolding serve_of done_of
  call-frames = ap (λ (o : Output). o.frames) packs.output

  -- and the output holds them all, packed from its start; octets after the last stay
  pub call-octets : (serve_of h xs r os).octets ≡ encoded (call_frames h xs r os) ++ drop (60 * length (call_frames h xs r os)) os
  unfolding serve_of done_of
  call-octets = ap (λ (o : Output). o.octets) packs.output
