-- Lemmas: R68 and R69 of the head: a call is answered with the number of the first test that it does not pass, and a refusal changes nothing.
-- Assumes nothing.
use Rattle.std.specs.Prelude.{ℕ, ◌≡◌, true, false, ◌&&◌, List, [], ◌∷◌, ◌≢◌, length}
use Rattle.std.proofs.Math.Path.{refl, ap}
use Rattle.std.proofs.Common.{sym, ◌∙◌, arith}
use Rattle.frame.specs.Card.{Test, given, number_of, answer_of, ◌unless◌}
use Rattle.frame.specs.Tests.{Passed}
use Rattle.frame.specs.declared.Reply.{Reply}
use Rattle.frame.specs.declared.Reply.TheVariants.{Done, Output, Unsound}
use Rattle.head_state.specs.Head.{sound_of}
use Rattle.head_state.specs.declared.Head.{Head}
use Rattle.lent.specs.Folds.{each}
use Rattle.lent.specs.Laws.{each-still}
use Rattle.head_links.specs.declared.Link.{Link}
use Rattle.head_survey.specs.Facts.{sound_table}
use Rattle.head_survey.specs.declared.Facts.{Facts}
use Rattle.head_table.specs.Output.{output, note_link, Output as Written}
use Rattle.head_table.specs.declared.Event.{Event}
use Rattle.head_table.specs.declared.Sender.{Sender}
use Rattle.head_plans.specs.Plan.{refused}
use Rattle.head_plans.specs.declared.Plan.{Plan}
use Rattle.head_judging.specs.declared.Call.{Call}
use Rattle.head_calls.specs.Serve.{served, sender_of, sent_of, done_of, plan_of, serve_of}
use Rattle.head_laws.specs.Calls.{tests, planned, known, all_tests, plan-is, Outcome, unsound, short, refuses, accepts, outcome}
use Rattle.head_laws.specs.Events.{nothing-keeps}
use Rattle.head_laws.specs.Heard.{heard-message}
use Rattle.head_laws.specs.Stated.{telling}

-- no event, no frame of a link
pub nothing-sent : (s : Sender) (xs : List Link) (o : Written) → each (note_link Event.Nothing s) 1 xs o ≡ o
nothing-sent s = each-still (note_link Event.Nothing s) (λ k x o. refl) 1

pub done_refused : (h : Head) (x : Reply) (xs : List Link) (os : List ℕ) → done_of (refused h x) xs os ≡ served (telling x h) xs os
unfolding done_of sent_of
done_refused h x xs os = rw (nothing-sent (sender_of (refused h x)) xs (output os 0), nothing-keeps xs)

-- an accepted call is answered 0
pub planned-done : (r : Call) (h : Head) (f : Facts) → Passed (tests r h f) → (planned r h f).reply ≡ Done
planned-done (Call.Open start length sync window) h f t = refl
planned-done (Call.Admit a pending sync) h f t = refl
planned-done (Call.Reject a pending sync) h f t = refl
planned-done (Call.Reregister link sync) h f t = refl
planned-done (Call.Deregister link) h f t = refl
planned-done (Call.Gate link asked) h f t = refl
planned-done (Call.Hear link m) h f t = (heard-message h f.link link m t.1.0).reply
planned-done Call.Tick h f t = refl
planned-done (Call.Advance n) h f t = refl

-- of any list of tests
given-reply : (ts : List Test) (h : Head) (p : Plan) → (Passed ts → p.reply ≡ Done) → (given ts (refused h) p).reply ≡ answer_of ts
given-reply [] h p d = d tt
given-reply (x unless true ∷ ts) h p d = given-reply ts h p (λ t. d (refl, t))
given-reply (x unless false ∷ ts) h p d = refl

-- what is known of a call that is done
pub record Accepted (h : Head) (xs : List Link) (r : Call) (p : Plan) : Type 0 where
  pub sound : (sound_of h && sound_table xs) ≡ true
  pub passed : Passed (tests r h (known xs r))
  pub plan : p ≡ planned r h (known xs r)

not_done : (h : Head) (x : Reply) (p : Plan) → p ≡ refused h x → number_of x ≢ 0 → p.reply ≢ Done
not_done h x p e n d = n (ap number_of (sym (ap (λ (q : Plan). q.reply) e) ∙ d))

accepted : (h : Head) (xs : List Link) (r : Call) (room : ℕ) (p : Plan) → Outcome h xs r room p → p.reply ≡ Done → Accepted h xs r p
accepted h xs r room p (unsound s e) d = absurd (not_done h Unsound p e (omega arith) d)
accepted h xs r room p (short s k e) d = absurd (not_done h Output p e (omega arith) d)
accepted h xs r room p (refuses s k x a b c e) d = absurd (not_done h x p e a d)
accepted h xs r room p (accepts s k t e) d = record { sound = s; passed = t; plan = e }

module _ (h : Head) (xs : List Link) (r : Call) (os : List ℕ) where
  refused-plan : (p : Plan) → Outcome h xs r (length os) p → p.reply ≢ Done → p ≡ refused h p.reply
  refused-plan p (unsound s e) n = rw e
  refused-plan p (short s k e) n = rw e
  refused-plan p (refuses s k x a b c e) n = rw e
  refused-plan p (accepts s k t e) n = absurd (n (rw e (planned-done r h (known xs r) t)))

  pub reply-is : (serve_of h xs r os).answer.reply ≡ (plan_of h xs r (length os)).reply
  unfolding serve_of done_of
  reply-is = refl

  plan-done : (p : Plan) → plan_of h xs r (length os) ≡ p → serve_of h xs r os ≡ done_of p xs os
  unfolding serve_of
  plan-done p e = ap (λ (q : Plan). done_of q xs os) e

  -- the tests 13 and 12, then the request's own in their order (R68): the first that is not passed gives the number
  pub call-reply : (serve_of h xs r os).answer.reply ≡ answer_of (all_tests h xs r (length os))
  call-reply =
      reply-is
      ∙ ap (λ (p : Plan). p.reply) (plan-is h xs r (length os))
      ∙ given-reply (all_tests h xs r (length os)) h (planned r h (known xs r)) (λ t. planned-done r h (known xs r) t.1.1)

  -- each refusal changes nothing: the head, the table and the output are as they were, there is no frame and no notice
  pub refused-unchanged : (serve_of h xs r os).answer.reply ≢ Done → serve_of h xs r os ≡ served (telling (serve_of h xs r os).answer.reply h) xs os
  refused-unchanged n =
      let p = plan_of h xs r (length os) in
      let e : p ≡ refused h p.reply = refused-plan p (outcome h xs r (length os)) (λ (d : p.reply ≡ Done). n (reply-is ∙ d)) in
      plan-done (refused h p.reply) e ∙ done_refused h p.reply xs os ∙ ap (λ (x : Reply). served (telling x h) xs os) (sym reply-is)

  -- a call that is done has passed every test, on a sound head and table, and does what it asks for
  pub call-accepted : (serve_of h xs r os).answer.reply ≡ Done → Accepted h xs r (plan_of h xs r (length os))
  call-accepted d = accepted h xs r (length os) (plan_of h xs r (length os)) (outcome h xs r (length os)) (sym reply-is ∙ d)
