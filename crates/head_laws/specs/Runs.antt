-- Lemmas: every head and table that a run from a fresh head reaches are sound: no call on them is answered 13, and a tick is refused only where
-- the output is too short.
-- Assumes nothing.
use Rattle.std.specs.Prelude.{ℕ, ◌*◌, ◌^◌, ◌<◌, ◌≡◌, true, cond, ◌&&◌, List, ◌≢◌, leb, length}
use Rattle.std.proofs.Common.{sym, ap, ◌∙◌, true≢false, arith}
use Rattle.std.proofs.Math.Bool.{and-eq-true_iff}
use Rattle.frame.specs.Card.{number_of}
use Rattle.frame.specs.declared.Reply.{Reply}
use Rattle.frame.specs.declared.Reply.TheVariants.{Done, Output, Unsound}
use Rattle.head_state.specs.Head.{begun, sound_of}
use Rattle.head_state.specs.declared.Head.{Head}
use Rattle.head_links.specs.declared.Link.{Link}
use Rattle.head_survey.specs.Facts.{sound_table}
use Rattle.head_judging.specs.Judge.{has_room}
use Rattle.head_plans.specs.declared.Plan.{Plan}
use Rattle.head_judging.specs.declared.Call.{Call}
use Rattle.head_calls.specs.Serve.{served, done_of, plan_of, serve_of}
use Rattle.head_laws.specs.Calls.{known, Outcome, unsound, short, refuses, accepts, outcome}
use Rattle.head_laws.specs.Fresh.{nobody, fresh-done, nobody-unsound}
use Rattle.head_laws.specs.Refusals.{planned-done, reply-is, call-reply, refused-unchanged}
use Rattle.head_laws.specs.Sound.{Sound, planned-count, fresh-sound, call-keeps}
use Rattle.head_laws.specs.Stated.{Run, fresh, calls, telling}

both-sound : {h : Head} {xs : List Link} → Sound h xs → (sound_of h && sound_table xs) ≡ true
both-sound {h} {xs} s = (and-eq-true_iff (sound_of h) (sound_table xs)).1 (s.head, s.table)

module _ (h : Head) (xs : List Link) (r : Call) (room : ℕ) (s : Sound h xs) where
  never : (p : Plan) → Outcome h xs r room p → number_of p.reply ≢ 13
  never p (unsound f e) = absurd (true≢false (sym (both-sound s) ∙ f))
  never p (short f k e) = rw e (omega arith)
  never p (refuses f k x a b c e) = rw e c
  never p (accepts f k t e) = rw (e, planned-done r h (known xs r) t) (omega arith)

count-keeps : (h : Head) (xs : List Link) (r : Call) (room : ℕ) (p : Plan) → Outcome h xs r room p → h.count.0 < 2 ^ 32
    → p.head.count.0 < 2 ^ 32
count-keeps h xs r room p (unsound f e) k = rw e k
count-keeps h xs r room p (short f m e) k = rw e k
count-keeps h xs r room p (refuses f m x a b c e) k = rw e k
count-keeps h xs r room p (accepts f m t e) k = rw e (planned-count r h (known xs r) t k)

-- the head and the table are sound
pub run_sound : {h : Head} {xs : List Link} → Run h xs → Sound h xs
run_sound (fresh a xs i n) = fresh-sound a xs n i
run_sound (calls h xs u r os) = call-keeps h xs r os (run_sound u)

-- and the count is below 2 ^ 32
pub run-count : {h : Head} {xs : List Link} → Run h xs → h.count.0 < 2 ^ 32
unfolding serve_of done_of
run-count (fresh a xs i n) = rw (fresh-done a xs n i) (omega arith)
run-count (calls h xs u r os) = count-keeps h xs r (length os) (plan_of h xs r (length os)) (outcome h xs r (length os)) (run-count u)

-- so no call is answered 13
pub run-never-unsound : {h : Head} {xs : List Link} → Run h xs → (r : Call) (os : List ℕ) → number_of (serve_of h xs r os).answer.reply ≢ 13
run-never-unsound {h} {xs} u r os =
    rw (reply-is h xs r os) (never h xs r (length os) (run_sound u) (plan_of h xs r (length os)) (outcome h xs r (length os)))

-- and a tick is done, or answered 12 where the output is shorter than 60 × number of links
pub run-tick : {h : Head} {xs : List Link} → Run h xs → (os : List ℕ)
    → (serve_of h xs Call.Tick os).answer.reply ≡ cond (leb (60 * length xs) (length os)) Done Output
unfolding has_room
run-tick {h} {xs} u os = call-reply h xs Call.Tick os ∙ rw (both-sound (run_sound u))

-- a fresh head that was refused answers every call with 13, and changes nothing
pub nobody-refuses : (xs : List Link) (r : Call) (os : List ℕ)
    → serve_of (begun nobody) xs r os ≡ served (telling Unsound (begun nobody)) xs os
nobody-refuses xs r os =
    let reply : (serve_of (begun nobody) xs r os).answer.reply ≡ Unsound = call-reply (begun nobody) xs r os ∙ rw nobody-unsound in
    let n : (serve_of (begun nobody) xs r os).answer.reply ≢ Done = λ (d : (serve_of (begun nobody) xs r os).answer.reply ≡ Done). thirteen (ap number_of (sym reply ∙ d)) in
    refused-unchanged (begun nobody) xs r os n ∙ ap (λ (x : Reply). served (telling x (begun nobody)) xs os) reply
  where
    thirteen : number_of Unsound ≢ 0
    thirteen = omega arith
