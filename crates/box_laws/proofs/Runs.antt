-- Lemmas: every box that a run from a fresh one reaches is sound: no call on it is answered 13, and its tick never 14.
-- Assumes nothing.
use Rattle.std.specs.Prelude.{◌≡◌, true, false, ◌≢◌}
use Rattle.std.proofs.Common.{sym, ◌∙◌, true≢false, arith}
use Rattle.frame.specs.Card.{number_of}
use Rattle.frame.specs.declared.Address.{Address}
use Rattle.frame.specs.declared.Reply.TheVariants.{Done, Unsound}
use Rattle.frame_range.specs.Fits.{is_individual}
use Rattle.box_calls.specs.Answer.{refused, accepted}
use Rattle.box_calls.specs.Box.{sound_of, fresh_of, tick_of}
use Rattle.box_calls.specs.declared.Answer.{Answer}
use Rattle.box_calls.specs.declared.FloorBox.{FloorBox}
use Rattle.box_laws.specs.Calls.{Outcome, unsound, refuses, accepts, outcome}
use Rattle.box_laws.specs.Stated.{Call, answer, Run, fresh, calls}
use Rattle.box_laws.specs.Sound.{sound-test}
use Rattle.box_laws.specs.Steady.{Steady, fresh-steady, tick-ok}
use Rattle.box_laws.proofs.Steady.{call-steady}

-- what holds of each
pub record Holds (b : FloorBox) : Type 0 where
  pub address : is_individual b.address ≡ true
  pub processes : Steady b.processes

fresh_holds : (a : Address) → is_individual a ≡ true → Holds (fresh_of a).next
unfolding fresh_of
fresh_holds a h = rw h (record { address = h; processes = fresh-steady })

call-address : (c : Call) (b : FloorBox) (x : Answer) → Outcome c b x → x.next.address ≡ b.address
unfolding accepted
call-address c b x (unsound s e) = rw e
call-address c b x (refuses s r n u e) = rw e
call-address c b x (accepts s h e) = rw e

pub holds-sound : {b : FloorBox} → Holds b → sound_of b ≡ true
unfolding sound_of
holds-sound w = rw (w.address, sound-test w.processes.sound)

never : (c : Call) (b : FloorBox) (x : Answer) → sound_of b ≡ true → Outcome c b x → number_of x.reply ≢ 13
unfolding accepted
never c b x s (unsound f e) = absurd (true≢false (sym s ∙ f))
never c b x s (refuses f r n u e) = rw e u
never c b x s (accepts f h e) = rw e (omega arith)

-- the invariant holds of every box that a run reaches
pub run_holds : {b : FloorBox} → Run b → Holds b
run_holds (fresh a h) = fresh_holds a h
run_holds (calls b r c) =
    let w = run_holds r in
    record {
      address = rw (call-address c b (answer c b) (outcome c b)) w.address;
      processes = call-steady c b w.processes;
    }

-- so it is sound
pub run_sound : {b : FloorBox} → Run b → sound_of b ≡ true
run_sound r = holds-sound (run_holds r)

-- no call on it is answered 13
pub run-never-unsound : {b : FloorBox} → Run b → (c : Call) → number_of (answer c b).reply ≢ 13
run-never-unsound {b} r c = never c b (answer c b) (run_sound r) (outcome c b)

-- and a tick is always done, so that 14 is never given
pub run-tick-done : {b : FloorBox} → Run b → (tick_of b).reply ≡ Done
unfolding tick_of accepted
run-tick-done {b} r = rw (run_sound r, tick-ok b.processes (run_holds r).processes)

blank : (c : Call) (b : FloorBox) (x : Answer) → sound_of b ≡ false → Outcome c b x → x ≡ refused b Unsound
blank c b x f (unsound s e) = e
blank c b x f (refuses s r n u e) = absurd (true≢false (sym s ∙ f))
blank c b x f (accepts s h e) = absurd (true≢false (sym s ∙ f))

blank-unsound : (a : Address) → is_individual a ≡ false → sound_of (fresh_of a).next ≡ false
unfolding fresh_of sound_of
blank-unsound a h = rw h

-- a fresh state that was refused answers every call with 13
pub fresh-refused : (a : Address) → is_individual a ≡ false → (c : Call) → answer c (fresh_of a).next ≡ refused (fresh_of a).next Unsound
fresh-refused a h c = blank c (fresh_of a).next (answer c (fresh_of a).next) (blank-unsound a h) (outcome c (fresh_of a).next)
