-- Demand 3 at the head: the head of `specs/End.antt` has the laws that the pair theorem asks of a head.
-- Assumes nothing.
use Prim.Native.Nat.{ℕ}
use mathlib.Core.Path.{◌≡◌, sym, ap, ◌∙◌}
use mathlib.Core.Bool.{Bool, true, false}
use mathlib.Core.List.{List}
use mathlib.Core.Option.{Option, none, some}
use native.Mathlib.Omega.{arith}
use lib.ListN.{length}
use Rattle.clock.specs.Laws.{runs-in}
use Rattle.clock.specs.Numbers.{watchdog, wait}
use Rattle.frame.specs.Card.{number_of}
use Rattle.frame.specs.declared.Address.{Address}
use Rattle.frame.specs.declared.Message.{Message}
use Rattle.frame.specs.declared.Reply.{Reply}
use Rattle.frame.specs.declared.Reply.TheVariants.{Output, Unsound}
use Rattle.head_links.specs.Sound.{sound_of}
use Rattle.head_links.specs.declared.State.TheVariants.{Waiting, Registered}
use Rattle.head_survey.specs.Facts.{are_all_sound}
use Rattle.head_plans.specs.Plan.{refused}
use Rattle.head_plans.specs.declared.Plan.{Plan}
use Rattle.head_judging.specs.declared.Call.{Call}
use Rattle.head_calls.specs.Serve.{sender_of, done_of, plan_of, serve_of}
use Rattle.head_laws.specs.Calls.{Outcome, unsound, short, refuses, accepts, outcome}
use Rattle.head_laws.specs.Events.{table-parts, found-sound}
use Rattle.head_laws.specs.Links.{sound-in, waiting-parts, registered-parts}
use Rattle.head_laws.specs.Refusals.{reply-is}
use Rattle.head_laws.specs.Runs.{run_sound, run-count}
use Rattle.head_laws.specs.Stated.{Run, calls, sent_by, link_frames, RequestTyped, NotTick}
use Rattle.pair_wire.specs.Message.{message_in}
use Rattle.pair_wire.specs.Restarts.{restarts_head, tested, calls_box, down_restarts, up_restarts}
use Rattle.pair_demand.specs.Run.{Answer, Holds}
use Rattle.pair_demand.specs.Laws.{Gauge, Step, Laws}
use Rattle.pair_demand.proofs.Small.{clash, all_join}
use Rattle.pair_demand.proofs.Steps.{same}
use Rattle.pair_head.specs.End.{HeadState, link_at, HeadCall, asks, hears, asked, heard, call_of, handed_in, Foreign, Fair, HeadEnd}
use Rattle.pair_head.proofs.Fresh.{fresh-run}
use Rattle.pair_head.proofs.Messages.{Kept}
use Rattle.pair_head.proofs.Octets.{call-quiet}
use Rattle.pair_head.proofs.Plans.{Complies, planned-complies}
use Rattle.pair_head.proofs.Table.{nothing-behaves, ticks-behave, each-falls, sent-quiet, frames-quiet}

module _ (A : Address) where
  -- what runs reach, and the ticks left to a registered and to a waiting link
  abbrev pub gauge : Gauge (HeadEnd A)
  gauge =
      record {
        Ok = λ s. Run s.head s.table;
        dog = λ s n. (link_at s n).watchdog.left;
        wait = λ s n. (link_at s n).wait.left;
      }

  abbrev Does : ℕ → Bool → HeadState → Answer HeadState (List ℕ) → Type 0
  Does loss kept s a = Step (HeadEnd A) gauge (Holds (HeadEnd A)) (down_restarts A) loss kept s a

  ok-sound : (s : HeadState) → gauge.Ok s → are_all_sound s.table ≡ true
  ok-sound s o = (table-parts s.table (run_sound o).table).1

  ok-link : (s : HeadState) → gauge.Ok s → (n : ℕ) → sound_of (link_at s n) ≡ true
  ok-link s o n = found-sound n 1 s.table (ok-sound s o)

  refused-complies : {kept : Bool} (s : HeadState) (x : Reply) → Complies A 0 kept (refused s.head x) s.table
  refused-complies {kept} s x = record { lead = tt; links = nothing-behaves A kept 1 s.table }

  module _ (s : HeadState) (r : Call) (out : List ℕ) (o : gauge.Ok s) where
    abbrev plan : Plan
    plan = plan_of s.head s.table r (length out)

    -- a call whose plan complies
    complying : {loss : ℕ} {kept : Bool} → RequestTyped r → Complies A loss kept plan s.table → Does loss kept s (asked s r out)
    unfolding serve_of done_of
    complying {loss} {kept} k c =
        let xs = s.table in
        let sender = sender_of plan in
        record {
          ok = calls s.head xs o r out;
          dog-falls = λ e n q. (each-falls A plan.event n 1 xs c.links).dog e q;
          wait-falls = λ n w v. (each-falls A plan.event n 1 xs c.links).wait w v;
          silent =
              λ p q.
              call-quiet s r out k (run-count o) A
              (all_join (λ m. calls_box A m ≡ false) (sent_by sender plan.lead) (link_frames plan.event sender 1 xs)
              (sent-quiet A sender plan.lead c.lead)
              (frames-quiet A loss kept plan.event sender 1 xs c.links (λ n h. q (n, h))));
        }

    outcome-complies : {kept : Bool} → NotTick r → Kept A kept (handed_in r) → (p : Plan) → Outcome s.head s.table r (length out) p
        → Complies A 0 kept p s.table
    outcome-complies n k p (unsound f e) = rw e (refused-complies s Unsound)
    outcome-complies n k p (short f m e) = rw e (refused-complies s Output)
    outcome-complies n k p (refuses f m x a b c e) = rw e (refused-complies s x)
    outcome-complies n k p (accepts f m t e) =
        rw e (planned-complies A r s.head s.table (table-parts s.table (run_sound o).table).0 n k t)

    request-law : {kept : Bool} → RequestTyped r → NotTick r → Kept A kept (handed_in r) → Does 0 kept s (asked s r out)
    request-law t n k = complying t (outcome-complies n k plan (outcome s.head s.table r (length out)))

  -- a tick that is not refused
  tick-complies : (s : HeadState) (out : List ℕ) → gauge.Ok s → (p : Plan) → Outcome s.head s.table Call.Tick (length out) p
      → number_of p.reply ≡ 0 → Complies A 1 false p s.table
  tick-complies s out o p (unsound f e) z = absurd (omega (arith, rw e at z))
  tick-complies s out o p (short f m e) z = absurd (omega (arith, rw e at z))
  tick-complies s out o p (refuses f m x a b c e) z = absurd (a (rw e at z))
  tick-complies s out o p (accepts f m t e) z = rw e (record { lead = tt; links = ticks-behave A 1 s.table (ok-sound s o) })

  tick-law : (s : HeadState) (out : List ℕ) → gauge.Ok s → (asked s Call.Tick out).reply ≡ 0 → Does 1 false s (asked s Call.Tick out)
  tick-law s out o z =
      let h = s.head in
      let xs = s.table in
      complying s Call.Tick out o tt
      (tick-complies s out o (plan_of h xs Call.Tick (length out)) (outcome h xs Call.Tick (length out))
      (ap number_of (sym (reply-is h xs Call.Tick out)) ∙ z))

  -- octets, by what they carry
  octets-law : (kept : Bool) (s : HeadState) (link : ℕ) (out : List ℕ) → gauge.Ok s → (c : Option Message) → Kept A kept c
      → Does 0 kept s (heard s link out c)
  octets-law kept s link out o none k = same o
  octets-law kept s link out o (some m) k = request-law s (Call.Hear link m) out o tt tt k

  -- from the box, or from another
  box-kept : (c : Option Message) → Kept A (tested (λ m. restarts_head m.body) c) c
  box-kept none = tt
  box-kept (some m) = λ t z. absurd (clash (restarts_head m.body) z t)

  foreign_kept : (c : Option Message) → Foreign A c → Kept A false c
  foreign_kept none f = tt
  foreign_kept (some m) f = λ t z. f

  call-law : (s : HeadState) (c : HeadCall) → gauge.Ok s → Fair A c → Does 0 false s (call_of s c)
  call-law s (asks r out) o f = request-law s r out o f.0 f.1 (foreign_kept (handed_in r) f.2)
  call-law s (hears link os out) o f = octets-law false s link out o (message_in os) (foreign_kept (message_in os) f)

  pub head-laws : Laws (HeadEnd A) gauge (Holds (HeadEnd A)) (down_restarts A) up_restarts 62_500_000 3_125_000
  head-laws =
      record {
        fresh_ok = fresh-run;
        dog-range =
            λ s o n r.
            let l = link_at s n in
            runs-in l.watchdog watchdog (registered-parts l (sound-in l Registered r.0 (ok-link s o n))).2;
        wait-range =
            λ s o n w.
            let l = link_at s n in
            runs-in l.wait wait (waiting-parts l (sound-in l Waiting w (ok-link s o n))).1;
        of-call = call-law;
        of-hear = λ s v os o. octets-law (up_restarts os) s v.link v.output o (message_in os) (box-kept (message_in os));
        of-tick = tick-law;
      }
