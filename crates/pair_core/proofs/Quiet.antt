-- A head of one link that holds none for A: a fresh one, and what its ticks and its calls for newcomers leave.
-- Assumes nothing.
use Prim.Native.Nat.{ℕ, zero, suc, ◌+◌, ◌-◌, ◌^◌, ◌<◌}
use mathlib.Core.Path.{◌≡◌, refl, sym, ap, subst, ◌∙◌}
use mathlib.Core.Bool.{true, false, false≢true}
use mathlib.Core.List.{List, [], ◌∷◌}
use native.Mathlib.Omega.{arith}
use lib.ListN.{length}
use Rattle.clock.specs.Counts.{distance, reach, next_of}
use Rattle.clock.specs.Numbers.{start_in_range}
use Rattle.clock.specs.Timers.{ticked}
use Rattle.clock.specs.declared.Count.{Count}
use Rattle.clock.specs.declared.Quanta.{Quanta}
use Rattle.frame.specs.Layout.{encode}
use Rattle.frame.specs.declared.Address.{Address}
use Rattle.frame.specs.declared.Body.TheVariants.{Discovery}
use Rattle.frame.specs.declared.Grant.{Grant}
use Rattle.frame.specs.declared.Message.{Message}
use Rattle.head_links.specs.Link.{is_held}
use Rattle.head_links.specs.declared.Link.{Link}
use Rattle.head_links.specs.declared.State.{State}
use Rattle.head_state.specs.Head.{begun, with_window, tick_of}
use Rattle.head_state.specs.Window.{fits, is_idle, opened, ticked_window}
use Rattle.head_state.specs.declared.Window.{Window}
use Rattle.head_state.specs.declared.Window.TheVariants.{Idle, Before, Inside}
use Rattle.head_state.specs.declared.Head.{Head}
use Rattle.head_table.specs.Output.{message_of}
use Rattle.head_requests.specs.Client.{fits_lengths, may_open}
use Rattle.head_judging.specs.declared.Call.{Call}
use Rattle.head_laws.specs.Stated.{from}
use Rattle.head_laws.specs.Ticks.{tick-head}
use Rattle.pair_demand.specs.Run.{Answer, Holds}
use Rattle.pair_head.specs.End.{HeadState, link_at, asked, HeadEnd}
use Rattle.pair_head.proofs.Asked.{open-sends}
use Rattle.pair_head.proofs.Exact.{ready-tick, idle-ticks, none-ticks}
use Rattle.pair_head.proofs.Fresh.{fresh-run, fresh-idle}
use Rattle.pair_head.proofs.Ready.{Ready, Taken, ready-done}
use Rattle.pair_core.proofs.OneLink.{out, room, H, begun_head, begun_fresh}

-- so many ticks of it
unfoldable pub ticks_of : ℕ → Head → Head
ticks_of zero h = h
ticks_of (suc k) h = ticks_of k (tick_of h)

-- the call for newcomers: a grant from this count on that just serves, so that there is no random wait, and a window of one tick
abbrev pub grant_at : Count → Grant
grant_at start = record { start = start; length = record { 0 = 106 }; force = false }

abbrev pub sync : Quanta
sync = record { 0 = 0 }

abbrev pub window : Quanta
window = record { 0 = 1 }

abbrev pub opening : Count → Call
opening start = Call.Open start (record { 0 = 106 }) sync window

abbrev pub opened_at : Count → Head → Head
opened_at start h = with_window h (opened h.count start window)

abbrev pub discovery : Count → Head → Message
discovery start h = message_of (from h) (record { 0 = 0x0180C2000001 }) (Discovery (grant_at start) sync)

-- a fresh head, 32 ticks after it called for newcomers: the window is over
abbrev pub now : Count
now = record { 0 = 0 }

pub later : Head
later = ticks_of 32 (opened_at now (begun H))

pub later-is : ticks_of 32 (opened_at now (begun H)) ≡ later
unfolding later
later-is = refl

pub later-idle : is_idle later.window ≡ true
unfolding later ticks_of opened reach distance ticked next_of
later-idle = refl

idle-stays : (w : Window) → is_idle w ≡ true → is_idle (ticked_window w) ≡ true
idle-stays Idle i = refl
idle-stays (Before t length) i = absurd (false≢true i)
idle-stays (Inside t) i = absurd (false≢true i)

-- a head may call for newcomers from its own count on
may-open : (c : Count) → may_open c c (record { 0 = 106 }) sync window ≡ true
unfolding may_open start_in_range distance fits
may-open c = let z : c.0 + 2 ^ 32 - c.0 ≡ 2 ^ 32 = omega arith in rw z

module _ (A : Address) where
  -- a head that is ready, is this one, and holds no link for A
  pub record Quiet (h : Head) (s : HeadState) : Type 0 where
    pub ready : Ready out s
    pub head : s.head ≡ h
    pub none : ¬ Holds (HeadEnd A) s

  -- and is not calling for newcomers
  pub record Shut (s : HeadState) : Type 0 where
    pub h : Head
    pub quiet : Quiet h s
    pub shut : is_idle h.window ≡ true

  -- and has an idle link
  pub record Free (h : Head) (s : HeadState) : Type 0 where
    pub quiet : Quiet h s
    pub idle : (link_at s 1).state ≡ State.Idle

  pub begun-free : Free (begun H) begun_head
  begun-free =
      record {
        quiet =
            record {
              ready = record { ok = fresh-run begun_head begun_fresh; room = omega (arith, room) };
              head = refl;
              none = λ h.
                  false≢true (sym (ap (λ (l : Link). is_held l.state) (fresh-idle begun_head begun_fresh h.0)) ∙ h.1.0);
            };
        idle = ap (λ (l : Link). l.state) (fresh-idle begun_head begun_fresh 1);
      }

  module _ (h : Head) (s : HeadState) where
    pub quiet-ticks : Quiet h s → Quiet (tick_of h) (asked s Call.Tick out).next
    quiet-ticks q =
        let y = q.ready in
        record {
          ready = (ready-tick y).ready;
          head = tick-head s.head s.table out (ready-done y Call.Tick tt) ∙ ap tick_of q.head;
          none = none-ticks y A q.none;
        }

    pub free-ticks : Free h s → Free (tick_of h) (asked s Call.Tick out).next
    free-ticks f = record { quiet = quiet-ticks f.quiet; idle = idle-ticks f.quiet.ready 1 f.idle }

    -- it calls for newcomers
    abbrev pub calling : Answer HeadState (List ℕ)
    calling = asked s (opening h.count) out

    module _ (i : is_idle h.window ≡ true) (k : h.count.0 < 2 ^ 32) where
      does : (q : Quiet h s) → Taken out calling
          × (calling.next ≡ record { head = opened_at h.count s.head; table = s.table })
          × (calling.sent ≡ encode (discovery h.count s.head) ∷ [])
      unfolding fits_lengths
      does q =
          open-sends q.ready A h.count (record { 0 = 106 }) sync window (rw q.head i) refl (rw q.head (may-open h.count)) k

      pub quiet-opens : Quiet h s
          → Quiet (opened_at h.count h) calling.next × (calling.sent ≡ encode (discovery h.count s.head) ∷ [])
      quiet-opens q =
          let d = does q in (
            record {
              ready = d.0.ready;
              head = ap (λ (x : HeadState). x.head) d.1 ∙ ap (opened_at h.count) q.head;
              none = subst (λ (x : HeadState). ¬ Holds (HeadEnd A) x) (sym d.1) q.none;
            },
            d.2,
          )

      pub free-opens : Free h s
          → Free (opened_at h.count h) calling.next × (calling.sent ≡ encode (discovery h.count s.head) ∷ [])
      free-opens f =
          let o = quiet-opens f.quiet in
          let d = does f.quiet in
          (record { quiet = o.0; idle = subst (λ (x : HeadState). (link_at x 1).state ≡ State.Idle) (sym d.1) f.idle }, o.1)

  pub shut-ticks : (s : HeadState) → Shut s → Shut (asked s Call.Tick out).next
  shut-ticks s x = record { h = tick_of x.h; quiet = quiet-ticks x.h s x.quiet; shut = idle-stays x.h.window x.shut }
