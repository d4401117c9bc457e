-- No tick is refused that lends the head sixty octets a link: what runs reach takes it, and the number of links stays.
-- Assumes nothing.
use Prim.Native.Nat.{ℕ, ◌*◌, ◌≤◌}
use mathlib.Core.Path.{◌≡◌, refl, ◌∙◌}
use mathlib.Core.List.{List, [], ◌∷◌}
use mathlib.Core.Option.{Option, none, some}
use lib.ListN.{length}
use Rattle.clock.specs.Numbers.{watchdog, wait}
use Rattle.frame.specs.declared.Address.{Address}
use Rattle.frame.specs.declared.Message.{Message}
use Rattle.head_judging.specs.declared.Call.{Call}
use Rattle.head_laws.specs.Sound.{call_length}
use Rattle.pair_wire.specs.Message.{message_in}
use Rattle.pair_wire.specs.Restarts.{down_restarts, up_restarts}
use Rattle.pair_demand.specs.Run.{Holds, HasRegistered, Event, head-call, head-hears, box-call, box-hears, both-tick, after, Allowed, play, Lawful, Span, first, last}
use Rattle.pair_demand.proofs.Falls.{Oks, ok_step}
use Rattle.pair_box.specs.End.{BoxEnd}
use Rattle.pair_box.proofs.Exact.{tick-done}
use Rattle.pair_box.proofs.Gauge as box
use Rattle.pair_box.proofs.Laws.{box_laws}
use Rattle.pair_head.specs.End.{HeadState, HeadCall, asks, hears, heard, call_of}
use Rattle.pair_head.proofs.Exact.{ready-tick}
use Rattle.pair_head.proofs.Head as head
use Rattle.pair_head.proofs.Head.{head-laws}
use Rattle.pair_core.specs.Ends.{ends}
use Rattle.pair_core.specs.Ticks.{NoTickRefused}

module _ (A : Address) (D : ℕ) where
  open ends A BoxEnd use {HE, BE, M}

  -- what runs reach
  abbrev Fine : M → Type 0
  Fine =
      Oks HE BE D (head.gauge A) (box.gauge A) (Holds HE) (HasRegistered BE) (down_restarts A) up_restarts
      watchdog wait (head-laws A) (box_laws A)

  stays-fine : (m : M) (es : List (Event HE BE)) → Fine m → Lawful HE BE D m es
      → Fine (play HE BE m es)
  stays-fine m [] f l = f
  stays-fine m (e ∷ es) f l =
      stays-fine (after HE BE m e) es
      (ok_step HE BE D (head.gauge A) (box.gauge A) (Holds HE) (HasRegistered BE) (down_restarts A) up_restarts
      watchdog wait (head-laws A) (box_laws A) m e l.0 f)
      l.1

  -- the number of links stays
  heard-length : (s : HeadState) (link : ℕ) (out : List ℕ) (c : Option Message) → length (heard s link out c).next.table ≡ length s.table
  heard-length s link out none = refl
  heard-length s link out (some m) = call_length s.head s.table (Call.Hear link m) out

  call_stays : (s : HeadState) (c : HeadCall) → length (call_of s c).next.table ≡ length s.table
  call_stays s (asks r out) = call_length s.head s.table r out
  call_stays s (hears link os out) = heard-length s link out (message_in os)

  event-stays : (m : M) (e : Event HE BE) → length (after HE BE m e).head.table ≡ length m.head.table
  event-stays m (head-call c) = call_stays m.head c
  event-stays m (head-hears v x) = heard-length m.head v.link v.output (message_in x.frame)
  event-stays m (box-call c) = refl
  event-stays m (box-hears v x) = refl
  event-stays m (both-tick out l) = call_length m.head.head m.head.table Call.Tick out

  links-stay : (m : M) (es : List (Event HE BE)) → length (play HE BE m es).head.table ≡ length m.head.table
  links-stay m [] = refl
  links-stay m (e ∷ es) = links-stay (after HE BE m e) es ∙ event-stays m e

  tick-allowed : (x : Span HE BE D) (out : List ℕ) → 60 * length x.start.head.table ≤ length out
      → Allowed HE BE D (last HE BE x) (both-tick out tt)
  tick-allowed x out room =
      let y = last HE BE x in
      let begins : Fine x.start = ((head-laws A).fresh_ok x.start.head x.fresh.0, (box_laws A).fresh_ok x.start.box x.fresh.1) in
      let starts = stays-fine x.start x.before begins x.lawful-before in
      let ends = stays-fine (first HE BE x) x.events starts x.lawful in
      let same = links-stay (first HE BE x) x.events ∙ links-stay x.start x.before in
      let enough : 60 * length y.head.table ≤ length out = rw same room in
      ((ready-tick (record { ok = ends.0; room = enough })).reply, tick-done A y.box ends.1)

pub no-tick-refused : NoTickRefused
unfolding NoTickRefused
no-tick-refused A D x out room = tick-allowed A D x out room
