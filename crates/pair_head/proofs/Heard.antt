-- Demand 3's numbers are exact at the head, of a frame of the box: REPORT and REGISTER_ACK 1 under the link's own address leave it registered
-- with a full watchdog.
-- Assumes nothing.
use Prim.Native.Nat.{ℕ}
use mathlib.Core.Path.{◌≡◌, refl, sym, ap, subst, ◌∙◌}
use mathlib.Core.Bool.{true, false}
use mathlib.Core.List.{List, [], ◌∷◌, map}
use mathlib.Core.Option.{Option, some}
use borrow.Author.Tests.{eq-eqb}
use lib.Dec.{eqb}
use Rattle.clock.specs.declared.Quanta.{Quanta}
use Rattle.frame.specs.Layout.{encode}
use Rattle.frame.specs.Range.{Valid}
use Rattle.frame.specs.Tests.{Passed}
use Rattle.frame.specs.Ways.{goes_to_head}
use Rattle.frame.specs.declared.Address.{Address}
use Rattle.frame.specs.declared.Body.{Body}
use Rattle.frame_queues.specs.declared.Sets.{Sets}
use Rattle.frame.specs.declared.Body.TheVariants.{Gate, Report, RegisterAck}
use Rattle.frame.specs.declared.Grants.TheVariants.{None}
use Rattle.frame.specs.declared.Message.{Message}
use Rattle.frame.specs.declared.RegisterAckFlag.{RegisterAckFlag}
use Rattle.frame.specs.declared.Reply.TheVariants.{Done}
use Rattle.frame_range.specs.Laws.{of-valid}
use Rattle.head_state.specs.declared.Head.{Head}
use Rattle.head_links.specs.Link.{is_held, is_registered}
use Rattle.head_links.specs.declared.Link.{Link}
use Rattle.head_survey.specs.declared.Facts.{Facts}
use Rattle.head_table.specs.Output.{message_of}
use Rattle.head_hearing.specs.Hear.{is_newcomer, on_link, in_state, is_for, by_party}
use Rattle.head_judging.specs.Judge.{look_of}
use Rattle.head_judging.specs.declared.Call.{Call}
use Rattle.head_calls.specs.Serve.{serve_of}
use Rattle.head_laws.specs.Calls.{tests, known}
use Rattle.head_laws.specs.Stated.{from}
use Rattle.head_laws.specs.Events.{table-parts}
use Rattle.head_laws.specs.Messages.{report-heard, ack-heard}
use Rattle.head_laws.specs.Runs.{run_sound, run-count}
use Rattle.head_laws.specs.Sound.{facts-link}
use Rattle.head_laws.specs.Table.{or-second}
use Rattle.pair_wire.specs.Carried.{carries-valid}
use Rattle.pair_wire.specs.Message.{message_in}
use Rattle.pair_demand.specs.Run.{Answer}
use Rattle.pair_head.specs.End.{HeadState, link_at, heard, HeldLink, RegisteredLink}
use Rattle.pair_head.proofs.Exact.{RegisteredFor, WaitingFor}
use Rattle.pair_head.proofs.Octets.{call-sent}
use Rattle.pair_head.proofs.Ready.{Ready, Taken, ready-done, ready-taken}

-- the box's frames go to 01-80-C2-00-00-01
pub group-for : (h : Head) → is_for h (record { 0 = 0x0180C2000001 }) ≡ true
unfolding is_for
group-for h = or-second (eqb 0x0180C2000001 h.address.0) true refl

-- a message to the head or to 01-80-C2-00-00-01 from the link's own address, of a kind that comes on a link
message-passes : (h : Head) (f : Facts) (link : ℕ) (m : Message) (body : Body) → m.body ≡ body
    → goes_to_head body ≡ true → is_newcomer body ≡ false → is_held f.link.state ≡ true
    → m.source ≡ f.link.address → is_for h m.destination ≡ true → Valid m
    → Passed (tests (Call.Hear link m) h f)
unfolding on_link in_state by_party
message-passes h f link m body e b n i a d v =
    let same = eq-eqb m.source.0 f.link.address.0 (ap (λ (x : Address). x.0) a) in (
      ap goes_to_head e ∙ b,
      (rw (e, n) i, (rw (e, n), (rw (e, n, d, same), (of-valid m v, tt)))),
    )

-- octets that carry a message of the box, heard on the link of its address
module _ {out : List ℕ} {s : HeadState} (y : Ready out s) (A : Address) (n : ℕ) (os : List ℕ) (m : Message)
    (c : message_in os ≡ some m) (a : m.source ≡ A) (d : is_for s.head m.destination ≡ true) where
  abbrev r : Call
  r = Call.Hear n m

  abbrev Restarted : Answer HeadState (List ℕ) → Type 0
  Restarted x = Taken out x × RegisteredFor A 62_500_000 (link_at x.next n)

  box-done : (body : Body) → m.body ≡ body → goes_to_head body ≡ true → is_newcomer body ≡ false → HeldLink A (link_at s n)
      → (serve_of s.head s.table r out).answer.reply ≡ Done
  box-done body e b w h =
      let q = facts-link s.table (look_of r) (table-parts s.table (run_sound y.ok).table).0 in
      ready-done y r
      (message-passes s.head (known s.table r) n m body e b w (ap (λ (l : Link). is_held l.state) q ∙ h.0)
      (a ∙ sym h.1 ∙ sym (ap (λ (l : Link). l.address) q)) d (carries-valid os m c))

  -- REPORT on a registered link
  pub report-restarts : (sets : Sets) → m.body ≡ Report sets → RegisteredLink A (link_at s n) → Restarted (heard s n out (message_in os))
  report-restarts sets e g =
      let done = box-done (Report sets) e refl refl (ap is_held g.0, g.1) in
      let does = report-heard s.head s.table out n m done sets e (ap is_registered g.0) in
      subst (λ (x : Option Message). Restarted (heard s n out x)) (sym c)
      (ready-taken y r done, subst (RegisteredFor A 62_500_000) (sym does.link) (g, refl))

  -- REGISTER_ACK 1 on a waiting one, and an empty GATE goes out
  pub ack-registers : (port : ℕ) (sync : Quanta) (left : ℕ) → m.body ≡ RegisterAck RegisterAckFlag.Ack port sync
      → WaitingFor A left (link_at s n)
      → (let x = heard s n out (message_in os) in Restarted x × (x.sent ≡ encode (message_of (from s.head) A (Gate None)) ∷ []))
  ack-registers port sync left e w =
      let done = box-done (RegisterAck RegisterAckFlag.Ack port sync) e refl refl (ap is_held w.0, w.1) in
      let does = ack-heard s.head s.table out n m done port sync e (ap is_registered w.0) in
      subst
      (λ (o : Option Message).
      let x = heard s n out o in Restarted x × (x.sent ≡ encode (message_of (from s.head) A (Gate None)) ∷ []))
      (sym c) (
        (ready-taken y r done, subst (RegisteredFor A 62_500_000) (sym does.link) ((refl, w.1), refl)),
        call-sent s r out tt (run-count y.ok)
            ∙ ap (map encode) does.frames
            ∙ ap (λ (to : Address). encode (message_of (from s.head) to (Gate None)) ∷ []) w.1,
      )
