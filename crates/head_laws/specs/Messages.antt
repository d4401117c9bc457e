-- Lemmas: what a message that is accepted at the head leaves, sends and tells.
-- Assumes nothing.
use Rattle.std.specs.Prelude.{None, ℕ, ◌≡◌, true, false, List, [], ◌∷◌}
use Rattle.std.proofs.Math.Path.{refl}
use Rattle.std.proofs.Common.{ap, ◌∙◌}
use Rattle.clock.specs.Counts.{round_trip}
use Rattle.clock.specs.Numbers.{watchdog}
use Rattle.clock.specs.declared.Quanta.{Quanta}
use Rattle.frame.specs.declared.Body.{Body}
use Rattle.frame_queues.specs.declared.Sets.{Sets}
use Rattle.frame.specs.declared.Body.TheVariants.{Gate, Report, RegisterReq, Register, RegisterAck}
use Rattle.frame.specs.declared.Grants.TheVariants.{None}
use Rattle.frame.specs.declared.Message.{Message}
use Rattle.frame.specs.declared.RegisterAckFlag.{RegisterAckFlag}
use Rattle.frame.specs.declared.RegisterFlag.{RegisterFlag}
use Rattle.frame.specs.declared.RegisterReqFlag.{RegisterReqFlag}
use Rattle.frame.specs.declared.Reply.TheVariants.{Done}
use Rattle.head_state.specs.declared.Head.{Head}
use Rattle.head_links.specs.Link.{idle, registered_at, is_held, is_registered}
use Rattle.head_links.specs.Steps.{with_watchdog, change_of}
use Rattle.head_links.specs.declared.Change.{Change}
use Rattle.head_links.specs.declared.Link.{Link}
use Rattle.head_survey.specs.Facts.{link_from}
use Rattle.head_table.specs.Output.{message_of}
use Rattle.head_table.specs.declared.Event.{Event}
use Rattle.head_hearing.specs.Hear.{is_newcomer, on_link, on_registered, confirmed, heard_of}
use Rattle.head_judging.specs.Judge.{look_of}
use Rattle.head_plans.specs.Plan.{quiet, telling}
use Rattle.head_plans.specs.declared.Kind.{Kind}
use Rattle.head_plans.specs.declared.Notice.{Notice}
use Rattle.head_judging.specs.declared.Call.{Call}
use Rattle.head_calls.specs.Serve.{serve_of}
use Rattle.head_laws.specs.Calls.{planned, known}
use Rattle.head_laws.specs.Does.{Does, Leads, done-few, does, leads, held_number}
use Rattle.head_laws.specs.Stated.{sent_by, from}
use Rattle.head_laws.specs.Refusals.{call-accepted}
use Rattle.head_laws.specs.Sound.{facts-link}

-- a notice of a kind, with link and round trip
abbrev pub told : Kind → ℕ → Quanta → Notice
told kind link trip = record { kind = kind; link = link; trip = trip }

-- a message other than REGISTER_REQ flag 1 comes on a held link
held_on : (body : Body) (l : Link) (link : ℕ) → is_newcomer body ≡ false → on_link body l link ≡ true → is_held l.state ≡ true
unfolding on_link
held_on body l link n t = rw n at t

module _ (h : Head) (xs : List Link) (os : List ℕ) (link : ℕ) (m : Message) where
  abbrev l : Link
  l = link_from link 1 xs

  abbrev trip : Quanta
  trip = record { 0 = round_trip h.count.0 m.timestamp.0 }

  abbrev r : Call
  r = Call.Hear link m

  module _ (d : (serve_of h xs r os).answer.reply ≡ Done) where
    plan-of : (body : Body) → m.body ≡ body → planned r h (known xs r) ≡ heard_of body h l link trip
    plan-of body e =
        ap (λ (b : Body). heard_of b h (known xs r).link link trip) e
        ∙ ap (λ (x : Link). heard_of body h x link trip) (facts-link xs (look_of r) (done-few h xs r os d))

    -- a message that changes its link
    changes : (body : Body) (c : Change) (kind : Kind) → m.body ≡ body → is_newcomer body ≡ false
        → heard_of body h l link trip ≡ telling h (Event.At link c) kind link trip
        → Does h xs r os link (change_of c l link).link (sent_by (from h) (change_of c l link).sent) (told kind link trip)
    changes body c kind e n q =
        let t = (call-accepted h xs r os d).passed.1.0 in
        let i = held_on m.body (known xs r).link link (ap is_newcomer e ∙ n) t in
        does h xs r os d link c (told kind link trip) (plan-of body e ∙ q) (held_number h xs r os d i)

    -- and one that changes nothing
    passes : (body : Body) (n : Notice) → m.body ≡ body
        → heard_of body h l link trip ≡ record { reply = Done; head = h; event = Event.Nothing; lead = None; notice = n; made = 0 }
        → Leads h xs r os h [] n
    passes body n e q = leads h xs r os d h None n (plan-of body e ∙ q)

    -- REGISTER_REQ flag 1 gives a notice, with link 0
    pub newcomer-heard : (pending : ℕ) → m.body ≡ RegisterReq RegisterReqFlag.Register pending → Leads h xs r os h [] (told Kind.Request 0 trip)
    newcomer-heard pending e = passes (RegisterReq RegisterReqFlag.Register pending) (told Kind.Request 0 trip) e refl

    -- REGISTER_ACK 1 while waiting registers, and sends an empty GATE
    pub ack-heard : (port : ℕ) (sync : Quanta) → m.body ≡ RegisterAck RegisterAckFlag.Ack port sync → is_registered l.state ≡ false
        → Does h xs r os link (registered_at l.address) (message_of (from h) l.address (Gate None) ∷ []) (told Kind.Registered link trip)
    unfolding confirmed
    ack-heard port sync e w = changes (RegisterAck RegisterAckFlag.Ack port sync) Change.Register Kind.Registered e refl (rw w)

    -- 0 deregisters
    pub nack-heard : (port : ℕ) (sync : Quanta) → m.body ≡ RegisterAck RegisterAckFlag.Nack port sync → is_registered l.state ≡ false
        → Does h xs r os link idle (message_of (from h) l.address (Register link RegisterFlag.Deregister (record { 0 = 0 }) 0) ∷ [])
        (told Kind.Dropped link trip)
    unfolding confirmed
    nack-heard port sync e w = changes (RegisterAck RegisterAckFlag.Nack port sync) Change.Deregister Kind.Dropped e refl (rw w)

    -- REGISTER_REQ flag 3 deregisters a registered link
    pub leave-heard : (pending : ℕ) → m.body ≡ RegisterReq RegisterReqFlag.Deregister pending → is_registered l.state ≡ true
        → Does h xs r os link idle (message_of (from h) l.address (Register link RegisterFlag.Deregister (record { 0 = 0 }) 0) ∷ [])
        (told Kind.Dropped link trip)
    unfolding on_registered
    leave-heard pending e i = changes (RegisterReq RegisterReqFlag.Deregister pending) Change.Deregister Kind.Dropped e refl (rw i)

    -- REPORT on a registered link restarts its watchdog, and its sets are told
    pub report-heard : (sets : Sets) → m.body ≡ Report sets → is_registered l.state ≡ true
        → Does h xs r os link (with_watchdog l (record { left = watchdog })) [] (told (Kind.Report sets) link trip)
    unfolding on_registered
    report-heard sets e i = changes (Report sets) Change.Report (Kind.Report sets) e refl (rw i)

    -- R70, R187
    pub ack-passed : (flag : RegisterAckFlag) (port : ℕ) (sync : Quanta) → m.body ≡ RegisterAck flag port sync → is_registered l.state ≡ true
        → Leads h xs r os h [] quiet
    unfolding confirmed
    ack-passed flag port sync e i = passes (RegisterAck flag port sync) quiet e (rw i)

    pub leave-passed : (pending : ℕ) → m.body ≡ RegisterReq RegisterReqFlag.Deregister pending → is_registered l.state ≡ false
        → Leads h xs r os h [] quiet
    unfolding on_registered
    leave-passed pending e w = passes (RegisterReq RegisterReqFlag.Deregister pending) quiet e (rw w)

    pub report-passed : (sets : Sets) → m.body ≡ Report sets → is_registered l.state ≡ false → Leads h xs r os h [] quiet
    unfolding on_registered
    report-passed sets e w = passes (Report sets) quiet e (rw w)
