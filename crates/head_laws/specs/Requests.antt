-- Lemmas: what a client's request that is done leaves, sends and tells.
-- Assumes nothing.
use Rattle.std.specs.Prelude.{Some, ℕ, ◌≡◌, refl, true, false, not, ◌&&◌, List, [], ◌∷◌, ◌≢◌, eqb, length}
use Rattle.std.proofs.Common.{sym, ap, ◌∙◌, arith, eqb-true}
use Rattle.std.proofs.Math.Bool.{and-eq-true_iff}
use Rattle.std.proofs.lemmas.Bool.{eqb-false, not-true, not-false}
use Rattle.laws.specs.Cases.{either}
use Rattle.clock.specs.declared.Count.{Count}
use Rattle.clock.specs.declared.Quanta.{Quanta}
use Rattle.frame.specs.Card.{number_of, answer_of}
use Rattle.frame.specs.declared.Address.{Address}
use Rattle.frame.specs.declared.Body.TheVariants.{Gate, Discovery, Register}
use Rattle.frame.specs.declared.Grants.{Grants}
use Rattle.frame.specs.declared.RegisterFlag.{RegisterFlag}
use Rattle.frame.specs.declared.Reply.{Reply}
use Rattle.frame.specs.declared.Reply.TheVariants.{Done, Range, Held, Full, Output, Unsound}
use Rattle.head_gating.specs.Asked.{grants_of}
use Rattle.head_gating.specs.declared.Asked.{Asked}
use Rattle.head_state.specs.Head.{with_window, sound_of}
use Rattle.head_state.specs.Window.{opened}
use Rattle.head_state.specs.declared.Head.{Head}
use Rattle.head_links.specs.Link.{idle, waiting_at, is_held, is_registered}
use Rattle.head_links.specs.Steps.{gated}
use Rattle.head_links.specs.declared.Change.{Change}
use Rattle.head_links.specs.declared.Link.{Link}
use Rattle.head_links.specs.declared.Stepped.{Stepped}
use Rattle.head_survey.specs.Facts.{idle_from, link_from, sound_table}
use Rattle.head_table.specs.Output.{message_of}
use Rattle.head_table.specs.declared.Event.{Event}
use Rattle.head_requests.specs.Client.{fits_party}
use Rattle.head_judging.specs.Judge.{look_of, has_room}
use Rattle.head_plans.specs.Plan.{quiet, accepted}
use Rattle.head_judging.specs.declared.Call.{Call}
use Rattle.head_calls.specs.Serve.{serve_of}
use Rattle.head_laws.specs.Calls.{known, all_tests}
use Rattle.head_laws.specs.Does.{Does, Leads, done-few, does, leads, held_number}
use Rattle.head_laws.specs.Events.{table-parts}
use Rattle.head_laws.specs.Stated.{sent_by, from}
use Rattle.head_laws.specs.Numbered.{Has, Lowest, lowest-idle, none-idle}
use Rattle.head_laws.specs.Refusals.{call-reply, call-accepted}
use Rattle.head_laws.specs.Sound.{facts-idle}

-- a GATE is sent whether or not the link is registered
gated-sent : (l : Link) (grants : Grants) → (gated l grants).sent ≡ Some (l.address, Gate grants)
unfolding gated
gated-sent l grants = either (λ (s : Stepped). s.sent ≡ Some (l.address, Gate grants)) (is_registered l.state) _ _ (λ _. refl) (λ _. refl)

-- 11 is given only where no link is idle
abbrev FullOnly : List Link → Reply → Type 0
FullOnly xs x = x ≡ Full → idle_from 1 xs ≡ 0

other : (xs : List Link) (x : Reply) → number_of x ≢ 11 → FullOnly xs x
other xs x n e = absurd (n (ap number_of e))

full-only : (h : Head) (xs : List Link) (a : Address) (pending : ℕ) (sync : Quanta) (room : ℕ)
    → FullOnly xs (answer_of (all_tests h xs (Call.Admit a pending sync) room))
full-only h xs a pending sync room =
    let r = Call.Admit a pending sync in
    let f = known xs r in
    either (FullOnly xs) (sound_of h && sound_table xs) _ _
    (λ s.
    let few = (table-parts xs ((and-eq-true_iff (sound_of h) (sound_table xs)).0 s).1).0 in
    either (FullOnly xs) (has_room (length xs) room) _ _
    (λ _.
    either (FullOnly xs) (fits_party a sync) _ _
    (λ _.
    either (FullOnly xs) (not f.held) _ _
    (λ _.
    either (FullOnly xs) (not (eqb f.idle 0)) _ _ (λ _. other xs Done (omega arith))
    (λ t _. sym (facts-idle xs (look_of r) few) ∙ eqb-true f.idle 0 (not-false (eqb f.idle 0) t)))
    (λ _. other xs Held (omega arith)))
    (λ _. other xs Range (omega arith)))
    (λ _. other xs Output (omega arith)))
    (λ _. other xs Unsound (omega arith))

module _ (h : Head) (xs : List Link) (os : List ℕ) where
  -- admit is answered 11 only where every link is held
  pub admit-full : (a : Address) (pending : ℕ) (sync : Quanta) → (serve_of h xs (Call.Admit a pending sync) os).answer.reply ≡ Full
      → (n : ℕ) → Has 1 xs n → is_held (link_from n 1 xs).state ≡ true
  admit-full a pending sync e =
      none-idle 1 xs (omega arith) (full-only h xs a pending sync (length os) (sym (call-reply h xs (Call.Admit a pending sync) os) ∙ e))

  -- admit: lowest idle link; REGISTER ack; waiting
  module _ (a : Address) (pending : ℕ) (sync : Quanta) (d : (serve_of h xs (Call.Admit a pending sync) os).answer.reply ≡ Done) where
    admit-idle : (known xs (Call.Admit a pending sync)).idle ≡ idle_from 1 xs
    admit-idle = facts-idle xs (look_of (Call.Admit a pending sync)) (done-few h xs (Call.Admit a pending sync) os d)

    pub admit-lowest : Lowest 1 xs (idle_from 1 xs)
    admit-lowest =
        let t = (call-accepted h xs (Call.Admit a pending sync) os d).passed.1.1.0 in
        let some = eqb-false (known xs (Call.Admit a pending sync)).idle 0 (not-true (eqb (known xs (Call.Admit a pending sync)).idle 0) t) in
        lowest-idle 1 xs (λ (e : idle_from 1 xs ≡ 0). some (admit-idle ∙ e))

    pub admit-does :
        Does h xs (Call.Admit a pending sync) os (idle_from 1 xs) (waiting_at a)
        (message_of (from h) a (Register (idle_from 1 xs) RegisterFlag.Ack sync pending) ∷ []) quiet
    admit-does =
        does h xs (Call.Admit a pending sync) os d (idle_from 1 xs) (Change.Admit a pending sync) quiet
        (ap (λ (j : ℕ). accepted h (Event.At j (Change.Admit a pending sync))) admit-idle) admit-lowest.has

  -- reject: REGISTER nack, port 0; no state changes
  pub reject-does : (a : Address) (pending : ℕ) (sync : Quanta) → (serve_of h xs (Call.Reject a pending sync) os).answer.reply ≡ Done
      → Leads h xs (Call.Reject a pending sync) os h (message_of (from h) a (Register 0 RegisterFlag.Nack sync pending) ∷ []) quiet
  reject-does a pending sync d =
      leads h xs (Call.Reject a pending sync) os d h (Some (a, Register 0 RegisterFlag.Nack sync pending)) quiet refl

  -- R159, R160
  pub open-does : (start : Count) (length sync window : Quanta) → (serve_of h xs (Call.Open start length sync window) os).answer.reply ≡ Done
      → Leads h xs (Call.Open start length sync window) os (with_window h (opened h.count start window))
      (message_of (from h) (record { 0 = 0x0180C2000001 }) (Discovery (record { start = start; length = length; force = false }) sync) ∷ []) quiet
  open-does start length sync window d =
      leads h xs (Call.Open start length sync window) os d (with_window h (opened h.count start window))
      (Some ((record { 0 = 0x0180C2000001 }), (Discovery (record { start = start; length = length; force = false }) sync))) quiet refl

  module _ (link : ℕ) where
    abbrev l : Link
    l = link_from link 1 xs

    -- reregister sends flag 1 and waits; it echoes pending 0
    pub reregister-does : (sync : Quanta) → (serve_of h xs (Call.Reregister link sync) os).answer.reply ≡ Done
        → Does h xs (Call.Reregister link sync) os link (waiting_at l.address)
        (message_of (from h) l.address (Register link RegisterFlag.Reregister sync 0) ∷ []) quiet
    reregister-does sync d =
        let r = Call.Reregister link sync in
        does h xs r os d link (Change.Reregister sync) quiet refl (held_number h xs r os d (call-accepted h xs r os d).passed.0)

    -- R169
    pub deregister-does : (serve_of h xs (Call.Deregister link) os).answer.reply ≡ Done
        → Does h xs (Call.Deregister link) os link idle
        (message_of (from h) l.address (Register link RegisterFlag.Deregister (record { 0 = 0 }) 0) ∷ []) quiet
    deregister-does d =
        let r = Call.Deregister link in
        does h xs r os d link Change.Deregister quiet refl (held_number h xs r os d (call-accepted h xs r os d).passed.0)

    -- gate sends the grants asked for, and restarts the periodic timer if registered
    pub gate-does : (asked : Asked) → (serve_of h xs (Call.Gate link asked) os).answer.reply ≡ Done
        → Does h xs (Call.Gate link asked) os link (gated l (grants_of asked)).link
        (message_of (from h) l.address (Gate (grants_of asked)) ∷ []) quiet
    gate-does asked d =
        let r = Call.Gate link asked in
        rw (← (ap (sent_by (from h)) (gated-sent l (grants_of asked))))
        (does h xs r os d link (Change.Gate (grants_of asked)) quiet refl (held_number h xs r os d (call-accepted h xs r os d).passed.0))
