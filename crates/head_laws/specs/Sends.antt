-- Lemmas: what a link sends at a tick or a change, and what the head itself sends, is in range.
-- Assumes nothing.
use Rattle.frame.specs.declared.Body.{Body}
use Rattle.head_table.specs.declared.Event.{Event}
use Rattle.head_links.specs.declared.Change.{Change}
use Rattle.std.specs.Prelude.{Option, None, Some, ℕ, ◌^◌, ◌<◌, ◌≡◌, true, eqb, ltb}
use Rattle.std.proofs.Math.Path.{refl}
use Rattle.std.proofs.Math.Bool.{and-eq-true_iff}
use Rattle.std.proofs.Common.{arith}
use Rattle.laws.specs.Cases.{either}
use Rattle.clock.specs.Numbers.{fits}
use Rattle.clock.specs.Timers.{ticked}
use Rattle.clock.specs.declared.Quanta.{Quanta}
use Rattle.frame.specs.Layout.{listed}
use Rattle.frame.specs.Range.{GrantsTyped, BodyTyped}
use Rattle.frame.specs.Tests.{Passed}
use Rattle.frame.specs.declared.Address.{Address}
use Rattle.frame.specs.declared.Body.TheVariants.{Gate}
use Rattle.frame.specs.declared.Grants.{Grants}
use Rattle.frame.specs.declared.Grants.TheVariants.{None}
use Rattle.frame_range.specs.Fits.{fits_address, fits_all, fits_body}
use Rattle.frame_range.specs.Laws.{individual-fits}
use Rattle.head_gating.specs.Asked.{grants_of, allowed, fits as fits_asked}
use Rattle.head_gating.specs.declared.Asked.{Asked}
use Rattle.head_state.specs.declared.Head.{Head}
use Rattle.head_links.specs.Link.{is_registered}
use Rattle.head_links.specs.Sound.{sound_of}
use Rattle.head_links.specs.Steps.{with_watchdog, gated, change_of}
use Rattle.head_links.specs.Tick.{tick_wait, tick_periodic, tick_watchdog, tick_in}
use Rattle.head_links.specs.Pass.{passed_of}
use Rattle.head_links.specs.declared.Link.{Link}
use Rattle.head_links.specs.declared.State.{State}
use Rattle.head_links.specs.declared.State.TheVariants.{Idle, Waiting, Registered}
use Rattle.head_links.specs.declared.Stepped.{Stepped}
use Rattle.head_survey.specs.declared.Facts.{Facts}
use Rattle.head_table.specs.Events.{port_of, react_of}
use Rattle.head_requests.specs.Client.{fits_lengths, fits_party}
use Rattle.head_judging.specs.declared.Call.{Call}
use Rattle.head_laws.specs.Calls.{tests, planned}
use Rattle.head_laws.specs.Heard.{ByMessage, Heeds, heard-message}
use Rattle.head_laws.specs.Links.{address-fits}
use Rattle.head_laws.specs.Sound.{party-parts}
use Rattle.head_laws.specs.Stated.{RequestTyped}

-- a body for an address, both in range
abbrev pub SentFits : Option (Address × Body) → Type 0
SentFits None = Unit {0}
SentFits (Some (a, body)) = (fits_address a ≡ true) × (fits_body body ≡ true) × BodyTyped body

module _ (l : Link) (port : ℕ) (a : fits_address l.address ≡ true) (k : port < 2 ^ 16) where
  gate-sends : (grants : Grants) → fits_body (Gate grants) ≡ true → GrantsTyped (listed grants) → SentFits (gated l grants).sent
  unfolding gated
  gate-sends grants f t = either (λ (s : Stepped). SentFits s.sent) (is_registered l.state) _ _ (λ _. (a, f, t)) (λ _. (a, f, t))

  wait-sends : SentFits (tick_wait l port).sent
  unfolding tick_wait
  wait-sends = either (λ (s : Stepped). SentFits s.sent) (ticked l.wait).rang _ _ (λ _. (a, refl, (k, omega arith))) (λ _. tt)

periodic-sends : (l : Link) → fits_address l.address ≡ true → SentFits (tick_periodic l).sent
unfolding tick_periodic
periodic-sends l a =
    either (λ (s : Stepped). SentFits s.sent) (ticked l.periodic).rang _ _ (λ _. gate-sends l 0 a (omega arith) None refl tt) (λ _. tt)

watchdog-sends : (l : Link) (port : ℕ) → fits_address l.address ≡ true → port < 2 ^ 16 → SentFits (tick_watchdog l port).sent
unfolding tick_watchdog
watchdog-sends l port a k =
    either (λ (s : Stepped). SentFits s.sent) (ticked l.watchdog).rang _ _ (λ _. (a, refl, (k, omega arith)))
    (λ _. periodic-sends (with_watchdog l (ticked l.watchdog).timer) a)

tick-sends : (s : State) (l : Link) (port : ℕ) → fits_address l.address ≡ true → port < 2 ^ 16 → SentFits (tick_in s l port).sent
tick-sends Idle l port a k = tt
tick-sends Waiting l port a k = wait-sends l port a k
tick-sends Registered l port a k = watchdog-sends l port a k

-- what a change carries is in range
abbrev pub ChangeFits : Change → Type 0
ChangeFits (Change.Admit a pending sync) = (fits_address a ≡ true) × (fits sync ≡ true) × (pending < 2 ^ 8)
ChangeFits (Change.Reregister sync) = fits sync ≡ true
ChangeFits Change.Deregister = Unit {0}
ChangeFits (Change.Gate grants) = (fits_all true (listed grants) ≡ true) × GrantsTyped (listed grants)
ChangeFits Change.Register = Unit {0}
ChangeFits Change.Report = Unit {0}

change-sends : (c : Change) (l : Link) (port : ℕ) → ChangeFits c → fits_address l.address ≡ true → port < 2 ^ 16
    → SentFits (change_of c l port).sent
change-sends (Change.Admit b pending sync) l port f a k = (f.0, f.1, (k, f.2))
change-sends (Change.Reregister sync) l port f a k = (a, f, (k, omega arith))
change-sends Change.Deregister l port f a k = (a, refl, (k, omega arith))
change-sends (Change.Gate grants) l port f a k = gate-sends l port a k grants f.0 f.1
change-sends Change.Register l port f a k = (a, refl, tt)
change-sends Change.Report l port f a k = tt

abbrev pub EventFits : Event → Type 0
EventFits Event.Nothing = Unit {0}
EventFits Event.Clear = Unit {0}
EventFits Event.Tick = Unit {0}
EventFits (Event.Leap k) = Unit {0}
EventFits (Event.At number c) = ChangeFits c

-- the grants asked for
asked-typed : (link : ℕ) (asked : Asked) → RequestTyped (Call.Gate link asked) → GrantsTyped (listed (grants_of asked))
unfolding grants_of
asked-typed link asked t =
    either (λ (g : Grants). GrantsTyped (listed g)) (eqb asked.number 0) _ _ (λ _. tt)
    (λ _.
    either (λ (g : Grants). GrantsTyped (listed g)) (eqb asked.number 1) _ _ (λ _. (t.0, tt))
    (λ _.
    either (λ (g : Grants). GrantsTyped (listed g)) (eqb asked.number 2) _ _ (λ _. (t.0, (t.1, tt)))
    (λ _.
    either (λ (g : Grants). GrantsTyped (listed g)) (eqb asked.number 3) _ _ (λ _. (t.0, (t.1, (t.2, tt))))
    (λ _. (t.0, (t.1, (t.2, (t.3, tt))))))))

asked-fits : (asked : Asked) → fits_asked asked ≡ true → fits_all true (listed (grants_of asked)) ≡ true
unfolding fits_asked
asked-fits asked h = ((and-eq-true_iff (ltb asked.force (allowed asked.number)) (fits_all true (listed (grants_of asked)))).0 h).1

party-fits : (a : Address) (sync : Quanta) → fits_party a sync ≡ true → (fits_address a ≡ true) × (fits sync ≡ true)
party-fits a sync h =
    let p = party-parts a sync h in
    (individual-fits a p.0, p.1)

message-fits : (c : Change) (l : Link) → ByMessage c l → ChangeFits c
message-fits (Change.Admit a pending sync) l b = absurd b
message-fits (Change.Reregister sync) l b = absurd b
message-fits Change.Deregister l b = tt
message-fits (Change.Gate grants) l b = absurd b
message-fits Change.Register l b = tt
message-fits Change.Report l b = tt

heeds-fits : (e : Event) (l : Link) (link : ℕ) → Heeds e l link → EventFits e
heeds-fits Event.Nothing l link t = tt
heeds-fits Event.Clear l link t = tt
heeds-fits Event.Tick l link t = tt
heeds-fits (Event.Leap k) l link t = tt
heeds-fits (Event.At number c) l link t = message-fits c l t.1

-- what a sound link of any number sends is in range
pub react-sends : (e : Event) (l : Link) (number : ℕ) → EventFits e → sound_of l ≡ true → SentFits (react_of e l number).sent
unfolding passed_of
react-sends Event.Nothing l number f s = tt
react-sends Event.Clear l number f s = tt
react-sends Event.Tick l number f s = tick-sends l.state l (port_of number) (address-fits l s) (omega arith)
react-sends (Event.Leap k) l number f s = tick-sends l.state (passed_of l k) (port_of number) (address-fits l s) (omega arith)
react-sends (Event.At j c) l number f s =
    either (λ (x : Stepped). SentFits x.sent) (eqb j number) _ _
    (λ _. change-sends c l (port_of number) f (address-fits l s) (omega arith)) (λ _. tt)

-- so is what an accepted call's change carries
pub planned-event : (r : Call) (h : Head) (f : Facts) → RequestTyped r → Passed (tests r h f) → EventFits (planned r h f).event
planned-event (Call.Open start length sync window) h f k t = tt
planned-event (Call.Admit a pending sync) h f k t =
    let p = party-fits a sync t.0 in
    (p.0, p.1, k)
planned-event (Call.Reject a pending sync) h f k t = tt
planned-event (Call.Reregister link sync) h f k t = t.1.1.0
planned-event (Call.Deregister link) h f k t = tt
planned-event (Call.Gate link asked) h f k t = (asked-fits asked t.1.0, asked-typed link asked k)
planned-event (Call.Hear link m) h f k t =
    heeds-fits (planned (Call.Hear link m) h f).event f.link link
    (heard-message h f.link link m t.1.0).event
planned-event Call.Tick h f k t = tt
planned-event (Call.Advance n) h f k t = tt

-- and what the head itself sends
pub planned-lead : (r : Call) (h : Head) (f : Facts) → RequestTyped r → Passed (tests r h f) → SentFits (planned r h f).lead
unfolding fits_lengths
planned-lead (Call.Open start length sync window) h f k t = (refl, t.1.0, k)
planned-lead (Call.Admit a pending sync) h f k t = tt
planned-lead (Call.Reject a pending sync) h f k t =
    let p = party-fits a sync t.0 in
    (p.0, p.1, (omega arith, k))
planned-lead (Call.Reregister link sync) h f k t = tt
planned-lead (Call.Deregister link) h f k t = tt
planned-lead (Call.Gate link asked) h f k t = tt
planned-lead (Call.Hear link m) h f k t =
    rw (heard-message h f.link link m t.1.0).lead tt
planned-lead Call.Tick h f k t = tt
planned-lead (Call.Advance n) h f k t = tt
