-- Lemmas: every call keeps a sound head and table sound, and the table as long as it was.
-- Assumes nothing.
use Rattle.std.specs.Prelude.{ℕ, ◌-◌, ◌^◌, ◌<◌, min, ◌≡◌, true, List, length}
use Rattle.std.proofs.Common.{sym, ap, ◌∙◌, arith}
use Rattle.std.proofs.Math.Bool.{and-eq-true_iff}
use Rattle.std.proofs.lemmas.Bool.{not-true}
use Rattle.clock.specs.Numbers.{fits}
use Rattle.clock.specs.Counts.{next_of}
use Rattle.clock.specs.declared.Quanta.{Quanta}
use Rattle.frame.specs.Tests.{Passed}
use Rattle.frame.specs.declared.Address.{Address}
use Rattle.frame_range.specs.Fits.{is_individual}
use Rattle.head_state.specs.Head.{sound_of, after_of}
use Rattle.head_state.specs.declared.Head.{Head}
use Rattle.head_links.specs.Link.{is_registered}
use Rattle.head_links.specs.declared.Link.{Link}
use Rattle.head_survey.specs.Facts.{is_few, any_holds, idle_from, link_from, sound_table, quiet_all, facts_of}
use Rattle.head_survey.specs.declared.Facts.{Facts}
use Rattle.head_survey.specs.declared.Look.{Look}
use Rattle.head_table.specs.Events.{driven_of}
use Rattle.head_table.specs.declared.Event.{Event}
use Rattle.head_requests.specs.Client.{fits_party}
use Rattle.head_judging.specs.Judge.{look_of}
use Rattle.head_plans.specs.declared.Plan.{Plan}
use Rattle.head_judging.specs.declared.Call.{Call}
use Rattle.head_calls.specs.Fresh.{fresh_of}
use Rattle.head_calls.specs.Serve.{done_of, plan_of, serve_of}
use Rattle.head_laws.specs.Calls.{tests, planned, known, Outcome, unsound, short, refuses, accepts, outcome}
use Rattle.head_laws.specs.Events.{Fits, table-parts, nothing-keeps, driven-length, driven-sound}
use Rattle.head_laws.specs.Fresh.{fresh-done, begun-sound, cleared-table}
use Rattle.head_laws.specs.Heard.{Heeds, message-allowed, heard-message}
use Rattle.head_laws.specs.Window.{tick-keeps, after-keeps, open-keeps}

-- a sound head, and a sound table
pub record Sound (h : Head) (xs : List Link) : Type 0 where
  pub head : sound_of h ≡ true
  pub table : sound_table xs ≡ true

-- what is looked for in a table of an allowed size
module _ (xs : List Link) (k : Look) (n : is_few (length xs) ≡ true) where
  pub facts-link : (facts_of xs k).link ≡ link_from k.link 1 xs
  unfolding facts_of
  facts-link = rw n

  pub facts-idle : (facts_of xs k).idle ≡ idle_from 1 xs
  unfolding facts_of
  facts-idle = rw n

  pub facts-held : (facts_of xs k).held ≡ any_holds k.address xs
  unfolding facts_of
  facts-held = rw n

pub facts-quiet : (xs : List Link) (k : Look) → is_few (length xs) ≡ true → (facts_of xs k).quiet ≡ quiet_all xs
unfolding facts_of
facts-quiet xs k n = rw n

pub party-parts : (a : Address) (sync : Quanta) → fits_party a sync ≡ true → (is_individual a ≡ true) × (fits sync ≡ true)
unfolding fits_party
party-parts a sync = (and-eq-true_iff (is_individual a) (fits sync)).0

heeds-fits : (e : Event) (l : Link) (link : ℕ) (xs : List Link) → l ≡ link_from link 1 xs → Heeds e l link → Fits e xs
heeds-fits Event.Nothing l link xs q t = tt
heeds-fits Event.Clear l link xs q t = t
heeds-fits Event.Tick l link xs q t = tt
heeds-fits (Event.Leap k) l link xs q t = absurd t
heeds-fits (Event.At number c) l link xs q t = rw (t.0, ← q) (message-allowed c l xs t.1)

-- an accepted call's event may be done on the table
planned-fits : (r : Call) (h : Head) (xs : List Link) → is_few (length xs) ≡ true → Passed (tests r h (known xs r))
    → Fits (planned r h (known xs r)).event xs
planned-fits (Call.Open start length sync window) h xs n t = tt
planned-fits (Call.Admit a pending sync) h xs n t =
    let k : Look = look_of (Call.Admit a pending sync) in
    ((party-parts a sync t.0).0, sym (facts-held xs k n) ∙ not-true (facts_of xs k).held t.1.0)
planned-fits (Call.Reject a pending sync) h xs n t = tt
planned-fits (Call.Reregister link sync) h xs n t =
    ap (λ (l : Link). is_registered l.state) (sym (facts-link xs (look_of (Call.Reregister link sync)) n)) ∙ t.1.0
planned-fits (Call.Deregister link) h xs n t = tt
planned-fits (Call.Gate link asked) h xs n t = tt
planned-fits (Call.Hear link m) h xs n t =
    let l = (known xs (Call.Hear link m)).link in
    heeds-fits (planned (Call.Hear link m) h (known xs (Call.Hear link m))).event l link xs
    (facts-link xs (look_of (Call.Hear link m)) n) (heard-message h l link m t.1.0).event
planned-fits Call.Tick h xs n t = tt
planned-fits (Call.Advance m) h xs n t =
    let q = facts-quiet xs (look_of (Call.Advance m)) n in
    omega arith

pub planned-head : (r : Call) (h : Head) (f : Facts) → Passed (tests r h f) → sound_of h ≡ true → sound_of (planned r h f).head ≡ true
planned-head (Call.Open start length sync window) h f t s = open-keeps h start length sync window s t.1.1.0
planned-head (Call.Admit a pending sync) h f t s = s
planned-head (Call.Reject a pending sync) h f t s = s
planned-head (Call.Reregister link sync) h f t s = s
planned-head (Call.Deregister link) h f t s = s
planned-head (Call.Gate link asked) h f t s = s
planned-head (Call.Hear link m) h f t s =
    ap sound_of (heard-message h f.link link m t.1.0).head ∙ s
planned-head Call.Tick h f t s = tick-keeps h s
planned-head (Call.Advance n) h f t s = tick-keeps (after_of h (min f.quiet (n - 1))) (after-keeps h (min f.quiet (n - 1)) s)

-- the count is a reading of the 32-bit counter
pub planned-count : (r : Call) (h : Head) (f : Facts) → Passed (tests r h f) → h.count.0 < 2 ^ 32 → (planned r h f).head.count.0 < 2 ^ 32
unfolding next_of
planned-count (Call.Open start length sync window) h f t k = k
planned-count (Call.Admit a pending sync) h f t k = k
planned-count (Call.Reject a pending sync) h f t k = k
planned-count (Call.Reregister link sync) h f t k = k
planned-count (Call.Deregister link) h f t k = k
planned-count (Call.Gate link asked) h f t k = k
planned-count (Call.Hear link m) h f t k =
    rw (heard-message h f.link link m t.1.0).head k
planned-count Call.Tick h f t k = omega arith
planned-count (Call.Advance n) h f t k = omega arith

module _ (h : Head) (xs : List Link) (r : Call) where
  plan-keeps : (room : ℕ) (p : Plan) → Outcome h xs r room p → Sound h xs → Sound p.head (driven_of p.event xs)
  plan-keeps room p (unsound f e) s = rw (e, nothing-keeps xs) s
  plan-keeps room p (short f k e) s = rw (e, nothing-keeps xs) s
  plan-keeps room p (refuses f k x a b c e) s = rw (e, nothing-keeps xs) s
  plan-keeps room p (accepts f k t e) s =
      let few = (table-parts xs s.table).0 in
      rw e
      (record {
        head = planned-head r h (known xs r) t s.head;
        table = driven-sound (planned r h (known xs r)).event xs (planned-fits r h xs few t) s.table;
      })

  -- every call, accepted or refused, keeps a sound head and table sound
  pub call-keeps : (os : List ℕ) → Sound h xs → Sound (serve_of h xs r os).answer.next (serve_of h xs r os).table
  unfolding serve_of done_of
  call-keeps os s = plan-keeps (length os) (plan_of h xs r (length os)) (outcome h xs r (length os)) s

  -- and the table as long as it was
  pub call_length : (os : List ℕ) → length (serve_of h xs r os).table ≡ length xs
  unfolding serve_of done_of
  call_length os = driven-length (plan_of h xs r (length os)).event xs

-- a fresh head and its table are sound
pub fresh-sound : (a : Address) (xs : List Link) → is_few (length xs) ≡ true → is_individual a ≡ true
    → Sound (fresh_of a xs).answer.next (fresh_of a xs).table
fresh-sound a xs n i = rw (fresh-done a xs n i) (record { head = begun-sound a i; table = cleared-table xs n })
