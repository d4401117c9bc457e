-- Demand 3 at the head, of a call's plan: a request that passes its tests leaves every link behaving, and the head's own frame calls no box.
-- Assumes nothing.
use Prim.Native.Nat.{ℕ}
use mathlib.Core.Path.{◌≡◌, refl, sym, ap, subst, ◌∙◌}
use mathlib.Core.Bool.{Bool, true}
use mathlib.Core.List.{List}
use mathlib.Core.Logic.{◌≢◌}
use borrow.Author.Tests.{eqb-false, not-true}
use lib.Dec.{eqb}
use lib.ListN.{length}
use Rattle.clock.specs.Counts.{round_trip}
use Rattle.clock.specs.declared.Quanta.{Quanta}
use Rattle.frame.specs.Tests.{Passed}
use Rattle.frame.specs.declared.Address.{Address}
use Rattle.head_state.specs.declared.Head.{Head}
use Rattle.head_links.specs.Link.{is_held, is_registered}
use Rattle.head_links.specs.declared.Change.{Change}
use Rattle.head_table.specs.declared.Event.{Event}
use Rattle.head_links.specs.declared.Link.{Link}
use Rattle.head_survey.specs.Facts.{is_few, idle_from}
use Rattle.head_judging.specs.Judge.{look_of}
use Rattle.head_plans.specs.declared.Plan.{Plan}
use Rattle.head_judging.specs.declared.Call.{Call}
use Rattle.head_laws.specs.Calls.{tests, planned, known}
use Rattle.head_laws.specs.Heard.{heard-message}
use Rattle.head_laws.specs.Numbered.{lowest-idle}
use Rattle.head_laws.specs.Sound.{facts-link, facts-idle}
use Rattle.head_laws.specs.Stated.{NotTick}
use Rattle.pair_head.specs.End.{handed_in}
use Rattle.pair_head.proofs.Links.{Quiet}
use Rattle.pair_head.proofs.Messages.{Kept, message-behaves}
use Rattle.pair_head.proofs.Table.{AllBehave, nothing-behaves, changes-behave}

-- the change that an event is, where it is one
abbrev change-in : Event → Change
change-in Event.Nothing = Change.Deregister
change-in Event.Clear = Change.Deregister
change-in Event.Tick = Change.Deregister
change-in (Event.Leap k) = Change.Deregister
change-in (Event.At k change) = change

module _ (A : Address) where
  -- the head's own frame restarts no watchdog at A, and every link behaves
  pub record Complies (loss : ℕ) (kept : Bool) (p : Plan) (xs : List Link) : Type 0 where
    pub lead : Quiet A p.lead
    pub links : AllBehave A loss kept p.event 1 xs

  -- a request that is no tick, once its tests are passed
  pub planned-complies : {kept : Bool} (r : Call) (h : Head) (xs : List Link) → is_few (length xs) ≡ true → NotTick r
      → Kept A kept (handed_in r) → Passed (tests r h (known xs r)) → Complies 0 kept (planned r h (known xs r)) xs
  planned-complies {kept} (Call.Open start length sync window) h xs f n k t = record { lead = λ e. refl; links = nothing-behaves A kept 1 xs }
  planned-complies {kept} (Call.Admit a pending sync) h xs f n k t =
      let j = (known xs (Call.Admit a pending sync)).idle in
      let e = facts-idle xs (look_of (Call.Admit a pending sync)) f in
      let found : j ≢ 0 = eqb-false j 0 (not-true (eqb j 0) t.1.1.0) in
      record {
        lead = tt;
        links = changes-behave A kept j (Change.Admit a pending sync) xs (rw e (lowest-idle 1 xs (λ (z : idle_from 1 xs ≡ 0). found (e ∙ z))).idle);
      }
  planned-complies {kept} (Call.Reject a pending sync) h xs f n k t = record { lead = λ e. refl; links = nothing-behaves A kept 1 xs }
  planned-complies {kept} (Call.Reregister link sync) h xs f n k t =
      let e = facts-link xs (look_of (Call.Reregister link sync)) f in
      record { lead = tt; links = changes-behave A kept link (Change.Reregister sync) xs (ap (λ (l : Link). is_registered l.state) (sym e) ∙ t.1.0) }
  planned-complies {kept} (Call.Deregister link) h xs f n k t = record { lead = tt; links = changes-behave A kept link Change.Deregister xs tt }
  planned-complies {kept} (Call.Gate link asked) h xs f n k t =
      let e = facts-link xs (look_of (Call.Gate link asked)) f in
      record { lead = tt; links = changes-behave A kept link (change-in (planned (Call.Gate link asked) h (known xs (Call.Gate link asked))).event) xs (ap (λ (l : Link). is_held l.state) (sym e) ∙ t.0) }
  planned-complies {kept} (Call.Hear link m) h xs f n k t =
      let r = Call.Hear link m in
      let l = (known xs r).link in
      let trip : Quanta = record { 0 = round_trip h.count.0 m.timestamp.0 } in
      record {
        lead = subst (Quiet A) (sym (heard-message h l link m t.1.0).lead) tt;
        links = message-behaves A kept h l link m trip xs (facts-link xs (look_of r) f) t.1.1.1.0 k;
      }
  planned-complies Call.Tick h xs f n k t = absurd n
  planned-complies (Call.Advance m) h xs f n k t = absurd n
