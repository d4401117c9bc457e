-- Lemmas: what a call of the head that is done leaves, sends and tells, by its plan.
-- Assumes nothing.
use Rattle.std.specs.Prelude.{Option, None, ℕ, ◌≡◌, true, leb, length}
use Rattle.std.proofs.Common.{sym, ◌∙◌, arith, leb-true}
use Rattle.std.proofs.Math.Path.{ap}
use Rattle.std.proofs.Math.Bool.{and-eq-true_iff}
use mathlib.Core.List.{List, ◌++◌, append-nil}
use Rattle.frame.specs.declared.Address.{Address}
use Rattle.frame.specs.declared.Body.{Body}
use Rattle.frame.specs.declared.Message.{Message}
use Rattle.frame.specs.declared.Reply.TheVariants.{Done}
use Rattle.head_state.specs.Head.{sound_of}
use Rattle.head_state.specs.declared.Head.{Head}
use Rattle.head_links.specs.Link.{is_held}
use Rattle.head_links.specs.Steps.{change_of}
use Rattle.head_links.specs.declared.Change.{Change}
use Rattle.head_links.specs.declared.Link.{Link}
use Rattle.head_survey.specs.Facts.{is_few, link_from, sound_table}
use Rattle.head_table.specs.Events.{port_of, driven_of}
use Rattle.head_table.specs.declared.Event.{Event}
use Rattle.head_judging.specs.Judge.{look_of}
use Rattle.head_plans.specs.declared.Notice.{Notice}
use Rattle.head_plans.specs.declared.Plan.{Plan}
use Rattle.head_judging.specs.declared.Call.{Call}
use Rattle.head_calls.specs.Serve.{done_of, serve_of}
use Rattle.head_laws.specs.Calls.{planned, known}
use Rattle.head_laws.specs.Events.{table-parts, nothing-keeps}
use Rattle.head_laws.specs.Frames.{nothing-frames}
use Rattle.head_laws.specs.Stated.{sent_by, frames_of, call_frames, from}
use Rattle.head_laws.specs.Numbered.{Has, held-has, changed-link, changed-frames}
use Rattle.head_laws.specs.Refusals.{call-accepted}
use Rattle.head_laws.specs.Sound.{facts-link}

-- a call that leaves the head as it was, this link at this number, hands out these frames and gives this notice
pub record Does (h : Head) (xs : List Link) (r : Call) (os : List ℕ) (number : ℕ) (l : Link) (ms : List Message) (n : Notice) : Type 0 where
  pub head : (serve_of h xs r os).answer.next ≡ h
  pub link : link_from number 1 (serve_of h xs r os).table ≡ l
  pub frames : call_frames h xs r os ≡ ms
  pub notice : (serve_of h xs r os).answer.notice ≡ n

-- one that changes no link, and hands out the head's own frames
pub record Leads (h : Head) (xs : List Link) (r : Call) (os : List ℕ) (next : Head) (ms : List Message) (n : Notice) : Type 0 where
  pub head : (serve_of h xs r os).answer.next ≡ next
  pub table : (serve_of h xs r os).table ≡ xs
  pub frames : call_frames h xs r os ≡ ms
  pub notice : (serve_of h xs r os).answer.notice ≡ n

-- port equals link: a sound table's numbers end at 64
port-is : (xs : List Link) (number : ℕ) → is_few (length xs) ≡ true → Has 1 xs number → port_of number ≡ number
unfolding is_few
port-is xs number n h =
    let most = leb-true (length xs) 64 ((and-eq-true_iff (leb 1 (length xs)) (leb (length xs) 64)).0 n).1 in
    omega arith

module _ (h : Head) (xs : List Link) (r : Call) (os : List ℕ) (d : (serve_of h xs r os).answer.reply ≡ Done) where
  pub done-few : is_few (length xs) ≡ true
  done-few = (table-parts xs ((and-eq-true_iff (sound_of h) (sound_table xs)).0 (call-accepted h xs r os d).sound).1).0

  -- a change of one link
  pub does : (number : ℕ) (c : Change) (n : Notice)
      → planned r h (known xs r) ≡ record { reply = Done; head = h; event = Event.At number c; lead = None; notice = n; made = 0 }
      → Has 1 xs number
      → Does h xs r os number (change_of c (link_from number 1 xs) number).link (sent_by (from h) (change_of c (link_from number 1 xs) number).sent) n
  unfolding serve_of done_of
  does number c n q has =
      let l = link_from number 1 xs in
      let e = (call-accepted h xs r os d).plan ∙ q in
      let port = port-is xs number done-few has in
      record {
        head = ap (λ (p : Plan). p.head) e;
        link =
            ap (λ (p : Plan). link_from number 1 (driven_of p.event xs)) e
            ∙ changed-link number c 1 xs has
            ∙ ap (λ (k : ℕ). (change_of c l k).link) port;
        frames =
            ap (λ (p : Plan). frames_of p xs) e
            ∙ changed-frames number c (from h) 1 xs has
            ∙ ap (λ (k : ℕ). sent_by (from h) (change_of c l k).sent) port;
        notice = ap (λ (p : Plan). p.notice) e;
      }

  -- no change of any link
  pub leads : (next : Head) (lead : Option (Address × Body)) (n : Notice)
      → planned r h (known xs r) ≡ record { reply = Done; head = next; event = Event.Nothing; lead = lead; notice = n; made = 0 }
      → Leads h xs r os next (sent_by (from next) lead) n
  unfolding serve_of done_of
  leads next lead n q =
      let e = (call-accepted h xs r os d).plan ∙ q in
      record {
        head = ap (λ (p : Plan). p.head) e;
        table = ap (λ (p : Plan). driven_of p.event xs) e ∙ nothing-keeps xs;
        frames =
            ap (λ (p : Plan). frames_of p xs) e
            ∙ ap (λ (ms : List Message). sent_by (from next) lead ++ ms) (nothing-frames (from next) 1 xs)
            ∙ append-nil (sent_by (from next) lead);
        notice = ap (λ (p : Plan). p.notice) e;
      }

  -- the link of a number that the request looks at, if it is held
  pub held_number : is_held (known xs r).link.state ≡ true → Has 1 xs (look_of r).link
  held_number i =
      held-has (look_of r).link 1 xs (ap (λ (l : Link). is_held l.state) (sym (facts-link xs (look_of r) done-few)) ∙ i)
