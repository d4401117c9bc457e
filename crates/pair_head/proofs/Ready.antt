-- A head that a run reaches, lent room for a frame a link: a call that passes its own tests is done, and the head is ready for the next.
-- Assumes nothing.
use Prim.Native.Nat.{ℕ, ◌*◌, ◌≤◌}
use mathlib.Core.Path.{◌≡◌, refl, ap, ◌∙◌}
use mathlib.Core.Bool.{and-eq-true_iff}
use mathlib.Core.List.{List, [], ◌∷◌}
use borrow.Author.Tests.{le-leb}
use lib.ListN.{length}
use Rattle.frame.specs.Card.{Test, ◌unless◌, number_of, answer_of}
use Rattle.frame.specs.Tests.{Passed}
use Rattle.frame.specs.declared.Reply.TheVariants.{Done}
use Rattle.head_state.specs.Head.{sound_of}
use Rattle.head_survey.specs.Facts.{sound_table}
use Rattle.head_judging.specs.Judge.{has_room}
use Rattle.head_judging.specs.declared.Call.{Call}
use Rattle.head_calls.specs.Serve.{serve_of}
use Rattle.head_laws.specs.Calls.{tests, known, all_tests}
use Rattle.head_laws.specs.Refusals.{call-reply}
use Rattle.head_laws.specs.Runs.{run_sound}
use Rattle.head_laws.specs.Stated.{Run, calls}
use Rattle.head_laws.specs.Sound.{call_length}
use Rattle.pair_demand.specs.Run.{Answer}
use Rattle.pair_head.specs.End.{HeadState, asked}

pub record Ready (out : List ℕ) (s : HeadState) : Type 0 where
  pub ok : Run s.head s.table
  pub room : 60 * length s.table ≤ length out

-- a call that is answered 0, and the head is ready for the next
pub record Taken (out : List ℕ) (x : Answer HeadState (List ℕ)) : Type 0 where
  pub reply : x.reply ≡ 0
  pub ready : Ready out x.next

passed-done : (ts : List Test) → Passed ts → answer_of ts ≡ Done
passed-done [] t = refl
passed-done (x unless b ∷ ts) t = rw t.0 (passed-done ts t.1)

-- a ready head
module _ {out : List ℕ} {s : HeadState} (y : Ready out s) (r : Call) where
  pub ready-done : Passed (tests r s.head (known s.table r)) → (serve_of s.head s.table r out).answer.reply ≡ Done
  unfolding has_room
  ready-done t =
      let h = s.head in
      let xs = s.table in
      let u = run_sound y.ok in
      call-reply h xs r out
      ∙ passed-done (all_tests h xs r (length out)) (
        (and-eq-true_iff (sound_of h) (sound_table xs)).1 (u.head, u.table),
        (le-leb (60 * length xs) (length out) y.room, t),
      )

  pub ready-taken : (serve_of s.head s.table r out).answer.reply ≡ Done → Taken out (asked s r out)
  ready-taken d =
      record {
        reply = ap number_of d;
        ready =
            record {
              ok = calls s.head s.table y.ok r out;
              room = rw (call_length s.head s.table r out) y.room;
            };
      }
