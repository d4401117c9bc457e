-- Every promise of this crate settles the whole answer.
-- Assumes nothing.
use mathlib.Core.Path.{◌≡◌, sym, ◌∙◌}
use borrow.Fn.Kinds.{Dens, res_t, ended_of}
use contract.Lifetimes.{Lfts}
use denote.Triple.Clauses.{AtExit}
use Rattle.laws.specs.Settles.{Settles}
use Rattle.box_calls.proofs.FloorBox.fresh.Kinds as fresh-kinds
use Rattle.box_calls.proofs.FloorBox.fresh.Reads as fresh
use Rattle.box_calls.proofs.FloorBox.sound.Kinds as sound-kinds
use Rattle.box_calls.proofs.FloorBox.sound.Reads as sound
use Rattle.box_calls.proofs.FloorBox.refused.Kinds as refused-kinds
use Rattle.box_calls.proofs.FloorBox.refused.Reads as refused
use Rattle.box_calls.proofs.FloorBox.register.Kinds as register-kinds
use Rattle.box_calls.proofs.FloorBox.register.Reads as register
use Rattle.box_calls.proofs.FloorBox.deregister.Kinds as deregister-kinds
use Rattle.box_calls.proofs.FloorBox.deregister.Reads as deregister
use Rattle.box_calls.proofs.FloorBox.report.Kinds as report-kinds
use Rattle.box_calls.proofs.FloorBox.report.Reads as report
use Rattle.box_calls.proofs.FloorBox.hear.Kinds as hear-kinds
use Rattle.box_calls.proofs.FloorBox.hear.Reads as hear
use Rattle.box_calls.proofs.FloorBox.tick.Kinds as tick-kinds
use Rattle.box_calls.proofs.FloorBox.tick.Reads as tick
use Rattle.box_calls.proofs.FloorBox.advance.Kinds as advance-kinds
use Rattle.box_calls.proofs.FloorBox.advance.Reads as advance
use Rattle.box_calls.proofs.FloorBox.next_to_send.Kinds as next-to-send-kinds
use Rattle.box_calls.proofs.FloorBox.next_to_send.Reads as next-to-send

pub fresh-settles : Settles 0 fresh-kinds.ps fresh-kinds.r fresh.Post
fresh-settles κs a e x y p q = p ∙ sym q

pub sound-settles : Settles 0 sound-kinds.ps sound-kinds.r sound.Post
sound-settles κs a e x y p q = p ∙ sym q

pub refused-settles : Settles 0 refused-kinds.ps refused-kinds.r refused.Post
refused-settles κs a e x y p q = p ∙ sym q

pub register-settles : Settles 0 register-kinds.ps register-kinds.r register.Post
register-settles κs a e x y p q = p ∙ sym q

pub deregister-settles : Settles 0 deregister-kinds.ps deregister-kinds.r deregister.Post
deregister-settles κs a e x y p q = p ∙ sym q

pub report-settles : Settles 0 report-kinds.ps report-kinds.r report.Post
report-settles κs a e x y p q = p ∙ sym q

pub hear-settles : Settles 0 hear-kinds.ps hear-kinds.r hear.Post
hear-settles κs a e x y p q = p ∙ sym q

pub tick-settles : Settles 0 tick-kinds.ps tick-kinds.r tick.Post
tick-settles κs a e x y p q = p ∙ sym q

pub advance-settles : Settles 0 advance-kinds.ps advance-kinds.r advance.Post
advance-settles κs a e x y p q = p ∙ sym q

-- of a lent slice the answer is where it stands and what stands there
pub next-to-send-settles : (κs : Lfts 1) (a : Dens κs next-to-send-kinds.ps)
    → (e : AtExit (ended_of 1 next-to-send-kinds.ps next-to-send-kinds.r) κs)
    → (x y : (res_t next-to-send-kinds.r κs).Denot)
    → next-to-send.Post κs a x e → next-to-send.Post κs a y e → (x.ref_ptr ≡ y.ref_ptr) × (x.now ≡ y.now)
next-to-send-settles κs a e x y p q = (p.0 ∙ sym q.0, p.1 ∙ sym q.1)
