-- Every promise of this crate settles the whole answer, and what then stands in the caller's memory.
-- Assumes nothing.
use Prim.Native.Nat.{ℕ}
use mathlib.Core.Path.{◌≡◌, sym, ap, ◌∙◌}
use mathlib.Core.List.{List}
use Rattle.laws.specs.Settles.{Settles, SettlesLent}
use Rattle.face_box_calls.specs.Calls.{Left, left, AdvanceLeft, advance_left}
use Rattle.face_box_calls.proofs.advance.Kinds as advance-kinds
use Rattle.face_box_calls.proofs.advance.Reads as advance
use Rattle.face_box_calls.proofs.deregister.Kinds as deregister-kinds
use Rattle.face_box_calls.proofs.deregister.Reads as deregister
use Rattle.face_box_calls.proofs.fresh.Kinds as fresh-kinds
use Rattle.face_box_calls.proofs.fresh.Reads as fresh
use Rattle.face_box_calls.proofs.report.Kinds as report-kinds
use Rattle.face_box_calls.proofs.report.Reads as report
use Rattle.face_box_calls.proofs.hear.Kinds as hear-kinds
use Rattle.face_box_calls.proofs.hear.Reads as hear
use Rattle.face_box_calls.proofs.next_to_send.Kinds as next-kinds
use Rattle.face_box_calls.proofs.next_to_send.Reads as next
use Rattle.face_box_calls.proofs.register.Kinds as register-kinds
use Rattle.face_box_calls.proofs.register.Reads as register
use Rattle.face_box_calls.proofs.tick.Kinds as tick-kinds
use Rattle.face_box_calls.proofs.tick.Reads as tick
use Rattle.face_box_calls.proofs.ticks_until.Kinds as until-kinds
use Rattle.face_box_calls.proofs.ticks_until.Reads as until

-- number, block, frames and what is told, whatever the core's call
pub call-settles : (l : Left) (x y : ℕ) (b c f g r s : List ℕ) → left x b f r ≡ l → left y c g s ≡ l → (x ≡ y) × (left 0 b f r ≡ left 0 c g s)
call-settles l x y b c f g r s p q = (
  ap (λ (t : Left). t.number) (p ∙ sym q),
  ap (λ (t : Left). left 0 t.block t.frames t.reply) (p ∙ sym q),
)

pub fresh-settles : SettlesLent 3 fresh-kinds.ps fresh-kinds.r (λ κs e. left 0 e.1.0.now e.1.1.0.now e.1.1.1.0.now) fresh.Post
fresh-settles κs a e f x y p q = call-settles _ x y _ _ _ _ _ _ p q

pub register-settles : SettlesLent 3 register-kinds.ps register-kinds.r (λ κs e. left 0 e.0.now e.1.0.now e.1.1.0.now) register.Post
register-settles κs a e f x y p q = call-settles _ x y _ _ _ _ _ _ p q

pub deregister-settles : SettlesLent 3 deregister-kinds.ps deregister-kinds.r (λ κs e. left 0 e.0.now e.1.0.now e.1.1.0.now) deregister.Post
deregister-settles κs a e f x y p q = call-settles _ x y _ _ _ _ _ _ p q

pub report-settles : SettlesLent 4 report-kinds.ps report-kinds.r
    (λ κs e. left 0 e.1.1.0.now e.1.1.1.0.now e.1.1.1.1.0.now) report.Post
report-settles κs a e f x y p q = call-settles _ x y _ _ _ _ _ _ p q

pub hear-settles : SettlesLent 4 hear-kinds.ps hear-kinds.r
    (λ κs e. left 0 e.1.1.0.now e.1.1.1.0.now e.1.1.1.1.0.now) hear.Post
hear-settles κs a e f x y p q = call-settles _ x y _ _ _ _ _ _ p q

pub tick-settles : SettlesLent 3 tick-kinds.ps tick-kinds.r (λ κs e. left 0 e.0.now e.1.0.now e.1.1.0.now) tick.Post
tick-settles κs a e f x y p q = call-settles _ x y _ _ _ _ _ _ p q

-- and how many ticks were made
pub made-settles : (l : AdvanceLeft) (x y : ℕ) (b c f g r s m n : List ℕ) → advance_left (left x b f r) m ≡ l → advance_left (left y c g s) n ≡ l
    → (x ≡ y) × (advance_left (left 0 b f r) m ≡ advance_left (left 0 c g s) n)
made-settles l x y b c f g r s m n p q = (
  ap (λ (t : AdvanceLeft). t.call.number) (p ∙ sym q),
  ap (λ (t : AdvanceLeft). advance_left (left 0 t.call.block t.call.frames t.call.reply) t.made) (p ∙ sym q),
)

pub advance-settles : SettlesLent 4 advance-kinds.ps advance-kinds.r
    (λ κs e. advance_left (left 0 e.1.0.now e.1.1.0.now e.1.1.1.0.now) e.1.1.1.1.0.now) advance.Post
advance-settles κs a e f x y p q = made-settles _ x y _ _ _ _ _ _ _ _ p q

pub until-settles : Settles 1 until-kinds.ps until-kinds.r until.Post
until-settles κs a e x y p q = p ∙ sym q

pub next-settles : Settles 2 next-kinds.ps next-kinds.r next.Post
next-settles κs a e x y p q = p ∙ sym q
