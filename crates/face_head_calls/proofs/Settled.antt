-- Every promise of this crate settles the whole answer, and what then stands in the caller's memory.
-- Assumes nothing.
use Prim.Native.Nat.{ℕ}
use mathlib.Core.Path.{◌≡◌, sym, ap, ◌∙◌}
use mathlib.Core.List.{List}
use Rattle.laws.specs.Settles.{Settles, SettlesLent}
use Rattle.face_head_calls.specs.Calls.{Left, left, BegunLeft, begun_left, AdvanceLeft, advance_left}
use Rattle.face_head_calls.proofs.advance.Kinds as advance-kinds
use Rattle.face_head_calls.proofs.advance.Reads as advance
use Rattle.face_head_calls.proofs.asked.Kinds as asked-kinds
use Rattle.face_head_calls.proofs.asked.Reads as asked
use Rattle.face_head_calls.proofs.begun.Kinds as begun-kinds
use Rattle.face_head_calls.proofs.begun.Reads as begun
use Rattle.face_head_calls.proofs.heard.Kinds as heard-kinds
use Rattle.face_head_calls.proofs.heard.Reads as heard
use Rattle.face_head_calls.proofs.served.Kinds as served-kinds
use Rattle.face_head_calls.proofs.served.Reads as served
use Rattle.face_head_calls.proofs.tick.Kinds as tick-kinds
use Rattle.face_head_calls.proofs.tick.Reads as tick
use Rattle.face_head_calls.proofs.ticks_until.Kinds as until-kinds
use Rattle.face_head_calls.proofs.ticks_until.Reads as until

-- number and memory, whatever the core's call
pub call-settles : (l : Left) (x y : ℕ) (h i k m o u r s : List ℕ) → left x h k o r ≡ l → left y i m u s ≡ l
    → (x ≡ y) × (left 0 h k o r ≡ left 0 i m u s)
call-settles l x y h i k m o u r s p q = (
  ap (λ (t : Left). t.number) (p ∙ sym q),
  ap (λ (t : Left). left 0 t.head t.links t.output t.reply) (p ∙ sym q),
)

pub fresh-settles : (l : BegunLeft) (x y : ℕ) (h i k m r s : List ℕ) → begun_left x h k r ≡ l → begun_left y i m s ≡ l
    → (x ≡ y) × (begun_left 0 h k r ≡ begun_left 0 i m s)
fresh-settles l x y h i k m r s p q = (
  ap (λ (t : BegunLeft). t.number) (p ∙ sym q),
  ap (λ (t : BegunLeft). begun_left 0 t.head t.links t.reply) (p ∙ sym q),
)

pub advanced-settles : (l : AdvanceLeft) (x y : ℕ) (h i k m o u r s v w : List ℕ) → advance_left (left x h k o r) v ≡ l → advance_left (left y i m u s) w ≡ l
    → (x ≡ y) × (advance_left (left 0 h k o r) v ≡ advance_left (left 0 i m u s) w)
advanced-settles l x y h i k m o u r s v w p q = (
  ap (λ (t : AdvanceLeft). t.call.number) (p ∙ sym q),
  ap (λ (t : AdvanceLeft). advance_left (left 0 t.call.head t.call.links t.call.output t.call.reply) t.made) (p ∙ sym q),
)

pub served-settles : SettlesLent 4 served-kinds.ps served-kinds.r
    (λ κs e. left 0 e.1.0.now e.1.1.0.now e.1.1.1.0.now e.1.1.1.1.0.now) served.Post
served-settles κs a e f x y p q = call-settles _ x y _ _ _ _ _ _ _ _ p q

pub heard-settles : SettlesLent 5 heard-kinds.ps heard-kinds.r
    (λ κs e. left 0 e.1.1.0.now e.1.1.1.0.now e.1.1.1.1.0.now e.1.1.1.1.1.0.now) heard.Post
heard-settles κs a e f x y p q = call-settles _ x y _ _ _ _ _ _ _ _ p q

pub begun-settles : SettlesLent 3 begun-kinds.ps begun-kinds.r
    (λ κs e. begun_left 0 e.1.0.now e.1.1.0.now e.1.1.1.0.now) begun.Post
begun-settles κs a e f x y p q = fresh-settles _ x y _ _ _ _ _ _ p q

pub asked-settles : Settles 1 asked-kinds.ps asked-kinds.r asked.Post
asked-settles κs a e x y p q = p ∙ sym q

pub tick-settles : SettlesLent 4 tick-kinds.ps tick-kinds.r
    (λ κs e. left 0 e.0.now e.1.0.now e.1.1.0.now e.1.1.1.0.now) tick.Post
tick-settles κs a e f x y p q = call-settles _ x y _ _ _ _ _ _ _ _ p q

pub advance-settles : SettlesLent 5 advance-kinds.ps advance-kinds.r
    (λ κs e. advance_left (left 0 e.1.0.now e.1.1.0.now e.1.1.1.0.now e.1.1.1.1.0.now) e.1.1.1.1.1.0.now) advance.Post
advance-settles κs a e f x y p q = advanced-settles _ x y _ _ _ _ _ _ _ _ _ _ p q

pub ticks-until-settles : Settles 2 until-kinds.ps until-kinds.r until.Post
ticks-until-settles κs a e x y p q = p ∙ sym q
