-- Every promise of the head's calls settles the whole answer, and what then stands in the caller's memory.
-- Assumes nothing.
use mathlib.Core.Path.{sym, ◌∙◌}
use Rattle.laws.specs.Settles.{Settles, SettlesLent}
use Rattle.face_head_calls.specs.Calls.{left, begun_left, advance_left}
use Rattle.face_head_calls.proofs.Settled.{call-settles, fresh-settles, advanced-settles}
use Rattle.crustnewt.proofs.crustnewt_head_admit.Kinds as admit-kinds
use Rattle.crustnewt.proofs.crustnewt_head_admit.Reads as admit
use Rattle.crustnewt.proofs.crustnewt_head_deregister.Kinds as deregister-kinds
use Rattle.crustnewt.proofs.crustnewt_head_deregister.Reads as deregister
use Rattle.crustnewt.proofs.crustnewt_head_fresh.Kinds as fresh-kinds
use Rattle.crustnewt.proofs.crustnewt_head_fresh.Reads as fresh
use Rattle.crustnewt.proofs.crustnewt_head_gate.Kinds as gate-kinds
use Rattle.crustnewt.proofs.crustnewt_head_gate.Reads as gate
use Rattle.crustnewt.proofs.crustnewt_head_hear.Kinds as hear-kinds
use Rattle.crustnewt.proofs.crustnewt_head_hear.Reads as hear
use Rattle.crustnewt.proofs.crustnewt_head_open.Kinds as opens-kinds
use Rattle.crustnewt.proofs.crustnewt_head_open.Reads as opens
use Rattle.crustnewt.proofs.crustnewt_head_reject.Kinds as reject-kinds
use Rattle.crustnewt.proofs.crustnewt_head_reject.Reads as reject
use Rattle.crustnewt.proofs.crustnewt_head_reregister.Kinds as reregister-kinds
use Rattle.crustnewt.proofs.crustnewt_head_reregister.Reads as reregister
use Rattle.crustnewt.proofs.crustnewt_head_tick.Kinds as tick-kinds
use Rattle.crustnewt.proofs.crustnewt_head_tick.Reads as tick
use Rattle.crustnewt.proofs.crustnewt_head_advance.Kinds as advance-kinds
use Rattle.crustnewt.proofs.crustnewt_head_advance.Reads as advance
use Rattle.crustnewt.proofs.crustnewt_head_ticks_until.Kinds as until-kinds
use Rattle.crustnewt.proofs.crustnewt_head_ticks_until.Reads as until

pub head-fresh-settles : SettlesLent 3 fresh-kinds.ps fresh-kinds.r (λ κs e. begun_left 0 e.1.0.now e.1.1.0.now e.1.1.1.0.now) fresh.Post
head-fresh-settles κs a e f x y p q = fresh-settles _ x y _ _ _ _ _ _ p q

pub head-open-settles : SettlesLent 4 opens-kinds.ps opens-kinds.r
    (λ κs e. left 0 e.1.1.1.1.0.now e.1.1.1.1.1.0.now e.1.1.1.1.1.1.0.now e.1.1.1.1.1.1.1.0.now) opens.Post
head-open-settles κs a e f x y p q = call-settles _ x y _ _ _ _ _ _ _ _ p q

pub head-admit-settles : SettlesLent 4 admit-kinds.ps admit-kinds.r
    (λ κs e. left 0 e.1.1.1.0.now e.1.1.1.1.0.now e.1.1.1.1.1.0.now e.1.1.1.1.1.1.0.now) admit.Post
head-admit-settles κs a e f x y p q = call-settles _ x y _ _ _ _ _ _ _ _ p q

pub head-reject-settles : SettlesLent 4 reject-kinds.ps reject-kinds.r
    (λ κs e. left 0 e.1.1.1.0.now e.1.1.1.1.0.now e.1.1.1.1.1.0.now e.1.1.1.1.1.1.0.now) reject.Post
head-reject-settles κs a e f x y p q = call-settles _ x y _ _ _ _ _ _ _ _ p q

pub head-reregister-settles : SettlesLent 4 reregister-kinds.ps reregister-kinds.r
    (λ κs e. left 0 e.1.1.0.now e.1.1.1.0.now e.1.1.1.1.0.now e.1.1.1.1.1.0.now) reregister.Post
head-reregister-settles κs a e f x y p q = call-settles _ x y _ _ _ _ _ _ _ _ p q

pub head-deregister-settles : SettlesLent 4 deregister-kinds.ps deregister-kinds.r
    (λ κs e. left 0 e.1.0.now e.1.1.0.now e.1.1.1.0.now e.1.1.1.1.0.now) deregister.Post
head-deregister-settles κs a e f x y p q = call-settles _ x y _ _ _ _ _ _ _ _ p q

pub head-gate-settles : SettlesLent 5 gate-kinds.ps gate-kinds.r
    (λ κs e. left 0 e.1.1.1.0.now e.1.1.1.1.0.now e.1.1.1.1.1.0.now e.1.1.1.1.1.1.0.now) gate.Post
head-gate-settles κs a e f x y p q = call-settles _ x y _ _ _ _ _ _ _ _ p q

pub head-hear-settles : SettlesLent 5 hear-kinds.ps hear-kinds.r
    (λ κs e. left 0 e.1.1.0.now e.1.1.1.0.now e.1.1.1.1.0.now e.1.1.1.1.1.0.now) hear.Post
head-hear-settles κs a e f x y p q = call-settles _ x y _ _ _ _ _ _ _ _ p q

pub head-tick-settles : SettlesLent 4 tick-kinds.ps tick-kinds.r
    (λ κs e. left 0 e.0.now e.1.0.now e.1.1.0.now e.1.1.1.0.now) tick.Post
head-tick-settles κs a e f x y p q = call-settles _ x y _ _ _ _ _ _ _ _ p q

pub head-advance-settles : SettlesLent 5 advance-kinds.ps advance-kinds.r
    (λ κs e. advance_left (left 0 e.1.0.now e.1.1.0.now e.1.1.1.0.now e.1.1.1.1.0.now) e.1.1.1.1.1.0.now) advance.Post
head-advance-settles κs a e f x y p q = advanced-settles _ x y _ _ _ _ _ _ _ _ _ _ p q

pub head-ticks-until-settles : Settles 2 until-kinds.ps until-kinds.r until.Post
head-ticks-until-settles κs a e x y p q = p ∙ sym q
