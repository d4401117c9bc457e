-- Every promise of this crate settles the whole answer.
-- Assumes nothing.
use mathlib.Core.Path.{sym, ◌∙◌}
use Rattle.laws.specs.Settles.{Settles}
use Rattle.head_state.proofs.Window.fits.Kinds as fits-kinds
use Rattle.head_state.proofs.Window.fits.Reads as fits
use Rattle.head_state.proofs.Window.is_idle.Kinds as is-idle-kinds
use Rattle.head_state.proofs.Window.is_idle.Reads as is-idle
use Rattle.head_state.proofs.Window.is_inside.Kinds as is-inside-kinds
use Rattle.head_state.proofs.Window.is_inside.Reads as is-inside
use Rattle.head_state.proofs.Window.opened.Kinds as opened-kinds
use Rattle.head_state.proofs.Window.opened.Reads as opened
use Rattle.head_state.proofs.Head.begun.Kinds as begun-kinds
use Rattle.head_state.proofs.Head.begun.Reads as begun
use Rattle.head_state.proofs.Head.with_window.Kinds as with-window-kinds
use Rattle.head_state.proofs.Head.with_window.Reads as with-window
use Rattle.head_state.proofs.Head.tick.Kinds as tick-kinds
use Rattle.head_state.proofs.Head.tick.Reads as tick
use Rattle.head_state.proofs.Head.sound.Kinds as sound-kinds
use Rattle.head_state.proofs.Head.sound.Reads as sound
use Rattle.head_state.proofs.Window.after.Kinds as window-after-kinds
use Rattle.head_state.proofs.Window.after.Reads as window-after-reads
use Rattle.head_state.proofs.Head.after.Kinds as after-kinds
use Rattle.head_state.proofs.Head.after.Reads as after-reads

pub fits-settles : Settles 0 fits-kinds.ps fits-kinds.r fits.Post
fits-settles κs a e x y p q = p ∙ sym q

pub is-idle-settles : Settles 0 is-idle-kinds.ps is-idle-kinds.r is-idle.Post
is-idle-settles κs a e x y p q = p ∙ sym q

pub is-inside-settles : Settles 0 is-inside-kinds.ps is-inside-kinds.r is-inside.Post
is-inside-settles κs a e x y p q = p ∙ sym q

pub opened-settles : Settles 0 opened-kinds.ps opened-kinds.r opened.Post
opened-settles κs a e x y p q = p ∙ sym q

pub begun-settles : Settles 0 begun-kinds.ps begun-kinds.r begun.Post
begun-settles κs a e x y p q = p ∙ sym q

pub with-window-settles : Settles 0 with-window-kinds.ps with-window-kinds.r with-window.Post
with-window-settles κs a e x y p q = p ∙ sym q

pub tick-settles : Settles 0 tick-kinds.ps tick-kinds.r tick.Post
tick-settles κs a e x y p q = p ∙ sym q

pub sound-settles : Settles 0 sound-kinds.ps sound-kinds.r sound.Post
sound-settles κs a e x y p q = p ∙ sym q

pub window-after-settles : Settles 0 window-after-kinds.ps window-after-kinds.r window-after-reads.Post
window-after-settles κs a e x y p q = p ∙ sym q

pub after-settles : Settles 0 after-kinds.ps after-kinds.r after-reads.Post
after-settles κs a e x y p q = p ∙ sym q
