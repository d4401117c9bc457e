-- The writer's answers are the page's: a message in range has its frame, and any other is refused.
-- Assumes nothing.
use mathlib.Core.Path.{◌≡◌, sym, ◌∙◌}
use mathlib.Core.Bool.{true, false, true≢false}
use mathlib.Core.Logic.{⊎_elim}
use Rattle.laws.specs.Cases.{decided}
use Rattle.frame_range.specs.Fits.{fits_message}
use Rattle.frame_range.specs.Laws.{valid-of, of-valid}
use Rattle.frame.specs.Layout.{encode}
use Rattle.frame.specs.Range.{Valid, Typed}
use Rattle.frame.specs.Writing.{Writes, written, refused}
use Rattle.frame_writer.specs.Write.{write_of}
use Rattle.frame.specs.declared.Message.{Message}
use Rattle.frame.specs.declared.Reply.TheVariants.{Done}
use Rattle.frame.specs.declared.Writing.{Writing}

-- a valid message is written
pub write_done : (m : Message) → Valid m → write_of m ≡ record { reply = Done; octets = encode m }
unfolding write_of
write_done m v = rw (of-valid m v)

-- the writer's answer is what the page says
pub writes : (m : Message) → Typed m → Writes m (write_of m)
unfolding write_of
writes m h =
    ⊎_elim
    (λ (e : fits_message m ≡ true). written (valid-of m h e) (rw e))
    (λ (e : fits_message m ≡ false). refused (λ v. true≢false (sym (of-valid m v) ∙ e)) (rw e))
    (decided (fits_message m))

-- and the page allows no other
pub writes-only : (m : Message) (w x : Writing) → Writes m w → Writes m x → w ≡ x
writes-only m w x (written v e) (written u f) = e ∙ sym f
writes-only m w x (written v e) (refused n f) = absurd (n v)
writes-only m w x (refused n e) (written v f) = absurd (n v)
writes-only m w x (refused n e) (refused k f) = e ∙ sym f
