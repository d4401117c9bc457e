-- Code: what writing answers, as one answer (R49); `proofs/Page.antt` shows that this is what the page `Writing` of the crate `frame` answers.
-- Assumes nothing.
use Rattle.std.specs.Prelude.{cond, replicate}
use Rattle.frame_range.specs.Fits.{fits_message}
use Rattle.frame.specs.Layout.{encode}
use Rattle.frame.specs.declared.Message.{Message}
use Rattle.frame.specs.declared.Reply.TheVariants.{Done, Range}
use Rattle.frame.specs.declared.Writing.{Writing}

-- a refusal is sixty zeros
unfoldable pub write_of : Message → Writing
write_of m =
    cond (fits_message m) (record { reply = Done; octets = encode m }) (record { reply = Range; octets = replicate 60 0 })
