-- The round trips and the table, of whatever the promises of `read` and `write` allow.
-- Assumes nothing.
use Prim.Native.Nat.{ℕ, ◌+◌}
use mathlib.Core.Path.{◌≡◌, sym, ap, ◌∙◌}
use mathlib.Core.Bool.{true}
use mathlib.Core.List.{List}
use native.Mathlib.Omega.{arith}
use lib.ListN.{length}
use Rattle.octets.specs.Octets.{Octets}
use Rattle.frame.specs.Card.{number_of}
use Rattle.frame.specs.Layout.{body_octets, zero_pad}
use Rattle.frame.specs.Range.{Valid, Typed}
use Rattle.frame.specs.Reading.{Carries, Reads}
use Rattle.frame.specs.Writing.{Writes, written, refused}
use Rattle.frame_range.specs.Fits.{is_individual}
use Rattle.frame_reader.specs.Decode.{read_of}
use Rattle.frame_writer.specs.Write.{write_of}
use Rattle.frame.specs.declared.Message.{Message}
use Rattle.frame.specs.declared.Reading.{Reading}
use Rattle.frame.specs.declared.Reply.TheVariants.{Done}
use Rattle.frame.specs.declared.Writing.{Writing}
use Rattle.frame_reader.proofs.Forth.{read-encode}
use Rattle.frame_reader.proofs.Back.{carried}
use Rattle.frame_reader.proofs.Table.{reads, reads_only}
use Rattle.frame_writer.proofs.Page.{write_done, writes, writes-only}
use Rattle.frame_laws.proofs.Allowed.{Read, Wrote}

read_is : {l : List ℕ} {r : Reading} → Read l r → r ≡ read_of l
read_is p = p.promised ∙ ap read_of p.lent

wrote-is : {m : Message} {w : Writing} → Wrote m w → w ≡ write_of m
wrote-is p = p.promised

-- 1. R51: what is written is read back
pub write-then-read : (m : Message) (w : Writing) (r : Reading) → Valid m → Wrote m w → Read w.octets r
    → r ≡ record { reply = Done; message = m }
write-then-read m w r v p q =
    read_is q ∙ ap (λ (x : Writing). read_of x.octets) (wrote-is p ∙ write_done m v) ∙ read-encode m v

-- 2. R51: and what is read is written back, its pad zeros
pub read-then-write : (l : List ℕ) (r : Reading) (w : Writing) → Octets l → Read l r → r.reply ≡ Done → Wrote r.message w
    → w ≡ record { reply = Done; octets = zero_pad (20 + length (body_octets r.message.body)) l }
read-then-write l r w h p d q =
    let c : Carries l r.message = rw (← read_is p) at (carried l h) d in
    wrote-is q ∙ write_done r.message c.valid ∙ ap (λ (o : List ℕ). record { reply = Done; octets = o }) (sym c.octets)

-- 3. the answers are those of the pages: what is given is valid, and each number is given exactly when its row says
pub read-page : (l : List ℕ) (r : Reading) → Octets l → Read l r → Reads l r
read-page l r h p = rw (read_is p) (reads l h)

pub write-page : (m : Message) (w : Writing) → Typed m → Wrote m w → Writes m w
write-page m w h p = rw (wrote-is p) (writes m h)

-- 4. any two answers that a promise allows are equal (`Settled` in the crates `frame_reader` and `frame_writer`); a page allows no two either
pub read-page-settles : (l : List ℕ) (r s : Reading) → Reads l r → Reads l s → r ≡ s
read-page-settles l r s p q = reads_only l r p ∙ sym (reads_only l s q)

pub write-page-settles : (m : Message) (w x : Writing) → Writes m w → Writes m x → w ≡ x
write-page-settles = writes-only

-- 5. R238: what is read, and what is written, has a source that is individual and not zero
pub read-source : (l : List ℕ) (r : Reading) → Octets l → Read l r → r.reply ≡ Done → is_individual r.message.source ≡ true
read-source l r h p d =
    let c : Carries l r.message = rw (← read_is p) at (carried l h) d in
    c.valid.source

pub write-source : (m : Message) (w : Writing) → Typed m → Wrote m w → w.reply ≡ Done → is_individual m.source ≡ true
write-source m w t p d = written-source (write-page m w t p)
  where
    written-source : Writes m w → is_individual m.source ≡ true
    written-source (written v e) = v.source
    written-source (refused n e) = absurd (omega (arith, ap (λ (x : Writing). number_of x.reply) (sym e) ∙ ap number_of d))
