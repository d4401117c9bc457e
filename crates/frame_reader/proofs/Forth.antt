-- A message that is written and read is the message again.
-- Assumes nothing.
use Prim.Native.Nat.{ℕ, ◌+◌, ◌-◌, ◌^◌, ◌≤◌, ◌<◌}
use mathlib.Core.Path.{◌≡◌, refl, sym, ◌∙◌}
use mathlib.Core.Bool.{Bool, true, false, cond, ◌&&◌, true≢false}
use mathlib.Core.List.{List, [], ◌∷◌, ◌++◌}
use native.Mathlib.Omega.{arith}
use borrow.Author.Tests.{le-leb}
use lib.Dec.{leb}
use lib.ListN.{length, take, drop, replicate, length-append, length-take, length-replicate}
use Rattle.octets.specs.Octets.{onto, bytes, value, field_of}
use Rattle.octets.specs.Laws.{value-bytes}
use Rattle.frame_queues.specs.Queues.{used_of, forty_of, SetsFit}
use Rattle.frame_queues.specs.Laws.{used-padded, cut-padded, fit_cut, forty-length, sets-forty}
use Rattle.frame.specs.Layout.{header_of, listed, first_octet, per_grant, register_req_flag, register_flag, register_ack_flag, opcode_of, body_octets, encode}
use Rattle.frame.specs.Range.{individual_in, GrantFits, GrantsFit, BodyFits, Valid}
use Rattle.frame.specs.Reading.{one_of, body_in_range, source_in_range}
use Rattle.frame_range.specs.Laws.{individual-parts}
use Rattle.frame_reader.specs.Decode.{bit, grant_at, quanta_at, gate_of, gate_at, report_at, register_req_at, register_at, register_ack_at, body_at, message_at, read_control, read_of}
use Rattle.frame_reader.specs.Flags.{few, register_req_flag_of, register_flag_of, register_ack_flag_of}
use Rattle.frame_reader.proofs.Gate.{listed-few, listed-short, length-grants, four-from, take-from, reads-from, octet-number, octet-discovery, octet-force, octet-fits, octet-in-range}
use Rattle.clock.specs.declared.Quanta.{Quanta}
use Rattle.frame_queues.specs.declared.Sets.{Sets}
use Rattle.frame.specs.declared.Grant.{Grant}
use Rattle.frame.specs.declared.Grants.{Grants}
use Rattle.frame.specs.declared.RegisterReqFlag.{RegisterReqFlag}
use Rattle.frame.specs.declared.RegisterFlag.{RegisterFlag}
use Rattle.frame.specs.declared.RegisterAckFlag.{RegisterAckFlag}
use Rattle.frame.specs.declared.Body.{Body}
use Rattle.frame.specs.declared.Body.TheVariants.{Gate, Discovery, Report, RegisterReq, Register, RegisterAck}
use Rattle.frame.specs.declared.Message.{Message}
use Rattle.frame.specs.declared.Reply.TheVariants.{Done}

-- each flag is read back, and is in range
register-req-reads : (flag : RegisterReqFlag) → register_req_flag_of (register_req_flag flag) ≡ flag
unfolding register_req_flag_of
register-req-reads RegisterReqFlag.Register = refl
register-req-reads RegisterReqFlag.Deregister = refl

register-reads : (flag : RegisterFlag) → register_flag_of (register_flag flag) ≡ flag
unfolding register_flag_of
register-reads RegisterFlag.Reregister = refl
register-reads RegisterFlag.Deregister = refl
register-reads RegisterFlag.Ack = refl
register-reads RegisterFlag.Nack = refl

register-ack-reads : (flag : RegisterAckFlag) → register_ack_flag_of (register_ack_flag flag) ≡ flag
unfolding register_ack_flag_of
register-ack-reads RegisterAckFlag.Nack = refl
register-ack-reads RegisterAckFlag.Ack = refl

register-req-ranged : (flag : RegisterReqFlag) → one_of (register_req_flag flag) (1 ∷ 3 ∷ []) ≡ true
register-req-ranged RegisterReqFlag.Register = refl
register-req-ranged RegisterReqFlag.Deregister = refl

register-ranged : (flag : RegisterFlag) → one_of (register_flag flag) (1 ∷ 2 ∷ 3 ∷ 4 ∷ []) ≡ true
register-ranged RegisterFlag.Reregister = refl
register-ranged RegisterFlag.Deregister = refl
register-ranged RegisterFlag.Ack = refl
register-ranged RegisterFlag.Nack = refl

register-ack-ranged : (flag : RegisterAckFlag) → one_of (register_ack_flag flag) (0 ∷ 1 ∷ []) ≡ true
register-ack-ranged RegisterAckFlag.Nack = refl
register-ack-ranged RegisterAckFlag.Ack = refl

register-req-octet : (flag : RegisterReqFlag) → register_req_flag flag < 256
register-req-octet RegisterReqFlag.Register = omega arith
register-req-octet RegisterReqFlag.Deregister = omega arith

register-octet : (flag : RegisterFlag) → register_flag flag < 256
register-octet RegisterFlag.Reregister = omega arith
register-octet RegisterFlag.Deregister = omega arith
register-octet RegisterFlag.Ack = omega arith
register-octet RegisterFlag.Nack = omega arith

register-ack-octet : (flag : RegisterAckFlag) → register_ack_flag flag < 256
register-ack-octet RegisterAckFlag.Nack = omega arith
register-ack-octet RegisterAckFlag.Ack = omega arith

only : {a b : Grant} → a ∷ [] ≡ b ∷ [] → a ≡ b
only e = cc

-- a GATE with grants gs at l's octet 20, then t
module _ (l t : List ℕ) (d : Bool) (gs : List Grant) (k : length gs ≤ 4) (h : GrantsFit gs) where
  gate-reads : field_of l 20 1 ≡ first_octet d gs → drop 21 l ≡ per_grant gs ++ t
      → gate_at l ≡ cond d (Discovery (grant_at l 21 (bit (first_octet d gs) 16)) (quanta_at l 27)) (Gate (few gs))
  unfolding gate_at gate_of
  gate-reads e rest =
      rw (
        e,
        octet-discovery d gs k,
        octet-number d gs k,
        four-from l (first_octet d gs),
        take-from l _ 21 (length gs) 4 k,
        octet-force d gs k,
        reads-from gs l t 21 h rest,
      )

-- a body is read back behind any header, whatever the pad, and is in range
module _ (destination source timestamp : ℕ) (pad : List ℕ) where
  abbrev framed : Body → List ℕ
  framed b = header_of destination source (opcode_of b) timestamp ++ (body_octets b ++ pad)

  module _ (d : Bool) (gs : List Grant) (k : length gs ≤ 4) where
    first-octet : value (bytes 1 (first_octet d gs)) ≡ first_octet d gs
    first-octet = value-bytes 1 (first_octet d gs) (octet-fits d gs k)

  normal-reads : (g : Grants) → GrantsFit (listed g) → gate_at (framed (Gate g)) ≡ Gate g
  unfolding onto body_octets
  normal-reads g h =
      let gs = listed g in
      let k : length gs ≤ 4 = listed-short g in
      gate-reads (framed (Gate g)) _ false gs k h (first-octet false gs k) refl ∙ rw (listed-few g)

  discovery-reads : (g : Grant) (sync : Quanta) → GrantFits g → sync.0 < 2 ^ 16 → gate_at (framed (Discovery g sync)) ≡ Discovery g sync
  unfolding onto body_octets
  discovery-reads g sync h s =
      let l = framed (Discovery g sync) in
      let gs = g ∷ [] in
      let k : length gs ≤ 4 = omega arith in
      let first : grant_at l 21 (bit (first_octet true gs) 16) ≡ g =
      rw (octet-force true gs k) (only (reads-from gs l _ 21 (h, tt) refl)) in
      gate-reads l _ true gs k (h, tt) (first-octet true gs k) refl ∙ rw (first, value-bytes 2 sync.0 s)

  -- the sets of a REPORT are what stands before the pad, and the pad is cut
  module _ (s : Sets) (h : SetsFit s) (forty : length (body_octets (Report s)) + length pad ≡ 40) where
    report-reads : report_at (framed (Report s)) ≡ Report s
    unfolding report_at body_octets onto
    report-reads =
        let o = forty_of s in
        let whole : length (take (used_of o) o ++ pad) ≡ 40 = length-append (take (used_of o) o) pad ∙ forty in
        rw (cut-padded o pad (forty-length s) h.room whole, fit_cut s h, sets-forty s h.typed)

    report-ranged : body_in_range 3 (framed (Report s)) ≡ true
    unfolding body_in_range body_octets onto
    report-ranged =
        let o = forty_of s in
        let same : used_of (take (used_of o) o ++ pad) ≡ used_of o = used-padded o pad (omega (arith, h.room, forty-length s)) in
        rw (same, le-leb (used_of o) 40 h.room)

  body_reads : (b : Body) → BodyFits b → length (body_octets b) + length pad ≡ 40 → body_at (opcode_of b) (framed b) ≡ b
  unfolding body_at body_octets register_req_at register_at register_ack_at onto
  body_reads (Gate g) h k = normal-reads g h
  body_reads (Discovery g sync) h k = discovery-reads g sync h.0 h.1
  body_reads (Report s) h k = report-reads s h k
  body_reads (RegisterReq flag pending) h k =
      rw (value-bytes 1 (register_req_flag flag) (register-req-octet flag), register-req-reads flag, value-bytes 1 pending h)
  body_reads (Register port flag sync pending) h k =
      rw (
        value-bytes 2 port h.0,
        value-bytes 1 (register_flag flag) (register-octet flag),
        register-reads flag,
        value-bytes 2 sync.0 h.1,
        value-bytes 1 pending h.2,
      )
  body_reads (RegisterAck flag port sync) h k =
      rw (
        value-bytes 1 (register_ack_flag flag) (register-ack-octet flag),
        register-ack-reads flag,
        value-bytes 2 port h.0,
        value-bytes 2 sync.0 h.1,
      )

  body-ranged : (b : Body) → BodyFits b → length (body_octets b) + length pad ≡ 40 → body_in_range (opcode_of b) (framed b) ≡ true
  unfolding body_in_range body_octets onto
  body-ranged (Gate g) h f =
      let gs = listed g in
      let k : length gs ≤ 4 = listed-short g in
      rw (first-octet false gs k) (octet-in-range false gs k (λ e. absurd (true≢false (sym e))))
  body-ranged (Discovery g sync) h f =
      let k : length (g ∷ []) ≤ 4 = omega arith in
      rw (first-octet true (g ∷ []) k) (octet-in-range true (g ∷ []) k (λ _. refl))
  body-ranged (Report s) h k = report-ranged s h k
  body-ranged (RegisterReq flag pending) h k =
      rw (value-bytes 1 (register_req_flag flag) (register-req-octet flag)) (register-req-ranged flag)
  body-ranged (Register port flag sync pending) h k =
      rw (value-bytes 1 (register_flag flag) (register-octet flag)) (register-ranged flag)
  body-ranged (RegisterAck flag port sync) h k =
      rw (value-bytes 1 (register_ack_flag flag) (register-ack-octet flag)) (register-ack-ranged flag)

  source-ranged : individual_in source ≡ true → (b : Body) → source_in_range (framed b) ≡ true
  unfolding source_in_range onto
  source-ranged i b = rw (value-bytes 6 source (individual-parts source i).0) i

opcode-fits : (b : Body) → opcode_of b < 2 ^ 16
opcode-fits (Gate g) = omega arith
opcode-fits (Discovery g sync) = omega arith
opcode-fits (Report s) = omega arith
opcode-fits (RegisterReq flag pending) = omega arith
opcode-fits (Register port flag sync pending) = omega arith
opcode-fits (RegisterAck flag port sync) = omega arith

opcode-known : (b : Body) → (leb 2 (opcode_of b) && leb (opcode_of b) 6) ≡ true
opcode-known (Gate g) = refl
opcode-known (Discovery g sync) = refl
opcode-known (Report s) = refl
opcode-known (RegisterReq flag pending) = refl
opcode-known (Register port flag sync pending) = refl
opcode-known (RegisterAck flag port sync) = refl

pub body-short : (b : Body) → length (body_octets b) ≤ 40
unfolding body_octets onto
body-short (Gate g) = omega (arith, length-grants (listed g), listed-short g)
body-short (Discovery g sync) = omega arith
body-short (Report s) = simp length-take (omega (arith, forty-length s))
body-short (RegisterReq flag pending) = omega arith
body-short (Register port flag sync pending) = omega arith
body-short (RegisterAck flag port sync) = omega arith

-- what carries a valid message is read as that message, whatever the pad
pub reads-padded : (m : Message) (pad : List ℕ) → Valid m → length (body_octets m.body) + length pad ≡ 40
    → read_of (framed m.destination.0 m.source.0 m.timestamp.0 pad m.body) ≡ record { reply = Done; message = m }
unfolding read_of read_control message_at onto
reads-padded m pad v forty =
    let b = m.body in
    let whole : length (body_octets b ++ pad) ≡ 40 = length-append (body_octets b) pad ∙ forty in
    rw (
      whole,
      value-bytes 2 0x8808 (omega arith),
      value-bytes 2 (opcode_of b) (opcode-fits b),
      opcode-known b,
      source-ranged m.destination.0 m.source.0 m.timestamp.0 pad v.source b,
      body-ranged m.destination.0 m.source.0 m.timestamp.0 pad b v.body forty,
      body_reads m.destination.0 m.source.0 m.timestamp.0 pad b v.body forty,
      value-bytes 6 m.destination.0 v.destination,
      value-bytes 6 m.source.0 (individual-parts m.source.0 v.source).0,
      value-bytes 4 m.timestamp.0 v.timestamp,
    )

-- the source of a valid message stands in its frame
pub source-encoded : (m : Message) → Valid m → source_in_range (encode m) ≡ true
unfolding encode
source-encoded m v =
    source-ranged m.destination.0 m.source.0 m.timestamp.0 (replicate (40 - length (body_octets m.body)) 0) v.source m.body

-- THE FIRST ROUND TRIP: what is written of a valid message is read as that message
pub read-encode : (m : Message) → Valid m → read_of (encode m) ≡ record { reply = Done; message = m }
unfolding encode
read-encode m v =
    let b = body_octets m.body in
    reads-padded m (replicate (40 - length b) 0) v (rw (length-replicate) (omega (arith, body-short m.body)))
