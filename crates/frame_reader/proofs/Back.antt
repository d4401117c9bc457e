-- Octets that are read and written are those octets again, but for the pad.
-- Assumes nothing.
use Prim.Native.Nat.{ℕ, ◌+◌, ◌-◌, ◌*◌, ◌/◌, ◌%◌, ◌^◌, ◌≤◌, ◌<◌}
use mathlib.Core.Path.{◌≡◌, refl, sym, ap, ◌∙◌}
use mathlib.Core.Bool.{true, false, ◌&&◌, and-eq-true_iff, or-false}
use mathlib.Core.List.{List, [], ◌∷◌, ◌++◌, append_assoc}
use native.Mathlib.Omega.{arith}
use borrow.Author.Tests.{eqb-true, eqb-false, leb-true}
use lib.Dec.{eqb, leb}
use lib.ListN.{length, take, drop, replicate, take-append-drop, length-append, length-drop, length-take, length-replicate}
use lib.Seq.{take_at}
use Rattle.laws.specs.Cases.{either}
use Rattle.octets.specs.Octets.{onto, bytes, field_of, Octets}
use Rattle.octets.specs.Laws.{length_part, octets-drop, bytes-field, field_below, join, join_front}
use Rattle.frame_queues.specs.Queues.{used_of, cut_of, forty_of, sets_of}
use Rattle.frame_queues.specs.Laws.{cleared-length, cleared-octets, used-cut, cut-front, cut_fits, forty-sets}
use Rattle.frame.specs.Card.{number_of}
use Rattle.frame.specs.Layout.{header_of, frame_of, gate_octets, register_req_flag, register_flag, register_ack_flag, opcode_of, body_octets, encode, zero_pad}
use Rattle.frame.specs.Range.{BodyFits}
use Rattle.frame.specs.Reading.{one_of, gate_in_range, body_in_range, source_in_range, Carries}
use Rattle.frame_reader.specs.Decode.{bit, quanta_at, grant_at, gate_of, gate_at, report_at, register_req_at, register_at, register_ack_at, body_at, message_at, read_control, read_of}
use Rattle.frame_reader.specs.Flags.{few, register_req_flag_of, register_flag_of, register_ack_flag_of}
use Rattle.frame_reader.proofs.Forth.{body-short, reads-padded}
use Rattle.frame_reader.proofs.Gate.{few-listed, grants_from, four-from, take-from, length_from, fits-from, octets-from, Ranged, ranged, octet-back}
use Rattle.frame.specs.declared.RegisterReqFlag.{RegisterReqFlag}
use Rattle.frame.specs.declared.RegisterFlag.{RegisterFlag}
use Rattle.frame.specs.declared.RegisterAckFlag.{RegisterAckFlag}
use Rattle.frame.specs.declared.Body.{Body}
use Rattle.frame.specs.declared.Body.TheVariants.{Gate, Discovery}
use Rattle.frame.specs.declared.Message.{Message}
use Rattle.frame.specs.declared.Reply.{Reply}
use Rattle.frame.specs.declared.Reply.TheVariants.{Done, Size, Kind, Opcode, Range}
use Rattle.frame.specs.declared.Reading.{Reading}

refused : {r : Reply} → (number_of r ≡ 0 → ⊥) → r ≡ Done → ⊥
refused n e = n (ap number_of e)

-- a flag in range is the number of what is read of it
module _ (f : ℕ) where
  only_one : (x : ℕ) → one_of f (x ∷ []) ≡ true → f ≡ x
  only_one x t = eqb-true f x (rw or-false at t)

  register-req-number : one_of f (1 ∷ 3 ∷ []) ≡ true → register_req_flag (register_req_flag_of f) ≡ f
  unfolding register_req_flag_of
  register-req-number t =
      either (λ (g : RegisterReqFlag). register_req_flag g ≡ f) (eqb f 1) _ _ (λ e. sym (eqb-true f 1 e)) λ one.
      sym (only_one 3 (rw one at t))

  register-number : one_of f (1 ∷ 2 ∷ 3 ∷ 4 ∷ []) ≡ true → register_flag (register_flag_of f) ≡ f
  unfolding register_flag_of
  register-number t =
      either (λ (g : RegisterFlag). register_flag g ≡ f) (eqb f 1) _ _ (λ e. sym (eqb-true f 1 e)) λ one.
      either (λ (g : RegisterFlag). register_flag g ≡ f) (eqb f 2) _ _ (λ e. sym (eqb-true f 2 e)) λ two.
      either (λ (g : RegisterFlag). register_flag g ≡ f) (eqb f 3) _ _ (λ e. sym (eqb-true f 3 e)) λ three.
      sym (only_one 4 (rw (one, two, three) at t))

  register-ack-number : one_of f (0 ∷ 1 ∷ []) ≡ true → register_ack_flag (register_ack_flag_of f) ≡ f
  unfolding register_ack_flag_of
  register-ack-number t =
      either (λ (g : RegisterAckFlag). register_ack_flag g ≡ f) (eqb f 0) _ _ (λ e. sym (eqb-true f 0 e)) λ none.
      sym (only_one 1 (rw none at t))

-- of a body that was read from l: the opcode, the octets that it was read from, and that each number fits its field
pub record Whole (l : List ℕ) (op : ℕ) (b : Body) : Type 0 where
  pub opcode : opcode_of b ≡ op
  pub used : ℕ
  pub within : 20 + used ≤ 60
  pub octets : body_octets b ≡ take used (drop 20 l)
  pub fits : BodyFits b

module _ (l : List ℕ) (h : Octets l) (sixty : length l ≡ 60) where
  -- the octets of the field from a, and its range
  piece : (a n : ℕ) → a + n ≤ 60 → bytes n (field_of l a n) ≡ take n (drop a l)
  piece a n k = bytes-field l h a n (omega arith)

  bound : (a n : ℕ) → a + n ≤ 60 → field_of l a n < 256 ^ n
  bound a n k = field_below l h a n (omega arith)

  register-req-whole : one_of (field_of l 20 1) (1 ∷ 3 ∷ []) ≡ true → Whole l 4 (register_req_at l)
  unfolding body_octets register_req_at
  register-req-whole t =
      record {
        opcode = refl;
        used = 2;
        within = omega arith;
        octets = rw (register-req-number (field_of l 20 1) t, piece 20 1 (omega arith), piece 21 1 (omega arith)) (join l 20 1 1);
        fits = bound 21 1 (omega arith);
      }

  register-whole : one_of (field_of l 22 1) (1 ∷ 2 ∷ 3 ∷ 4 ∷ []) ≡ true → Whole l 5 (register_at l)
  unfolding body_octets register_at
  register-whole t =
      record {
        opcode = refl;
        used = 6;
        within = omega arith;
        octets =
            rw (
              register-number (field_of l 22 1) t,
              piece 20 2 (omega arith),
              piece 22 1 (omega arith),
              piece 23 2 (omega arith),
              piece 25 1 (omega arith),
              join l 20 2 1,
              join l 20 3 2,
            )
            (join l 20 5 1);
        fits = (bound 20 2 (omega arith), bound 23 2 (omega arith), bound 25 1 (omega arith));
      }

  register-ack-whole : one_of (field_of l 20 1) (0 ∷ 1 ∷ []) ≡ true → Whole l 6 (register_ack_at l)
  unfolding body_octets register_ack_at
  register-ack-whole t =
      record {
        opcode = refl;
        used = 5;
        within = omega arith;
        octets =
            rw (
              register-ack-number (field_of l 20 1) t,
              piece 20 1 (omega arith),
              piece 21 2 (omega arith),
              piece 23 2 (omega arith),
              join l 20 1 2,
            )
            (join l 20 3 2);
        fits = (bound 21 2 (omega arith), bound 23 2 (omega arith));
      }

  report-whole : leb (used_of (drop 20 l)) 40 ≡ true → Whole l 3 (report_at l)
  unfolding body_octets report_at
  report-whole t =
      let o = drop 20 l in
      let forty : length o ≡ 40 = simp length-drop (omega arith) in
      let room : used_of o ≤ 40 = leb-true (used_of o) 40 t in
      let octets = cleared-octets (used_of o) o (octets-drop 20 l h) in
      let back : forty_of (sets_of (cut_of o)) ≡ cut_of o = forty-sets (cut_of o) octets (cleared-length (used_of o) o ∙ forty) in
      record {
        opcode = refl;
        used = used_of o;
        within = omega arith;
        octets = rw (back, used-cut o forty room) (cut-front o forty room);
        fits = cut_fits o (octets-drop 20 l h) forty room;
      }

  -- a GATE: its first octet, and the grants behind it
  module _ (r : Ranged (field_of l 20 1)) where
    gate-octets : gate_octets (bit (field_of l 20 1) 8) (grants_from l (field_of l 20 1 / 16) 21 (field_of l 20 1 % 8))
        ≡ take (1 + field_of l 20 1 % 8 * 6) (drop 20 l)
    gate-octets =
        let f = field_of l 20 1 in
        let room : 21 + f % 8 * 6 ≤ 60 = omega (arith, r.number) in
        rw (octet-back l f r, piece 20 1 (omega arith), octets-from l h sixty (f % 8) (f / 16) 21 room) (join l 20 1 (f % 8 * 6))

    discovery-whole : bit (field_of l 20 1) 8 ≡ true → Whole l 2 (Discovery (grant_at l 21 (bit (field_of l 20 1) 16)) (quanta_at l 27))
    unfolding body_octets
    discovery-whole t =
        let g = grant_at l 21 (bit (field_of l 20 1) 16) in
        let all : gate_octets true (g ∷ []) ≡ take 7 (drop 20 l) = rw (t, r.discovery t) at gate-octets in
        record {
          opcode = refl;
          used = 9;
          within = omega arith;
          octets = rw (all, piece 27 2 (omega arith)) (join l 20 7 2);
          fits = ((fits-from l h sixty 1 (field_of l 20 1 / 16) 21 (omega arith)).0, bound 27 2 (omega arith));
        }

    normal-whole : bit (field_of l 20 1) 8 ≡ false → Whole l 2 (Gate (few (grants_from l (field_of l 20 1 / 16) 21 (field_of l 20 1 % 8))))
    unfolding body_octets
    normal-whole t =
        let n = field_of l 20 1 % 8 in
        let x = field_of l 20 1 / 16 in
        let back = few-listed (grants_from l x 21 n) (rw (length_from l x 21 n) r.number) in
        record {
          opcode = refl;
          used = 1 + n * 6;
          within = omega (arith, r.number);
          octets = rw back (rw t at gate-octets);
          fits = rw back (fits-from l h sixty n x 21 (omega (arith, r.number)));
        }

  gate-whole : gate_in_range (field_of l 20 1) ≡ true → Whole l 2 (gate_at l)
  unfolding gate_at gate_of
  gate-whole t =
      let f = field_of l 20 1 in
      let r = ranged f t in
      either (λ (b : Body). Whole l 2 b) (bit f 8) _ _ (discovery-whole r)
      (λ e. rw (four-from l f, take-from l (f / 16) 21 (f % 8) 4 r.number) (normal-whole r e))

  body-whole : (op : ℕ) → 2 ≤ op → op ≤ 6 → body_in_range op l ≡ true → Whole l op (body_at op l)
  unfolding body_at body_in_range
  body-whole op low high t =
      either (Whole l op) (eqb op 2) _ _ (λ e. let o = eqb-true op 2 e in rw o (gate-whole (rw o at t))) λ two.
      either (Whole l op) (eqb op 3) _ _ (λ e. let o = eqb-true op 3 e in rw o (report-whole (rw o at t))) λ three.
      either (Whole l op) (eqb op 4) _ _ (λ e. let o = eqb-true op 4 e in rw o (register-req-whole (rw o at t))) λ four.
      either (Whole l op) (eqb op 5) _ _ (λ e. let o = eqb-true op 5 e in rw o (register-whole (rw o at t))) λ five.
      let a = eqb-false op 2 two in
      let b = eqb-false op 3 three in
      let c = eqb-false op 4 four in
      let d = eqb-false op 5 five in
      let o : op ≡ 6 = omega arith in
      rw o (register-ack-whole (rw o at t))

  -- the header's octets and the body's are the first of l
  frame_back : (b : Body) → field_of l 12 2 ≡ 0x8808 → Whole l (field_of l 14 2) b
      → frame_of (field_of l 0 6) (field_of l 6 6) (opcode_of b) (field_of l 16 4) (body_octets b) ≡ zero_pad (20 + length (body_octets b)) l
  frame_back b ek w =
      let kind : bytes 2 0x8808 ≡ take 2 (drop 12 l) = ap (λ (x : ℕ). bytes 2 x) (sym ek) ∙ piece 12 2 (omega arith) in
      let op : bytes 2 (opcode_of b) ≡ take 2 (drop 14 l) = ap (λ (x : ℕ). bytes 2 x) w.opcode ∙ piece 14 2 (omega arith) in
      let used : length (body_octets b) ≡ w.used = ap length w.octets ∙ length_part l 20 w.used (omega (arith, w.within)) in
      let left : 40 - w.used ≡ length l - (20 + w.used) = omega (arith, w.within) in
      rw (
        used,
        left,
        w.octets,
        piece 0 6 (omega arith),
        piece 6 6 (omega arith),
        kind,
        op,
        piece 16 4 (omega arith),
        join l 0 6 6,
        join l 0 12 2,
        join l 0 14 2,
        join l 0 16 4,
      )
      (join_front l 20 w.used _)

-- on a refusal nothing is claimed here
abbrev CarriesOf : List ℕ → Reading → Type 0
CarriesOf l r = r.reply ≡ Done → Carries l r.message

message-carried : (l : List ℕ) → Octets l → length l ≡ 60 → field_of l 12 2 ≡ 0x8808 → source_in_range l ≡ true
    → Whole l (field_of l 14 2) (body_at (field_of l 14 2) l) → Carries l (message_at l)
unfolding encode message_at source_in_range
message-carried l h s k i w =
    record {
      valid =
          record {
            destination = bound l h s 0 6 (omega arith);
            source = i;
            timestamp = bound l h s 16 4 (omega arith);
            body = w.fits;
          };
      octets = sym (frame_back l h s (body_at (field_of l 14 2) l) k w);
    }

-- THE SECOND ROUND TRIP: a message that was read is valid, and what is written of it is what it was read from, with the pad zeroed
pub carried : (l : List ℕ) → Octets l → CarriesOf l (read_of l)
unfolding read_of read_control
carried l h =
    let op = field_of l 14 2 in
    either (CarriesOf l) (eqb (length l) 60) _ _
    (λ e.
    either (CarriesOf l) (eqb (field_of l 12 2) 0x8808) _ _
    (λ k.
    either (CarriesOf l) (leb 2 op && leb op 6) _ _
    (λ o.
    either (CarriesOf l) (source_in_range l && body_in_range op l) _ _
    (λ t _.
    let s : length l ≡ 60 = eqb-true (length l) 60 e in
    let known = (and-eq-true_iff (leb 2 op) (leb op 6)).0 o in
    let fits = (and-eq-true_iff (source_in_range l) (body_in_range op l)).0 t in
    message-carried l h s (eqb-true (field_of l 12 2) 0x8808 k) fits.0
    (body-whole l h s op (leb-true 2 op known.0) (leb-true op 6 known.1) fits.1))
    (λ _ d. absurd (refused {r = Range} (omega arith) d)))
    (λ _ d. absurd (refused {r = Opcode} (omega arith) d)))
    (λ _ d. absurd (refused {r = Kind} (omega arith) d)))
    (λ _ d. absurd (refused {r = Size} (omega arith) d))

-- a frame that carries a message is sixty octets: its header, the body, and a pad
module _ (l : List ℕ) (m : Message) (c : Carries l m) where
  abbrev head : List ℕ
  head = header_of m.destination.0 m.source.0 (opcode_of m.body) m.timestamp.0

  abbrev body : List ℕ
  body = body_octets m.body

  abbrev zeros : List ℕ
  zeros = replicate (40 - length body) 0

  front_length : length (head ++ body) ≡ 20 + length body
  unfolding onto
  front_length = omega arith

  sixty : length l ≡ 60
  unfolding encode onto
  sixty =
      let same = simp (length-append, length-take, length-replicate) at (ap length c.octets) in
      omega (arith, body-short m.body)

  front : take (20 + length body) l ≡ head ++ body
  unfolding encode
  front =
      let k = 20 + length body in
      sym (take_at (take k l) (replicate (length l - k) 0) k (length_part l 0 k (omega (arith, sixty, body-short m.body))))
      ∙ ap (λ (x : List ℕ). take k x) (c.octets ∙ sym (append_assoc head body zeros))
      ∙ take_at (head ++ body) zeros k front_length

  -- and is read as that message
  pub carries-read : read_of l ≡ record { reply = Done; message = m }
  carries-read =
      let k = 20 + length body in
      let whole : l ≡ head ++ (body ++ drop k l) = sym (take-append-drop k l) ∙ rw front (append_assoc head body (drop k l)) in
      ap read_of whole ∙ reads-padded m (drop k l) c.valid (rw (length-drop) (omega (arith, sixty, body-short m.body)))
