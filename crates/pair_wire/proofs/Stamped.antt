-- Lemmas: a frame that leaves with another timestamp than it was handed out with carries the same message but for that.
-- Assumes nothing.
use Rattle.std.specs.Prelude.{ℕ, ◌+◌, ◌-◌, ◌≤◌, ◌<◌, ◌≡◌, refl, Bool, true, false, cond, ◌&&◌, List, [], ◌++◌, length, take, drop}
use Rattle.std.proofs.Common.{sym, ap, ◌∙◌, ⊎_elim, arith, ne_eqb, length-append, length-take, length-drop, length-take-le, take_at, drop_at, take-take, drop-drop}
use Rattle.std.proofs.Math.Bool.{and-false}
use Rattle.std.proofs.Math.Option.{none, some}
use Rattle.std.proofs.Math.Dec.{eqb, leb}
use Rattle.std.proofs.lemmas.List.{drop-take, take-append-le}
use Rattle.octets.specs.Laws.{length-onto, octets-take, octets-drop}
use Rattle.octets.specs.Octets.{bytes, value, field_of}
use Rattle.frame.specs.Card.{number_of}
use Rattle.frame.specs.Reading.{body_in_range, source_in_range, refusal}
use Rattle.frame.specs.declared.Message.{Message}
use Rattle.frame.specs.declared.Reading.{Reading}
use Rattle.frame.specs.declared.Reply.TheVariants.{Done, Size, Kind, Opcode, Range}
use Rattle.laws.specs.Cases.{either, cut}
use Rattle.frame_reader.specs.Decode.{grant_at, gate_at, report_at, register_req_at, register_at, register_ack_at, body_at, message_at, read_control, read_of}
use Rattle.pair_wire.specs.Carried.{octets-join, octets-bytes, are-octets, octets-of}
use Rattle.pair_wire.specs.Message.{are_octets, message_in, stamped, restamped}
use Rattle.pair_wire.specs.Restarts.{tested}

pub stamped-octets : (n : ℕ) (os : List ℕ) → are_octets os ≡ true → are_octets (stamped n os) ≡ true
unfolding stamped
stamped-octets n os h =
    let o = octets-of os h in
    octets-join (take 16 os ++ bytes 4 n) (drop 20 os)
    (octets-join (take 16 os) (bytes 4 n) (are-octets (take 16 os) (octets-take 16 os o)) (octets-bytes 4 n))
    (are-octets (drop 20 os) (octets-drop 20 os o))

-- what differs at most in the timestamp
pub record Alike (x y : Message) : Type 0 where
  pub destination : x.destination ≡ y.destination
  pub source : x.source ≡ y.source
  pub body : x.body ≡ y.body

record Likewise (x y : Reading) : Type 0 where
  reply : x.reply ≡ y.reply
  message : Alike x.message y.message

same : (x : Reading) → Likewise x x
same x = record { reply = refl; message = record { destination = refl; source = refl; body = refl } }

both : (t : Bool) (a b x y : Reading) → Likewise a b → Likewise x y → Likewise (cond t a x) (cond t b y)
both true a b x y h k = h
both false a b x y h k = k

-- a part of a beginning
part_in : (a n c : ℕ) (l : List ℕ) → a + n ≤ c → take n (drop a (take c l)) ≡ take n (drop a l)
part_in a n c l h =
    let e : c ≡ a + (c - a) = omega arith in
    ap (λ (k : ℕ). take n (drop a (take k l))) e ∙ ap (take n) (drop-take a (c - a) l) ∙ take-take n (c - a) (drop a l) (omega arith)

module _ (l m : List ℕ) (size : length l ≡ length m) (early : take 16 l ≡ take 16 m) (late : drop 20 l ≡ drop 20 m) where
  front : (a n : ℕ) → a + n ≤ 16 → field_of l a n ≡ field_of m a n
  front a n h =
      ap value (sym (part_in a n 16 l h) ∙ ap (λ (x : List ℕ). take n (drop a x)) early ∙ part_in a n 16 m h)

  from : (k : ℕ) → drop (20 + k) l ≡ drop (20 + k) m
  from k = sym (drop-drop k 20 l) ∙ ap (drop k) late ∙ drop-drop k 20 m

  range-alike : (opcode : ℕ) → body_in_range opcode l ≡ body_in_range opcode m
  unfolding body_in_range
  range-alike opcode = rw (late, from 2)

  source-alike : source_in_range l ≡ source_in_range m
  unfolding source_in_range
  source-alike = rw (front 6 6 (omega arith))

  gate-alike : gate_at l ≡ gate_at m
  unfolding gate_at grant_at
  gate-alike = rw (late, from 1, from 5, from 7, from 11, from 13, from 17, from 19, from 23)

  body_alike : (opcode : ℕ) → body_at opcode l ≡ body_at opcode m
  unfolding body_at report_at register_req_at register_at register_ack_at
  body_alike opcode = rw (gate-alike, late, from 1, from 2, from 3, from 5)

  message-alike : Alike (message_at l) (message_at m)
  unfolding message_at
  message-alike =
      record {
        destination = rw (front 0 6 (omega arith));
        source = rw (front 6 6 (omega arith));
        body = rw (front 14 2 (omega arith)) (body_alike (field_of m 14 2));
      }

  abbrev done : List ℕ → Reading
  done x = record { reply = Done; message = message_at x }

  control-alike : Likewise (read_control l) (read_control m)
  unfolding read_control
  control-alike =
      let op = field_of m 14 2 in
      let known = leb 2 op && leb op 6 in
      let fits = source_in_range m && body_in_range op m in
      let no = refusal Range in
      rw (front 14 2 (omega arith), source-alike, range-alike op)
      (both known (cond fits (done l) no) (cond fits (done m) no) (refusal Opcode) (refusal Opcode)
      (both fits (done l) (done m) no no (record { reply = refl; message = message-alike }) (same no))
      (same (refusal Opcode)))

  read_alike : Likewise (read_of l) (read_of m)
  unfolding read_of
  read_alike =
      let mine = eqb (field_of m 12 2) 0x8808 in
      let no = refusal Kind in
      rw (size, front 12 2 (omega arith))
      (both (eqb (length m) 60) (cond mine (read_control l) no) (cond mine (read_control m) no) (refusal Size) (refusal Size)
      (both mine (read_control l) (read_control m) no no control-alike (same no))
      (same (refusal Size)))

-- a test that looks at no timestamp
abbrev pub Blind : (Message → Bool) → Type 0
Blind t = (x y : Message) → Alike x y → t x ≡ t y

tested-by : (t : Message → Bool) (u : Bool) (x y : Message) → t x ≡ t y
    → tested t (cond u (some x) none) ≡ tested t (cond u (some y) none)
tested-by t true x y h = h
tested-by t false x y h = refl

carried-alike : (t : Message → Bool) → Blind t → (l m : List ℕ) → are_octets l ≡ true → are_octets m ≡ true → Likewise (read_of l) (read_of m)
    → tested t (message_in l) ≡ tested t (message_in m)
unfolding message_in
carried-alike t b l m h k r =
    rw (h, k, r.reply) (tested-by t (eqb (number_of (read_of m).reply) 0) (read_of l).message (read_of m).message (b _ _ r.message))

-- what is too short to have a timestamp is no frame, then or now
none_in : (l : List ℕ) → eqb (length l) 60 ≡ false → message_in l ≡ none
unfolding message_in read_of
none_in l e = rw (e, and-false (are_octets l))

pub stamped-length : (n : ℕ) (os : List ℕ) → 20 ≤ length os → length (stamped n os) ≡ length os
unfolding stamped
stamped-length n os h =
    let four : length (bytes 4 n) ≡ 4 = length-onto 4 n [] in
    simp (length-append, length-take, length-drop) (omega (arith, four))

pub short-length : (n : ℕ) (os : List ℕ) → length os < 20 → length (stamped n os) < 60
unfolding stamped
short-length n os h =
    let four : length (bytes 4 n) ≡ 4 = length-onto 4 n [] in
    simp (length-append, length-take, length-drop) (omega (arith, four))

stamped-early : (n : ℕ) (os : List ℕ) → 20 ≤ length os → take 16 (stamped n os) ≡ take 16 os
unfolding stamped
stamped-early n os h =
    let long : length (take 16 os) ≡ 16 = length-take-le 16 os (omega arith) in
    let room : 16 ≤ length (take 16 os ++ bytes 4 n) = rw length-append (omega arith) in
    take-append-le 16 (take 16 os ++ bytes 4 n) (drop 20 os) room ∙ take_at (take 16 os) (bytes 4 n) 16 long

stamped-late : (n : ℕ) (os : List ℕ) → 20 ≤ length os → drop 20 (stamped n os) ≡ drop 20 os
unfolding stamped
stamped-late n os h =
    let four : length (bytes 4 n) ≡ 4 = length-onto 4 n [] in
    let long : length (take 16 os) ≡ 16 = length-take-le 16 os (omega arith) in
    drop_at (take 16 os ++ bytes 4 n) (drop 20 os) 20 (rw length-append (omega (arith, four, long)))

pub no-frame : (l : List ℕ) → length l < 60 → message_in l ≡ none
no-frame l h = none_in l (ne_eqb (length l) 60 (λ (e : length l ≡ 60). omega arith))

-- the theorem
pub stamped-tested : (t : Message → Bool) → Blind t → (n : ℕ) (os : List ℕ) → are_octets os ≡ true
    → tested t (message_in (stamped n os)) ≡ tested t (message_in os)
stamped-tested t b n os h =
    ⊎_elim
    (λ (k : length os < 20).
    ap (tested t) (no-frame (stamped n os) (short-length n os k) ∙ sym (no-frame os (omega arith))))
    (λ (k : 20 ≤ length os).
    carried-alike t b (stamped n os) os (stamped-octets n os h) h
    (read_alike (stamped n os) os (stamped-length n os k) (stamped-early n os k) (stamped-late n os k)))
    (cut (length os) 20)

pub restamped-tested : (t : Message → Bool) → Blind t → (n : ℕ) (os : List ℕ) → tested t (message_in (restamped n os)) ≡ tested t (message_in os)
unfolding restamped
restamped-tested t b n os =
    either (λ (l : List ℕ). tested t (message_in l) ≡ tested t (message_in os)) (are_octets os) _ _ (stamped-tested t b n os) (λ _. refl)
