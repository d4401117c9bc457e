-- The words of a message tell that message, as long as each number fits its type: so to write them through the C face is the core's
-- writing of it. Words that the face takes for a message's are some message's, and of one alone. What is read can be written, and what
-- is written can be read: the frame comes back with its pad zeroed, the words as they were.
-- Assumes nothing.
use Prim.Native.Nat.{ℕ, zero, suc, ◌+◌, ◌-◌, ◌*◌, ◌/◌, ◌%◌, ◌^◌, ◌≤◌, ◌<◌}
use mathlib.Core.Path.{◌≡◌, refl, sym, ap, ◌∙◌}
use mathlib.Core.Bool.{Bool, true, false, cond}
use mathlib.Core.Logic.{⊎_elim}
use mathlib.Core.List.{List, [], ◌∷◌, ◌++◌, map}
use native.Mathlib.Omega.{arith}
use borrow.Author.Tests.{le-leb, le-ltb}
use lib.Dec.{eqb}
use lib.ListN.{length, take, drop, replicate, length-append, length-map, length-replicate}
use lib.Pow.{pow_pos}
use lib.Seq.{take_at}
use Rattle.octets.specs.Octets.{Octets}
use Rattle.frame_queues.specs.Queues.{SetsTyped}
use Rattle.frame.specs.Card.{number_of}
use Rattle.frame.specs.Layout.{listed, force_bits, register_req_flag, register_flag, register_ack_flag, body_octets, encode, zero_pad}
use Rattle.frame.specs.Range.{Valid, GrantsTyped, BodyTyped, GrantsFit as GrantsValid, BodyFits as BodyValid}
use Rattle.frame.specs.Reading.{Carries}
use Rattle.frame.specs.declared.Body.{Body}
use Rattle.frame.specs.declared.Body.TheVariants.{Gate, Discovery, Report, RegisterReq, Register, RegisterAck}
use Rattle.frame.specs.declared.Grant.{Grant}
use Rattle.frame.specs.declared.Message.{Message}
use Rattle.frame.specs.declared.RegisterAckFlag.{RegisterAckFlag}
use Rattle.frame.specs.declared.RegisterAckFlag.TheVariants as ack
use Rattle.frame.specs.declared.RegisterFlag.{RegisterFlag}
use Rattle.frame.specs.declared.RegisterFlag.TheVariants as answer
use Rattle.frame.specs.declared.RegisterReqFlag.{RegisterReqFlag}
use Rattle.frame.specs.declared.RegisterReqFlag.TheVariants as request
use Rattle.frame.specs.declared.Reply.TheVariants.{Done}
use Rattle.laws.specs.Cases.{either, decided}
use Rattle.frame_range.specs.Fits.{fits_message}
use Rattle.frame_range.specs.Laws.{valid-of}
use Rattle.frame_reader.specs.Decode.{read_of}
use Rattle.frame_reader.specs.Flags.{few, register_req_flag_of, register_flag_of, register_ack_flag_of}
use Rattle.frame_reader.proofs.Back.{carried}
use Rattle.frame_reader.proofs.Forth.{read-encode}
use Rattle.frame_reader.proofs.Gate.{listed-few, listed-short}
use Rattle.head_laws.specs.Pasted.{encode-length}
use Rattle.face_words.specs.Laws.{same-is, same_self, upper-joined, lower-joined}
use Rattle.face_frame.specs.Message.{kind_of, grant_word, fields_of, message_words}
use Rattle.face_frame.specs.Tells.{at, within, grant_of, grants_of, body_of, message_of, is_message}
use Rattle.frame_writer.specs.Write.{write_of}
use Rattle.frame_writer.proofs.Page.{write_done}
use Rattle.face_frame_read.specs.Read.{read_left, read_call}
use Rattle.face_frame_write.specs.Write.{write_left, writing_of, written, write_call}

abbrev pub GrantFits : Grant → Type 0
GrantFits g = (g.start.0 < 2 ^ 32) × (g.length.0 < 2 ^ 32)

abbrev pub GrantsFit : List Grant → Type 0
GrantsFit [] = Unit {0}
GrantsFit (g ∷ gs) = GrantFits g × GrantsFit gs

abbrev pub BodyFits : Body → Type 0
BodyFits (Gate grants) = GrantsFit (listed grants)
BodyFits (Discovery grant sync) = GrantFits grant × (sync.0 < 2 ^ 32)
BodyFits (Report sets) = SetsTyped sets
BodyFits (RegisterReq flag pending) = pending < 2 ^ 8
BodyFits (Register port flag sync pending) = (port < 2 ^ 16) × (sync.0 < 2 ^ 32) × (pending < 2 ^ 8)
BodyFits (RegisterAck flag port sync) = (port < 2 ^ 16) × (sync.0 < 2 ^ 32)

-- what the types of the fields see to by themselves
pub record Fits (m : Message) : Type 0 where
  pub timestamp : m.timestamp.0 < 2 ^ 32
  pub body : BodyFits m.body

within-is : (bits n : ℕ) → n < 2 ^ bits → within bits n ≡ n
within-is bits n h = omega arith

within-fits : (bits n : ℕ) → within bits n < 2 ^ bits
within-fits bits n = omega (arith, pow_pos bits)

-- a grant of its word and its force bit
grant-back : (g : Grant) (b : Bool) → GrantFits g → b ≡ g.force → grant_of (grant_word g) b ≡ g
grant-back g b h e =
    rw (upper-joined g.start.0 g.length.0 h.1, lower-joined g.start.0 g.length.0 h.1, e)

bit-back : (t : Bool) → eqb (cond t 1 0) 1 ≡ t
bit-back true = refl
bit-back false = refl

lowest : (t : Bool) (x : ℕ) → eqb ((cond t 1 0 + 2 * x) % 2) 1 ≡ t
lowest true x = let e : (1 + 2 * x) % 2 ≡ 1 = omega arith in rw e
lowest false x = let e : (0 + 2 * x) % 2 ≡ 0 = omega arith in rw e

others : (t : Bool) (x : ℕ) → (cond t 1 0 + 2 * x) / 2 ≡ x
others true x = omega arith
others false x = omega arith

grants-back : (gs : List Grant) → GrantsFit gs → grants_of (force_bits gs) (map grant_word gs) ≡ gs
grants-back [] h = refl
grants-back (g ∷ gs) h =
    rw (
      others g.force (force_bits gs),
      grants-back gs h.1,
      grant-back g (eqb ((cond g.force 1 0 + 2 * force_bits gs) % 2) 1) h.0 (lowest g.force (force_bits gs)),
    )

req-flag-back : (f : RegisterReqFlag) → register_req_flag_of (register_req_flag f) ≡ f
unfolding register_req_flag_of
req-flag-back request.Register = refl
req-flag-back request.Deregister = refl

flag-back : (f : RegisterFlag) → register_flag_of (register_flag f) ≡ f
unfolding register_flag_of
flag-back answer.Reregister = refl
flag-back answer.Deregister = refl
flag-back answer.Ack = refl
flag-back answer.Nack = refl

ack-flag-back : (f : RegisterAckFlag) → register_ack_flag_of (register_ack_flag f) ≡ f
unfolding register_ack_flag_of
ack-flag-back ack.Nack = refl
ack-flag-back ack.Ack = refl

abbrev words_of : ℕ → ℕ → ℕ → Body → List ℕ
words_of x y z b = x ∷ y ∷ z ∷ kind_of b ∷ (fields_of b ++ replicate (6 - length (fields_of b)) 0)

body_back : (x y z : ℕ) (b : Body) → BodyFits b → body_of (words_of x y z b) ≡ b
unfolding body_of
body_back x y z (Gate grants) h =
    let gs = listed grants in
    let first = take_at (map grant_word gs) (replicate (6 - length (fields_of (Gate grants))) 0) (length gs) (simp length-map) in
    rw (first, grants-back gs h, listed-few grants)
body_back x y z (Discovery grant sync) h =
    rw (grant-back grant (eqb (cond grant.force 1 0) 1) h.0 (bit-back grant.force), within-is 32 sync.0 h.1)
body_back x y z (Report sets) h = refl
body_back x y z (RegisterReq flag pending) h = rw (req-flag-back flag, within-is 8 pending h)
body_back x y z (Register port flag sync pending) h =
    rw (within-is 16 port h.0, flag-back flag, within-is 32 sync.0 h.1, within-is 8 pending h.2)
body_back x y z (RegisterAck flag port sync) h =
    rw (ack-flag-back flag, within-is 16 port h.0, within-is 32 sync.0 h.1)

-- the words of a message tell it
pub told : (m : Message) → Fits m → message_of (message_words m) ≡ m
unfolding message_of message_words
told m h =
    rw (
      within-is 32 m.timestamp.0 h.timestamp,
      body_back m.destination.0 m.source.0 m.timestamp.0 m.body h.body,
    )

-- and no other has the same
pub one-to-one : (m n : Message) → Fits m → Fits n → message_words m ≡ message_words n → m ≡ n
one-to-one m n h k e = sym (told m h) ∙ ap message_of e ∙ told n k

-- they are a message's
pub is-message : (m : Message) → Fits m → is_message (message_words m) ≡ true
unfolding is_message
is-message m h = rw (told m h) (same_self (message_words m))

-- words of 64 bits
abbrev pub Words : List ℕ → Type 0
Words [] = Unit {0}
Words (x ∷ l) = (x < 2 ^ 64) × Words l

words_take : (n : ℕ) (l : List ℕ) → Words l → Words (take n l)
words_take zero l h = tt
words_take (suc n) [] h = tt
words_take (suc n) (x ∷ l) h = (h.0, words_take n l h.1)

words-drop : (n : ℕ) (l : List ℕ) → Words l → Words (drop n l)
words-drop zero l h = h
words-drop (suc n) [] h = tt
words-drop (suc n) (x ∷ l) h = words-drop n l h.1

words-at : (n : ℕ) (l : List ℕ) → Words l → at l n < 2 ^ 64
words-at n [] h = omega arith
words-at zero (x ∷ l) h = h.0
words-at (suc n) (x ∷ l) h = words-at n l h.1

grant-fits : (w : ℕ) → w < 2 ^ 64 → GrantFits (grant_of w false)
grant-fits w h = (omega arith, omega arith)

grants-fit : (x : ℕ) (ws : List ℕ) → Words ws → GrantsFit (grants_of x ws)
grants-fit x [] h = tt
grants-fit x (w ∷ ws) h = (grant-fits w h.0, grants-fit (x / 2) ws h.1)

few-fit : (gs : List Grant) → GrantsFit gs → GrantsFit (listed (few gs))
few-fit [] h = tt
few-fit (a ∷ []) h = h
few-fit (a ∷ b ∷ []) h = h
few-fit (a ∷ b ∷ c ∷ []) h = h
few-fit (a ∷ b ∷ c ∷ d ∷ gs) h = (h.0, (h.1.0, (h.1.1.0, (h.1.1.1.0, tt))))

body-fits : (w : List ℕ) → Words w → BodyFits (body_of w)
unfolding body_of
body-fits w h =
    either BodyFits (eqb (at w 3) 0) _ _
    (λ _.
    let ws = take (at w 4) (drop 6 w) in
    few-fit (grants_of (at w 5) ws) (grants-fit (at w 5) ws (words_take (at w 4) (drop 6 w) (words-drop 6 w h))))
    (λ _. either BodyFits (eqb (at w 3) 1) _ _ (λ _. (grant-fits (at w 6) (words-at 6 w h), within-fits 32 (at w 4)))
    (λ _. either BodyFits (eqb (at w 3) 2) _ _ (λ _. (words-at 4 w h, words-at 5 w h, words-at 6 w h, words-at 7 w h, words-at 8 w h))
    (λ _. either BodyFits (eqb (at w 3) 3) _ _ (λ _. within-fits 8 (at w 5))
    (λ _. either BodyFits (eqb (at w 3) 4) _ _ (λ _. (within-fits 16 (at w 5), within-fits 32 (at w 6), within-fits 8 (at w 7)))
    (λ _. (within-fits 16 (at w 5), within-fits 32 (at w 6)))))))

-- and no other words are
pub only-messages : (w : List ℕ) → Words w → is_message w ≡ true → Fits (message_of w) × (message_words (message_of w) ≡ w)
unfolding is_message message_of
only-messages w h e =
    (record { timestamp = within-fits 32 (at w 2); body = body-fits w h }, same-is (message_words (message_of w)) w e)

fields-size : (b : Body) → length (fields_of b) ≤ 6
fields-size (Gate grants) = simp length-map (omega (arith, listed-short grants))
fields-size (Discovery grant sync) = omega arith
fields-size (Report sets) = omega arith
fields-size (RegisterReq flag pending) = omega arith
fields-size (Register port flag sync pending) = omega arith
fields-size (RegisterAck flag port sync) = omega arith

size : (m : Message) → length (message_words m) ≡ 10
unfolding message_words
size m = simp (length-append, length-replicate) (omega (arith, fields-size m.body))

-- the theorem: writing them is the core's writing of the message
pub write-is : (m : Message) (rest octets : List ℕ) → Fits m → 60 ≤ length octets
    → write_call (message_words m ++ rest) octets ≡ written (write_of m) octets
unfolding write_call writing_of
write-is m rest octets h room =
    let long : 10 ≤ length (message_words m ++ rest) = rw length-append (omega (arith, size m)) in
    rw (le-leb 10 _ long, le-leb 60 _ room, take_at (message_words m) rest 10 (size m), is-message m h, told m h)

-- a message that has a frame fits its types
grants-valid : (gs : List Grant) → GrantsValid gs → GrantsFit gs
grants-valid [] h = tt
grants-valid (g ∷ gs) h = ((h.0.0, omega (arith, h.0.1)), grants-valid gs h.1)

body-valid : (b : Body) → BodyValid b → BodyFits b
body-valid (Gate grants) h = grants-valid (listed grants) h
body-valid (Discovery grant sync) h = ((h.0.0, omega (arith, h.0.1)), omega (arith, h.1))
body-valid (Report sets) h = h.typed
body-valid (RegisterReq flag pending) h = h
body-valid (Register port flag sync pending) h = (h.0, omega (arith, h.1), h.2)
body-valid (RegisterAck flag port sync) h = (h.0, omega (arith, h.1))

valid-fits : (m : Message) → Valid m → Fits m
valid-fits m v = record { timestamp = v.timestamp; body = body-valid m.body v.body }

-- a frame that was read into words, written, is the frame with its pad zeroed
pub read-then-write : (l m o : List ℕ) → Octets l → 10 ≤ length m → 60 ≤ length o → (read_of l).reply ≡ Done
    → write_call (read_call l m).message o ≡ write_left 0 (zero_pad (20 + length (body_octets (read_of l).message.body)) l ++ drop 60 o)
unfolding read_call
read-then-write l m o h words octets done =
    let c : Carries l (read_of l).message = carried l h done in
    let n = (read_of l).message in
    rw (
      le-ltb (length m) 10 words,
      write-is n (drop 10 m) o (valid-fits n c.valid) octets,
      write_done n c.valid,
      c.octets,
    )

grants-typed : (gs : List Grant) → GrantsFit gs → GrantsTyped gs
grants-typed [] h = tt
grants-typed (g ∷ gs) h = (h.0.0, grants-typed gs h.1)

body_typed : (b : Body) → BodyFits b → BodyTyped b
body_typed (Gate grants) h = grants-typed (listed grants) h
body_typed (Discovery grant sync) h = h.0.0
body_typed (Report sets) h = h
body_typed (RegisterReq flag pending) h = h
body_typed (Register port flag sync pending) h = (h.0, h.2)
body_typed (RegisterAck flag port sync) h = h.0

-- words that are written are those of a message that has a frame
written_of : (w : List ℕ) → Words w → number_of (writing_of w).reply ≡ 0
    → Valid (message_of w) × (message_words (message_of w) ≡ w) × (writing_of w ≡ record { reply = Done; octets = encode (message_of w) })
unfolding writing_of write_of
written_of w h e =
    ⊎_elim
    (λ (i : is_message w ≡ true).
    let is = only-messages w h i in
    ⊎_elim
    (λ (f : fits_message (message_of w) ≡ true). (valid-of (message_of w) (is.0.timestamp, body_typed (message_of w).body is.0.body) f, is.1, rw (i, f)))
    (λ (f : fits_message (message_of w) ≡ false). let no : 4 ≡ 0 = rw (i, f) at e in absurd (omega arith))
    (decided (fits_message (message_of w))))
    (λ (i : is_message w ≡ false). let no : 4 ≡ 0 = rw i at e in absurd (omega arith))
    (decided (is_message w))

-- words that were written into a frame, read, are themselves
pub write-then-read : (w o m : List ℕ) → Words w → 10 ≤ length w → 60 ≤ length o → 10 ≤ length m → (write_call w o).number ≡ 0
    → read_call (take 60 (write_call w o).octets) m ≡ read_left 0 (take 10 w ++ drop 10 m)
unfolding read_call write_call
write-then-read w o m h words octets message done =
    let room = le-leb 60 (length o) octets in
    let long = le-leb 10 (length w) words in
    let is = written_of (take 10 w) (words_take 10 w h) (rw (long, room) at done) in
    let n = message_of (take 10 w) in
    rw (
      long,
      room,
      is.2,
      take_at (encode n) (drop 60 o) 60 (encode-length n),
      le-ltb (length m) 10 message,
      read-encode n is.0,
      is.1,
    )
