-- The words that a frame is read into are those of the message that the reader makes of it.
-- Assumes nothing.
use Prim.Native.Nat.{ℕ, zero, suc, ◌+◌, ◌-◌, ◌*◌, ◌/◌, ◌%◌, ◌^◌, ◌≤◌, ◌<◌}
use mathlib.Core.Path.{◌≡◌, refl, sym, ap, ◌∙◌}
use mathlib.Core.Bool.{true, false, cond, ◌&&◌, and-eq-true_iff}
use mathlib.Core.Logic.{⊎_elim}
use mathlib.Core.List.{List, [], ◌∷◌, ◌++◌}
use native.Mathlib.Nat.{div-lt_iff_lt-mul}
use native.Mathlib.Omega.{arith}
use borrow.Author.Tests.{eqb-true, leb-true}
use lib.Dec.{eqb, leb, ltb}
use lib.ListN.{length, replicate, get_or}
use lib.Pow.{pow-add, pow_pos}
use lib.Seq.{drop-cons}
use Rattle.std.proofs.lemmas.List.{drop_all}
use Rattle.laws.specs.Cases.{decided}
use Rattle.octets.specs.Octets.{field_of}
use Rattle.frame.specs.Layout.{force_bits}
use Rattle.frame.specs.Reading.{one_of, source_in_range, body_in_range}
use Rattle.frame.specs.declared.Body.TheVariants.{Gate, RegisterReq, Register, RegisterAck}
use Rattle.frame_reader.specs.Decode.{bit, grant_at, message_at, read_control, read_of}
use Rattle.frame_reader.specs.Flags.{few, register_req_flag_of, register_flag_of, register_ack_flag_of}
use Rattle.frame_reader.proofs.Gate.{one-odd, grants_from, four-from, take-from, bits-from}
use Rattle.face_frame.specs.Message.{message_words, fields_of}
use Rattle.face_frame_read.specs.Read.{told}
use Rattle.face_frame_read.specs.Steps.{left, headed, in_range, ranged, word_at, clear, discovery_read, grants_read, control_read, frame_read}

-- six words one by one
pub six : (b : List ℕ) → length b ≡ 6
    → get_or b 0 0 ∷ get_or b 1 0 ∷ get_or b 2 0 ∷ get_or b 3 0 ∷ get_or b 4 0 ∷ get_or b 5 0 ∷ [] ≡ b
six b h =
    sym
    (drop-cons b 0 0 (omega arith)
    ∙ rw (
      drop-cons b 1 0 (omega arith),
      drop-cons b 2 0 (omega arith),
      drop-cons b 3 0 (omega arith),
      drop-cons b 4 0 (omega arith),
      drop-cons b 5 0 (omega arith),
      drop_all 6 b (omega arith),
    ))

-- a flag is read of its number
pub register-req-words : (l : List ℕ) (flag pending : ℕ) → 1 ≤ flag → flag ≤ 3 → (flag ≡ 2 → ⊥)
    → in_range (source_in_range l) (headed l (3 ∷ flag ∷ pending ∷ 0 ∷ 0 ∷ 0 ∷ 0 ∷ []))
    ≡ ranged (one_of flag (1 ∷ 3 ∷ [])) l (RegisterReq (register_req_flag_of flag) pending)
unfolding register_req_flag_of
register-req-words l zero pending h k two = absurd (omega arith)
register-req-words l (suc zero) pending h k two = refl
register-req-words l (suc (suc zero)) pending h k two = absurd (two refl)
register-req-words l (suc (suc (suc zero))) pending h k two = refl
register-req-words l (suc (suc (suc (suc n)))) pending h k two = absurd (omega arith)

pub register-words : (l : List ℕ) (flag port sync pending : ℕ) → 1 ≤ flag → flag ≤ 4
    → in_range (source_in_range l) (headed l (4 ∷ flag ∷ port ∷ sync ∷ pending ∷ 0 ∷ 0 ∷ []))
    ≡ ranged (one_of flag (1 ∷ 2 ∷ 3 ∷ 4 ∷ [])) l (Register port (register_flag_of flag) (record { 0 = sync }) pending)
unfolding register_flag_of
register-words l zero port sync pending h k = absurd (omega arith)
register-words l (suc zero) port sync pending h k = refl
register-words l (suc (suc zero)) port sync pending h k = refl
register-words l (suc (suc (suc zero))) port sync pending h k = refl
register-words l (suc (suc (suc (suc zero)))) port sync pending h k = refl
register-words l (suc (suc (suc (suc (suc n))))) port sync pending h k = absurd (omega arith)

pub register-ack-words : (l : List ℕ) (flag port sync : ℕ) → flag < 2
    → in_range (source_in_range l) (headed l (5 ∷ flag ∷ port ∷ sync ∷ 0 ∷ 0 ∷ 0 ∷ []))
    ≡ ranged (one_of flag (0 ∷ 1 ∷ [])) l (RegisterAck (register_ack_flag_of flag) port (record { 0 = sync }))
unfolding register_ack_flag_of
register-ack-words l zero port sync h = refl
register-ack-words l (suc zero) port sync h = refl
register-ack-words l (suc (suc n)) port sync h = absurd (omega arith)

-- the force bit of the one grant
one-force : (f : ℕ) → (eqb (f % 8) 1 && clear f) ≡ true → cond (bit f 16) 1 0 ≡ f / 16
one-force f h =
    let both = (and-eq-true_iff (eqb (f % 8) 1) (clear f)).0 h in
    let n : f % 8 ≡ 1 = eqb-true (f % 8) 1 both.0 in
    let none : f / 2 ^ (f % 8 + 4) ≡ 0 = eqb-true _ 0 both.1 in
    let low : f / 2 ^ (1 + 4) ≡ 0 = rw n at none in
    one-odd (f / 16) ∙ omega arith

pub discovery-words : (l : List ℕ) → (eqb (field_of l 20 1 % 8) 1 && clear (field_of l 20 1)) ≡ true
    → in_range (source_in_range l) (headed l (1 ∷ field_of l 27 2 ∷ field_of l 20 1 / 16 ∷ word_at l 21 true ∷ 0 ∷ 0 ∷ 0 ∷ []))
    ≡ discovery_read l
unfolding discovery_read grant_at
discovery-words l h = rw (h, one-force (field_of l 20 1) h)

-- the words of the grants that stand in l, and zeros for the others
fields-from : (l : List ℕ) (x n : ℕ) → n ≤ 4
    → fields_of (Gate (few (grants_from l x 21 n))) ++ replicate (6 - length (fields_of (Gate (few (grants_from l x 21 n))))) 0
    ≡ n ∷ force_bits (grants_from l x 21 n) ∷ word_at l 21 (ltb 0 n) ∷ word_at l 27 (ltb 1 n) ∷ word_at l 33 (ltb 2 n) ∷ word_at l 39 (ltb 3 n) ∷ []
unfolding grant_at
fields-from l x zero h = refl
fields-from l x (suc zero) h = refl
fields-from l x (suc (suc zero)) h = refl
fields-from l x (suc (suc (suc zero))) h = refl
fields-from l x (suc (suc (suc (suc zero)))) h = refl
fields-from l x (suc (suc (suc (suc (suc n))))) h = absurd (omega arith)

pub grants-words : (l : List ℕ) → (leb (field_of l 20 1 % 8) 4 && clear (field_of l 20 1)) ≡ true
    → in_range (source_in_range l)
    (headed l
    (0
    ∷ field_of l 20 1 % 8
    ∷ field_of l 20 1 / 16
    ∷ word_at l 21 (ltb 0 (field_of l 20 1 % 8))
    ∷ word_at l 27 (ltb 1 (field_of l 20 1 % 8))
    ∷ word_at l 33 (ltb 2 (field_of l 20 1 % 8))
    ∷ word_at l 39 (ltb 3 (field_of l 20 1 % 8))
    ∷ []))
    ≡ grants_read l
unfolding grants_read
grants-words l h =
    let f = field_of l 20 1 in
    let n = f % 8 in
    let both = (and-eq-true_iff (leb n 4) (clear f)).0 h in
    let few : n ≤ 4 = leb-true n 4 both.0 in
    let none : f / 2 ^ (n + 4) ≡ 0 = eqb-true _ 0 both.1 in
    let whole : f < 1 * 2 ^ (n + 4) = (div-lt_iff_lt-mul (pow_pos (n + 4))).0 (omega arith) in
    let less : f / 16 < 2 ^ n = omega (arith, pow-add 2 n 4) in
    rw (h, four-from l f, take-from l (f / 16) 21 n 4 few)
    (ap (λ (fs : List ℕ). in_range (source_in_range l) (headed l (0 ∷ fs))) (sym (rw (bits-from l (f / 16) 21 n less) at (fields-from l (f / 16) n few))))

-- an opcode that is none of the five
pub no-opcode : (n : ℕ) → (2 ≤ n → n ≤ 6 → ⊥) → (leb 2 n && leb n 6) ≡ false
no-opcode n none =
    ⊎_elim
    (λ (t : (leb 2 n && leb n 6) ≡ true).
    let both = (and-eq-true_iff (leb 2 n) (leb n 6)).0 t in
    absurd (none (leb-true 2 n both.0) (leb-true n 6 both.1)))
    (λ t. t)
    (decided (leb 2 n && leb n 6))

-- the steps come to the reader's answer
module _ (l m : List ℕ) where
  told-control : told (read_control l) m ≡ left (control_read l) m
  unfolding read_control control_read message_words message_at
  told-control =
      ⊎_elim
      (λ (op : (leb 2 (field_of l 14 2) && leb (field_of l 14 2) 6) ≡ true).
      ⊎_elim
      (λ (source : source_in_range l ≡ true).
      ⊎_elim
      (λ (body : body_in_range (field_of l 14 2) l ≡ true). rw (op, source, body))
      (λ (body : body_in_range (field_of l 14 2) l ≡ false). rw (op, source, body))
      (decided (body_in_range (field_of l 14 2) l)))
      (λ (source : source_in_range l ≡ false).
      ⊎_elim
      (λ (body : body_in_range (field_of l 14 2) l ≡ true). rw (op, source, body))
      (λ (body : body_in_range (field_of l 14 2) l ≡ false). rw (op, source, body))
      (decided (body_in_range (field_of l 14 2) l)))
      (decided (source_in_range l)))
      (λ (op : (leb 2 (field_of l 14 2) && leb (field_of l 14 2) 6) ≡ false). rw op)
      (decided (leb 2 (field_of l 14 2) && leb (field_of l 14 2) 6))

  pub told-frame : told (read_of l) m ≡ left (frame_read l) m
  unfolding read_of frame_read
  told-frame =
      ⊎_elim
      (λ (size : eqb (length l) 60 ≡ true).
      ⊎_elim
      (λ (kind : eqb (field_of l 12 2) 0x8808 ≡ true). rw (size, kind) told-control)
      (λ (kind : eqb (field_of l 12 2) 0x8808 ≡ false). rw (size, kind))
      (decided (eqb (field_of l 12 2) 0x8808)))
      (λ (size : eqb (length l) 60 ≡ false). rw size)
      (decided (eqb (length l) 60))
