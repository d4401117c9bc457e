-- Lemmas: what carries a message.
-- Assumes nothing.
use Rattle.std.specs.Prelude.{ℕ, zero, suc, ◌%◌, ◌-◌, ◌≡◌, refl, Bool, true, false, cond, ◌&&◌, List, [], ◌∷◌, ◌++◌, eqb, ltb, length, take, replicate}
use Rattle.std.proofs.Math.Bool.{and-eq-true_iff}
use Rattle.std.proofs.Math.Option.{none, some}
use Rattle.std.proofs.Common.{arith, eqb-true, ltb-true, lt-ltb}
use Rattle.octets.specs.Octets.{onto, bytes, value_from, Octets}
use Rattle.octets.specs.Laws.{octets-take, octets-zeros, octets-bytes as onto-octets}
use Rattle.frame_queues.specs.Queues.{used_of, forty_of}
use Rattle.frame_queues.specs.Laws.{forty-octets}
use Rattle.frame.specs.Card.{number_of}
use Rattle.frame.specs.Layout.{listed, per_grant, body_octets, encode}
use Rattle.frame.specs.Range.{Valid}
use Rattle.frame.specs.declared.Body.{Body}
use Rattle.frame.specs.declared.Body.TheVariants.{Gate, Discovery, Report, RegisterReq, Register, RegisterAck}
use Rattle.frame.specs.declared.Grant.{Grant}
use Rattle.frame.specs.declared.Message.{Message}
use Rattle.frame.specs.declared.Reply.{Reply}
use Rattle.frame.specs.declared.Reply.TheVariants.{Done, Size, Kind, Opcode, Range, Direction, Link, State, Party, Held, Full, Output, Unsound, Window}
use Rattle.frame_reader.specs.Decode.{read_control, read_of}
use Rattle.frame_reader.proofs.Forth.{read-encode}
use Rattle.frame_reader.proofs.Back.{carried}
use Rattle.pair_wire.specs.Message.{are_octets, message_in}

pub octets-join : (l r : List ℕ) → are_octets l ≡ true → are_octets r ≡ true → are_octets (l ++ r) ≡ true
octets-join [] r h k = k
octets-join (x ∷ xs) r h k =
    let p = (and-eq-true_iff (ltb x 256) (are_octets xs)).0 h in
    (and-eq-true_iff (ltb x 256) (are_octets (xs ++ r))).1 (p.0, octets-join xs r p.1 k)

-- a list of octets passes the test
pub are-octets : (l : List ℕ) → Octets l → are_octets l ≡ true
are-octets [] h = refl
are-octets (x ∷ l) h = (and-eq-true_iff (ltb x 256) (are_octets l)).1 (lt-ltb x 256 (h 0), are-octets l (λ i. h (suc i)))

pub octets-bytes : (n x : ℕ) → are_octets (bytes n x) ≡ true
octets-bytes n x = are-octets (bytes n x) (onto-octets n x [] (λ _. omega arith))

below : (x : ℕ) → ltb (x % 256) 256 ≡ true
below x = lt-ltb (x % 256) 256 (omega arith)

octets-grants : (gs : List Grant) → are_octets (per_grant gs) ≡ true
unfolding onto
octets-grants [] = refl
octets-grants (g ∷ gs) = simp below (octets-grants gs)

octets-body : (b : Body) → are_octets (body_octets b) ≡ true
unfolding body_octets onto
octets-body (Gate grants) = simp below (octets-grants (listed grants))
octets-body (Discovery grant sync) = simp below
octets-body (Report s) = are-octets (take (used_of (forty_of s)) (forty_of s)) (octets-take (used_of (forty_of s)) (forty_of s) (forty-octets s))
octets-body (RegisterReq flag pending) = simp below
octets-body (Register port flag sync pending) = simp below
octets-body (RegisterAck flag port sync) = simp below

-- every frame that is written is octets
pub encode-octets : (m : Message) → are_octets (encode m) ≡ true
unfolding encode onto
encode-octets m =
    let b = body_octets m.body in
    let pad = replicate (40 - length b) 0 in
    simp below (octets-join b pad (octets-body m.body) (are-octets pad (octets-zeros (40 - length b))))

pub octets-of : (l : List ℕ) → are_octets l ≡ true → Octets l
octets-of [] h i = omega arith
octets-of (x ∷ xs) h zero = ltb-true x 256 ((and-eq-true_iff (ltb x 256) (are_octets xs)).0 h).0
octets-of (x ∷ xs) h (suc i) = octets-of xs ((and-eq-true_iff (ltb x 256) (are_octets xs)).0 h).1 i

done-of : (r : Reply) → number_of r ≡ 0 → r ≡ Done
done-of Done h = refl
done-of Size h = absurd (omega arith)
done-of Kind h = absurd (omega arith)
done-of Opcode h = absurd (omega arith)
done-of Range h = absurd (omega arith)
done-of Direction h = absurd (omega arith)
done-of Link h = absurd (omega arith)
done-of State h = absurd (omega arith)
done-of Party h = absurd (omega arith)
done-of Reply.Grant h = absurd (omega arith)
done-of Held h = absurd (omega arith)
done-of Full h = absurd (omega arith)
done-of Output h = absurd (omega arith)
done-of Unsound h = absurd (omega arith)
done-of Window h = absurd (omega arith)

-- the frame of a message carries it
pub carries-back : (m : Message) → Valid m → message_in (encode m) ≡ some m
unfolding message_in
carries-back m v = rw (encode-octets m, read-encode m v)

-- sixty zeros carry nothing
pub zeros-carry : message_in (replicate 60 0) ≡ none
unfolding message_in read_of read_control value_from
zeros-carry = refl

-- and what is carried has a frame
pub carries-valid : (os : List ℕ) (m : Message) → message_in os ≡ some m → Valid m
unfolding message_in
carries-valid os m = go (are_octets os && eqb (number_of (read_of os).reply) 0) refl
  where
    go : (t : Bool) → (are_octets os && eqb (number_of (read_of os).reply) 0) ≡ t → cond t (some (read_of os).message) none ≡ some m → Valid m
    go true e h =
        let p = (and-eq-true_iff (are_octets os) (eqb (number_of (read_of os).reply) 0)).0 e in
        let d = done-of (read_of os).reply (eqb-true (number_of (read_of os).reply) 0 p.1) in
        let same : (read_of os).message ≡ m = cc in
        rw (← same) (carried os (octets-of os p.0) d).valid
    go false e h = absurd (let z : ◌≡◌ {A = ℕ} 0 1 = cc in omega arith)
