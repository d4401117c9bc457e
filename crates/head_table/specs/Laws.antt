-- Lemmas: what the output keeps: its length, and a number of frames that a machine word holds; and which events need no turn.
-- Assumes nothing.
use Rattle.std.specs.Prelude.{Option, None, Some, ℕ, zero, suc, ◌+◌, ◌*◌, ◌/◌, ◌^◌, ◌<◌, ◌≤◌, ◌≡◌, refl, List, [], ◌∷◌, ltb, length}
use Rattle.std.proofs.Common.{ap, ◌∙◌, arith, not-suc-le-zero, ltb-true, length-append, length-drop, length-take}
use Rattle.std.proofs.lemmas.List.{length-replicate}
use Rattle.frame.specs.declared.Address.{Address}
use Rattle.laws.specs.Cases.{either}
use Rattle.octets.specs.Octets.{onto}
use Rattle.frame_range.specs.Fits.{fits_message}
use Rattle.frame_queues.specs.Laws.{forty-length}
use Rattle.frame.specs.Layout.{frame_of, opcode_of, body_octets, encode}
use Rattle.frame.specs.declared.Body.{Body}
use Rattle.frame.specs.declared.Body.TheVariants.{Gate, Discovery, Report, RegisterReq, Register, RegisterAck}
use Rattle.frame.specs.declared.Grants.TheVariants.{None, One, Two, Three, Four}
use Rattle.frame.specs.declared.Message.{Message}
use Rattle.frame.specs.declared.Writing.{Writing}
use Rattle.octets.specs.Over.{over}
use Rattle.frame_writer.specs.Write.{write_of}
use Rattle.head_table.specs.Events.{turns_of}
use Rattle.head_table.specs.Output.{Output, output, pasted, message_of, note_of}
use Rattle.head_table.specs.declared.Event.{Event}
use Rattle.head_table.specs.declared.Sender.{Sender}

-- a frame has sixty octets
sixty : (to from stamp : ℕ) (b : Body) → length (frame_of to from (opcode_of b) stamp (body_octets b)) ≡ 60
unfolding onto body_octets
sixty to from stamp (Gate None) = refl
sixty to from stamp (Gate (One a)) = refl
sixty to from stamp (Gate (Two a b)) = refl
sixty to from stamp (Gate (Three a b c)) = refl
sixty to from stamp (Gate (Four a b c d)) = refl
sixty to from stamp (Discovery a sync) = refl
sixty to from stamp (Report sets) = simp (length-append, length-replicate, length-take) (omega (arith, forty-length sets))
sixty to from stamp (RegisterReq flag pending) = refl
sixty to from stamp (Register port flag sync pending) = refl
sixty to from stamp (RegisterAck flag port sync) = refl

abbrev Sixty : Writing → Type 0
Sixty w = length w.octets ≡ 60

pub written-sixty : (m : Message) → Sixty (write_of m)
unfolding write_of encode
written-sixty m =
    either Sixty (fits_message m) _ _ (λ _. sixty m.destination.0 m.source.0 m.timestamp.0 m.body) (λ _. refl)

-- octets laid over a list leave its length
pub over-long : (a : ℕ) (l b : List ℕ) → a + length b ≤ length l → length (over a l b) ≡ length l
over-long zero l b h = simp (length-append, length-drop) (omega arith)
over-long (suc a) [] b h = absurd (not-suc-le-zero (short a b h))
  where
    short : (a : ℕ) (b : List ℕ) → suc a + length b ≤ 0 → suc a ≤ 0
    short a b h = omega arith
over-long (suc a) (x ∷ l) b h = ap suc (over-long a l b (omega arith))

pub record Fine (m : ℕ) (st : Output) : Type 0 where
  pub number : st.frames < 2 ^ 64
  pub long : length st.octets ≡ m

pasted-fine : (m : ℕ) → m < 2 ^ 64 → (st : Output) (f : List ℕ) → length f ≡ 60 → Fine m st → Fine m (pasted st f)
unfolding pasted
pasted-fine m g st f e p =
    either (Fine m) (ltb st.frames (length st.octets / 60)) _ _
    (λ t. more (ltb-true _ _ t))
    (λ t. p)
  where
    more : st.frames < length st.octets / 60 → Fine m (output (over (st.frames * 60) st.octets f) (st.frames + 1))
    more l =
        record {
          number = omega (arith, l, p.long, g);
          long = over-long (st.frames * 60) st.octets f (omega (arith, l, e)) ∙ p.long;
        }

pub note-fine : (m : ℕ) → m < 2 ^ 64 → (s : Sender) (st : Output) (x : Option (Address × Body)) → Fine m st → Fine m (note_of s st x)
note-fine m g s st None p = p
note-fine m g s st (Some (a, body)) p = pasted-fine m g st (write_of (message_of s a body)).octets (written-sixty (message_of s a body)) p

pub turns-le : (e : Event) (n : ℕ) → turns_of e n ≤ n
turns-le Event.Nothing n = omega arith
turns-le Event.Clear n = omega arith
turns-le Event.Tick n = omega arith
turns-le (Event.Leap k) n = omega arith
turns-le (Event.At k c) n = omega arith
