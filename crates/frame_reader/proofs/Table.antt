-- The reader's answers are the page's: the number is that of the first test that is not passed, and a frame that passes carries
-- the message.
-- Assumes nothing.
use Prim.Native.Nat.{ℕ}
use mathlib.Core.Path.{◌≡◌, refl, sym, ap, ◌∙◌}
use mathlib.Core.Bool.{Bool, true, false, cond, ◌&&◌}
use mathlib.Core.Logic.{◌⊎◌, inl, inr, ⊎_elim}
use mathlib.Core.List.{List, [], ◌∷◌}
use native.Mathlib.Omega.{arith}
use lib.Dec.{eqb, leb}
use lib.ListN.{length}
use Rattle.laws.specs.Cases.{either}
use Rattle.octets.specs.Octets.{field_of, Octets}
use Rattle.frame.specs.Card.{number_of, ◌unless◌, answer_of}
use Rattle.frame.specs.Reading.{body_in_range, source_in_range, reading_tests, refusal, Reads, taken, refused}
use Rattle.frame_reader.specs.Decode.{message_at, read_control, read_of}
use Rattle.frame_reader.proofs.Back.{carried, carries-read}
use Rattle.frame.specs.declared.Message.{Message}
use Rattle.frame.specs.declared.Reading.{Reading}
use Rattle.frame.specs.declared.Reply.{Reply}
use Rattle.frame.specs.declared.Reply.TheVariants.{Done, Size, Kind, Opcode, Range}

-- a reading is taken, or refused with the blank message
abbrev Formed : Reading → Type 0
Formed r = (r.reply ≡ Done) ⊎ ((r.reply ≡ Done → ⊥) × (r ≡ refusal r.reply))

refusal-formed : (r : Reply) → (number_of r ≡ 0 → ⊥) → Formed (refusal r)
refusal-formed r n = inr (λ e. n (ap number_of e), refl)

module _ (l : List ℕ) where
  -- what holds of each of the five answers, where its tests came out so, holds of the reader's
  by_tests : (P : Reading → Type 0)
      → P (record { reply = Done; message = message_at l }) → P (refusal Range) → P (refusal Opcode) → P (refusal Kind) → P (refusal Size)
      → P (read_of l)
  unfolding read_of read_control
  by_tests P done range opcode kind size =
      either P (eqb (length l) 60) _ _
      (λ _.
      either P (eqb (field_of l 12 2) 0x8808) _ _
      (λ _.
      either P (leb 2 (field_of l 14 2) && leb (field_of l 14 2) 6) _ _
      (λ _. either P (source_in_range l && body_in_range (field_of l 14 2) l) _ _ (λ _. done) (λ _. range))
      (λ _. opcode))
      (λ _. kind))
      (λ _. size)

  formed : Formed (read_of l)
  formed =
      by_tests Formed (inl refl)
      (refusal-formed Range (omega arith))
      (refusal-formed Opcode (omega arith))
      (refusal-formed Kind (omega arith))
      (refusal-formed Size (omega arith))

-- THE NUMBERS: each is given exactly when its row says
answer-of : (a b c d : Bool) (m : Message)
    → (cond a (cond b (cond c (cond d (record { reply = Done; message = m }) (refusal Range)) (refusal Opcode)) (refusal Kind)) (refusal Size)).reply
    ≡ answer_of (Size unless a ∷ Kind unless b ∷ Opcode unless c ∷ Range unless d ∷ [])
answer-of true true true true m = refl
answer-of true true true false m = refl
answer-of true true false d m = refl
answer-of true false c d m = refl
answer-of false b c d m = refl

pub answered : (l : List ℕ) → (read_of l).reply ≡ answer_of (reading_tests l)
unfolding read_of read_control
answered l =
    let op = field_of l 14 2 in
    answer-of (eqb (length l) 60) (eqb (field_of l 12 2) 0x8808) (leb 2 op && leb op 6) (source_in_range l && body_in_range op l) (message_at l)

-- the reader's answer is what the page says
pub reads : (l : List ℕ) → Octets l → Reads l (read_of l)
reads l h =
    ⊎_elim
    (λ (e : (read_of l).reply ≡ Done). taken (sym (answered l) ∙ e) e (carried l h e))
    (λ (f : ((read_of l).reply ≡ Done → ⊥) × (read_of l ≡ refusal (read_of l).reply)).
    refused (λ e. f.0 (answered l ∙ e)) (f.1 ∙ ap refusal (answered l)))
    (formed l)

-- and the page allows no other
pub reads_only : (l : List ℕ) (r : Reading) → Reads l r → r ≡ read_of l
reads_only l r (taken a d c) =
    ap (λ (x : Reply). record { reply = x; message = r.message }) d ∙ sym (carries-read l r.message c)
reads_only l r (refused n e) =
    e ∙ ap refusal (sym (answered l)) ∙ ⊎_elim (λ (d : (read_of l).reply ≡ Done). absurd (n (sym (answered l) ∙ d))) (λ f. sym f.1) (formed l)
