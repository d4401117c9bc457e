-- What a call of the box leaves in the caller's memory, by how the core's call comes out.
-- Assumes nothing.
use Rattle.std.proofs.Common.{Option, None, Some}
use Prim.Native.Nat.{ℕ, zero, suc, ◌≤◌}
use mathlib.Core.Path.{◌≡◌, refl, ap, ◌∙◌}
use mathlib.Core.Bool.{Bool, true, false, ◌&&◌, and-eq-true_iff}
use mathlib.Core.List.{List, [], ◌++◌, append_assoc}
use native.Mathlib.Omega.{arith}
use borrow.Author.Tests.{leb-true}
use lib.Dec.{eqb, leb}
use lib.IntN.{ℤ}
use lib.ListN.{length, drop, get_or}
use lib.Seq.{take_at, drop_at}
use Rattle.frame.specs.declared.Body.{Body}
use Rattle.laws.specs.Cases.{either}
use Rattle.face_box.specs.Box.{box_words}
use Rattle.face_box.specs.Laws.{told-length}
use Rattle.face_box.specs.Told.{told_words}
use Rattle.clock.specs.declared.Count.{Count}
use Rattle.frame.specs.Card.{number_of}
use Rattle.frame.specs.declared.Address.{Address}
use Rattle.head_table.specs.Laws.{written-sixty}
use Rattle.box_telling.specs.Told.{no_frames, handed}
use Rattle.box_telling.specs.declared.Frames.{Frames}
use Rattle.box_telling.specs.declared.Notices.{Notices}
use Rattle.box_calls.specs.Answer.{message_of, framed, accepted}
use Rattle.box_calls.specs.declared.Answer.{Answer}
use Rattle.box_calls.specs.declared.FloorBox.{FloorBox}
use Rattle.box_laws.specs.Calls.{step, Outcome, unsound, refuses, accepts, outcome}
use Rattle.box_laws.specs.Stated.{Call, answer}
use Rattle.face_words.specs.Laws.{laid-over}
use Rattle.face_words.specs.Words.{laid}
use Rattle.face_box_calls.specs.Calls as face
use Rattle.face_box_calls.specs.Calls.{Left, left, with, told_of, is_lent, laid_frames, settled, box_call, box_at}
use Rattle.pair_box.specs.End as core
use Rattle.pair_head.specs.End.{frames_in}
use Rattle.face_pair.specs.Box.{Lent, sent_in}

-- at most two frames, of sixty octets each
pub record Sixties (f : Frames) : Type 0 where
  pub few : f.number ≤ 2
  pub first : length f.first ≡ 60
  pub second : length f.second ≡ 60

handed-sixties : (f : Frames) (os : List ℕ) → Sixties f → length os ≡ 60 → Sixties (handed f os)
unfolding handed
handed-sixties f os s h =
    either Sixties (eqb f.number 0) _ _ (λ _. record { few = omega arith; first = h; second = s.second })
    (λ _. either Sixties (eqb f.number 1) _ _ (λ _. record { few = omega arith; first = s.first; second = h }) (λ _. s))

framed-sixties : (own : Address) (now : Count) (f : Frames) (sent : Option Body) → Sixties f → Sixties (framed own now f sent)
framed-sixties own now f None s = s
framed-sixties own now f (Some body) s = handed-sixties f _ s (written-sixty (message_of own now body))

pub no-sixties : Sixties no_frames
no-sixties = record { few = omega arith; first = refl; second = refl }

answer-sixties : (c : Call) (b : FloorBox) (x : Answer) → Outcome c b x → Sixties x.frames
unfolding accepted
answer-sixties c b x (unsound s e) = rw e no-sixties
answer-sixties c b x (refuses s r n u e) = rw e no-sixties
answer-sixties c b x (accepts s h e) =
    let own = b.address in
    let y = step c b in
    let now = y.next.count in
    rw e
    (framed-sixties own now (framed own now no_frames y.first) y.second (framed-sixties own now no_frames y.first no-sixties))

pub call-sixties : (c : Call) (b : FloorBox) → Sixties (answer c b).frames
call-sixties c b = answer-sixties c b (answer c b) (outcome c b)

-- laid into the frames that were lent, they stand there
module _ (f : Frames) (s : Sixties f) (out : List ℕ) where
  stand : (n : ℕ) → f.number ≡ n → n ≤ 2 → frames_in f.number (laid_frames f out) ≡ core.frames_in f.number f
  stand zero e h = rw e
  stand (suc zero) e h = rw (e, take_at f.first (drop 60 out) 60 s.first)
  stand (suc (suc zero)) e h =
      let one = f.first in
      let two = f.second in
      let apart : one ++ two ++ drop 120 out ≡ one ++ (two ++ drop 120 out) = append_assoc one two (drop 120 out) in
      rw (e, apart, take_at one (two ++ drop 120 out) 60 s.first, drop_at one (two ++ drop 120 out) 60 s.first, take_at two (drop 120 out) 60 s.second)
  stand (suc (suc (suc n))) e h = absurd (omega arith)

  pub frames-stand : frames_in f.number (laid_frames f out) ≡ core.frames_in f.number f
  frames-stand = stand f.number refl s.few

-- and word 1 of what is told is their number
pub told-number : (drift : ℤ) (n : ℕ) (notices : Notices) (reply : List ℕ) → 19 ≤ length reply
    → get_or (laid (told_words drift n notices) reply) 1 0 ≡ n
unfolding told_words
told-number drift n notices reply h =
    ap (λ (w : List ℕ). get_or w 1 0) (laid-over (told_words drift n notices) reply (omega (arith, told-length drift n notices)))

-- enough was lent
pub lent-parts : (b f r : ℕ) → is_lent b f r ≡ true → (29 ≤ b) × (19 ≤ r)
unfolding is_lent
lent-parts b f r h =
    let p = (and-eq-true_iff (leb 29 b && leb 120 f) (leb 19 r)).0 h in
    (leb-true 29 b ((and-eq-true_iff (leb 29 b) (leb 120 f)).0 p.0).0, leb-true 19 r p.1)

-- the frames of an answer that is handed out
pub handed-sent : (x : Answer) (block : List ℕ) (l : Lent) → eqb (number_of x.reply) 0 ≡ true → 19 ≤ length l.reply → Sixties x.frames
    → sent_in (face.handed x block l.frames l.reply) ≡ core.frames_in x.frames.number x.frames
unfolding face.handed told_of
handed-sent x block l n room s =
    rw (n, told-number x.drift x.frames.number x.notices l.reply room) (frames-stand x.frames s l.frames)

module _ (f : FloorBox → Answer) (block : List ℕ) (l : Lent) where
  abbrev pub lent : Bool
  lent = is_lent (length block) (length l.frames) (length l.reply)

  abbrev pub is_done : Bool
  is_done = eqb (number_of (f (box_at block)).reply) 0

  abbrev pub got : Left
  got = box_call f block l.frames l.reply

  -- too little
  pub short : lent ≡ false → got ≡ left 100 block l.frames l.reply
  unfolding box_call
  short e = rw e

  -- a refusal
  pub refuse : lent ≡ true → is_done ≡ false → got ≡ with block (told_of (f (box_at block)) l.frames l.reply)
  unfolding box_call settled
  refuse e n = rw (e, n)

  -- a call that is done
  pub done : lent ≡ true → is_done ≡ true → got ≡ face.handed (f (box_at block)) block l.frames l.reply
  unfolding box_call settled
  done e n = rw (e, n)

  -- what was refused changed nothing, and sent nothing
  pub refuse-block : lent ≡ true → is_done ≡ false → got.block ≡ block
  refuse-block e n = ap (λ (x : Left). x.block) (refuse e n)

  pub refuse-number : lent ≡ true → is_done ≡ false → got.number ≡ number_of (f (box_at block)).reply
  unfolding told_of
  refuse-number e n = ap (λ (x : Left). x.number) (refuse e n)

  pub refuse-sent : lent ≡ true → is_done ≡ false → sent_in got ≡ []
  refuse-sent e n = rw (refuse-number e n, n)

  pub short-sent : lent ≡ false → sent_in got ≡ []
  short-sent e = rw (short e)

  -- what was done
  pub done-number : lent ≡ true → is_done ≡ true → got.number ≡ number_of (f (box_at block)).reply
  unfolding face.handed told_of
  done-number e n = ap (λ (x : Left). x.number) (done e n)

  pub done-block : lent ≡ true → is_done ≡ true → got.block ≡ laid (box_words (f (box_at block)).next) block
  unfolding face.handed
  done-block e n = ap (λ (x : Left). x.block) (done e n)

  pub done-sent : lent ≡ true → is_done ≡ true → Sixties (f (box_at block)).frames
      → sent_in got ≡ core.frames_in (f (box_at block)).frames.number (f (box_at block)).frames
  done-sent e n s =
      ap sent_in (done e n) ∙ handed-sent (f (box_at block)) block l n (lent-parts (length block) (length l.frames) (length l.reply) e).1 s
