-- Which words the calls of the box take, and what they unpack.
-- Assumes nothing.
use Prim.Native.Nat.{ℕ, ◌-◌, ◌≤◌}
use mathlib.Core.Path.{◌≡◌, refl, sym, ap, subst, ◌∙◌}
use mathlib.Core.Bool.{true, false, ◌&&◌, and-false, and-eq-true_iff, false≢true}
use mathlib.Core.List.{List, [], ◌∷◌, map}
use mathlib.Core.Logic.{◌≢◌, ⊎_elim}
use native.Mathlib.Omega.{arith}
use borrow.Author.Tests.{le-leb, lt-leb, le-ltb, eq-eqb, ne_eqb}
use denote.Ref.{Bor}
use lib.Dec.{eqb, ltb}
use lib.ListN.{length, take, drop, replicate, length-take, length-drop, length-map, take-append-drop}
use Rattle.laws.specs.Cases.{either, decided}
use Rattle.clock.specs.Numbers.{quanta_of}
use Rattle.clock.specs.Spans.{none}
use Rattle.frame.specs.Card.{number_of}
use Rattle.frame.specs.declared.Reply.TheVariants.{Done}
use Rattle.frame_reader.specs.Decode.{read_of}
use Rattle.box_calls.specs.Answer as answers
use Rattle.box_calls.specs.Answer.{accepted}
use Rattle.box_calls.specs.Box.{sound_of}
use Rattle.box_calls.specs.Send.{fits_in, send_of}
use Rattle.box_calls.specs.declared.Answer.{Answer}
use Rattle.box_calls.specs.declared.FloorBox.{FloorBox}
use Rattle.box_laws.specs.Stated as core
use Rattle.box_laws.specs.Calls.{Outcome, unsound, refuses, accepts, outcome}
use Rattle.box_laws.proofs.Refused.{refused-unchanged}
use Rattle.box_laws.specs.Stated.{Call, answer, Unchanged}
use Rattle.face_words.specs.Laws.{same-is}
use Rattle.face_words.specs.Words.{same}
use Rattle.face_box.specs.Box.{discovery_of, phase_of, front_words, front_of, box_words, box_of, is_clear, has_words, is_box, nobody, box_in}
use Rattle.face_fields.specs.Fields.{span_of}
use Rattle.face_box.specs.Laws.{clear-is, words-again}
use Rattle.face_box.specs.Told.{listed, told_words}
use Rattle.face_box.specs.declared.PhaseWords.{PhaseWords}
use Rattle.face_box_calls.specs.Calls.{Left, words_at, box_at, is_lent, heard_of, told_of, handed, settled, box_call, next_call}
use Rattle.face_box_pass.specs.Laws.{whole}
use Rattle.face_laws.specs.Box.{EntriesFit, PhaseFits, Fits, Words, Stand, Judging, register, deregister, report, hear, tick, BoxJudged, bare, BoxRefused, BoxReads, BoxRepacked, NobodySends}
use Rattle.face_laws.proofs.RoundTrip.{drop-map, map-all, unpacked}

-- WORDS THAT ARE A BOX'S are the words of what they tell, and that fits
entries_fit : (l : List ℕ) → EntriesFit (map span_of l)
entries_fit [] = tt
entries_fit (x ∷ l) = (omega arith, entries_fit l)

phase-fits : (v : PhaseWords) → PhaseFits (phase_of v)
unfolding phase_of discovery_of
phase-fits v =
    either PhaseFits (eqb v.phase 5) _ _ (λ _. (omega arith, omega arith))
    (λ _. either PhaseFits (eqb v.phase 6) _ _ (λ _. (omega arith, omega arith))
    (λ _. either PhaseFits (eqb v.phase 7) _ _ (λ _. tt)
    (λ _. either PhaseFits (eqb v.phase 8) _ _ (λ _. tt)
    (λ _. either PhaseFits (eqb v.phase 1) _ _ (λ _. (omega arith, omega arith))
    (λ _. either PhaseFits (eqb v.phase 2) _ _ (λ _. omega arith)
    (λ _. either PhaseFits (eqb v.phase 3) _ _ (λ _. tt)
    (λ _. either PhaseFits (eqb v.phase 4) _ _ (λ _. tt) (λ _. tt))))))))

module _ (w : List ℕ) (n : length w ≡ 29) (h : is_box w ≡ true) where
  parts : (same (front_words (front_of w)) (take 13 w) ≡ true) × (is_clear (drop (front_of w).number (drop 13 w)) ≡ true)
  unfolding is_box has_words
  parts = (and-eq-true_iff (same (front_words (front_of w)) (take 13 w)) (is_clear (drop (front_of w).number (drop 13 w)))).0 h

  -- what they tell, packed
  packed : box_words (box_of w) ≡ w
  unfolding box_words box_of
  packed = rw (words-again (drop 13 w), same-is (front_words (front_of w)) (take 13 w) parts.0) (take-append-drop 13 w)

  sixteen : length (drop 13 w) ≡ 16
  sixteen = simp length-drop (omega (arith, n))

  behind : drop (front_of w).number (map span_of (drop 13 w)) ≡ replicate (16 - (front_of w).number) none
  behind =
      let k = (front_of w).number in
      let rest = drop k (drop 13 w) in
      let long : length rest ≡ 16 - k = length-drop k (drop 13 w) ∙ ap (λ (m : ℕ). m - k) sixteen in
      drop-map span_of k (drop 13 w)
      ∙ ap (map span_of) (clear-is rest parts.1 ∙ ap (λ (m : ℕ). replicate m 0) long)
      ∙ map-all span_of (16 - k) 0

  fits : Fits (box_of w)
  unfolding box_of front_of
  fits =
      record {
        count = omega arith;
        wait = omega arith;
        watchdog = omega arith;
        report = omega arith;
        port = omega arith;
        sync = omega arith;
        entries = entries_fit (drop 13 w);
        light = (omega arith, phase-fits _);
        places = length-map (drop 13 w) span_of ∙ sixteen;
        behind = behind;
      }

-- THE BLOCK: some box has its words, or nobody
module _ (block : List ℕ) (h : 29 ≤ length block) where
  long : length (words_at block) ≡ 29
  long = rw (whole block h) (simp length-take (omega (arith, h)))

  pub has : is_box (words_at block) ≡ true → Words block (box_at block)
  unfolding box_at box_in
  has e = rw e (record { fits = fits (words_at block) long e; words = sym (whole block h) ∙ sym (packed (words_at block) long e) })

  none_has : is_box (words_at block) ≡ false → box_at block ≡ nobody
  unfolding box_at box_in
  none_has e = rw e

  -- the theorem
  pub only : (b : FloorBox) → Words block b → box_at block ≡ b
  unfolding box_at
  only b s = ap box_in (whole block h ∙ s.words) ∙ unpacked b s.fits

pub box-repacked : BoxRepacked
unfolding BoxRepacked
box-repacked block b h s = let e = only block h b s in (e, ap box_words e ∙ sym s.words)

-- THE CALLS
pub lent : (block frames reply : ℕ) → 29 ≤ block → 120 ≤ frames → 19 ≤ reply → is_lent block frames reply ≡ true
unfolding is_lent
lent block frames reply a b c = rw (le-leb 29 block a, le-leb 120 frames b, le-leb 19 reply c)

-- the number is the core's
pub number_is : (f : FloorBox → Answer) (block frames reply : List ℕ) → is_lent (length block) (length frames) (length reply) ≡ true
    → (box_call f block frames reply).number ≡ number_of (f (box_at block)).reply
unfolding box_call settled handed told_of
number_is f block frames reply e =
    rw e
    (either (λ (x : Left). x.number ≡ number_of (f (box_at block)).reply) (eqb (number_of (f (box_at block)).reply) 0) _ _ (λ _. refl) (λ _. refl))

-- 13 comes of a box that is not sound, and of no other
abbrev Is13 : FloorBox → Answer → Type 0
Is13 b x = (sound_of b ≡ true → number_of x.reply ≢ 13) × (sound_of b ≡ false → number_of x.reply ≡ 13)

by-outcome : (c : Call) (b : FloorBox) (x : Answer) → Outcome c b x → Is13 b x
unfolding accepted
by-outcome c b x (unsound s e) = (λ t. absurd (false≢true (sym s ∙ t)), λ t. rw e)
by-outcome c b x (refuses s r n m e) = (λ t. rw e m, λ t. absurd (false≢true (sym t ∙ s)))
by-outcome c b x (accepts s p e) = (λ t. rw e (omega arith), λ t. absurd (false≢true (sym t ∙ s)))

-- each is a call of the core
called : (f : FloorBox → Answer) → Judging f → (b : FloorBox) → (c : Call) × (f b ≡ answer c b)
unfolding heard_of
called f register b = (core.register, refl)
called f deregister b = (core.deregister, refl)
called f (report sets) b = (core.report sets, refl)
called f (hear octets random r) b = (core.hear (read_of octets).message random, rw (eq-eqb (number_of (read_of octets).reply) 0 r))
called f tick b = (core.tick, refl)

pub judged : (f : FloorBox → Answer) → Judging f → (b : FloorBox) → Is13 b (f b)
judged f j b = let k = called f j b in rw k.1 (by-outcome k.0 b (answer k.0 b) (outcome k.0 b))

unsound-nobody : sound_of nobody ≡ false
unfolding sound_of
unsound-nobody = refl

module _ (f : FloorBox → Answer) (j : Judging f) (block frames reply : List ℕ) (h : 29 ≤ length block) (e : is_lent (length block) (length frames) (length reply) ≡ true) where
  abbrev Taken : Type 0
  Taken = (box_call f block frames reply).number ≢ 13

  sound-taken : Stand block → Taken
  sound-taken s z =
      let is = only block h s.its s.has in
      (judged f j (box_at block)).0 (ap sound_of is ∙ s.sound) (sym (number_is f block frames reply e) ∙ z)

  refused : sound_of (box_at block) ≡ false → Taken → ⊥
  refused s t = t (number_is f block frames reply e ∙ (judged f j (box_at block)).1 s)

  taken-stands : Taken → Stand block
  taken-stands t =
      ⊎_elim
      (λ (i : is_box (words_at block) ≡ true).
      ⊎_elim
      (λ (s : sound_of (box_at block) ≡ true). record { its = box_at block; has = has block h i; sound = s })
      (λ (s : sound_of (box_at block) ≡ false). absurd (refused s t))
      (decided (sound_of (box_at block))))
      (λ (i : is_box (words_at block) ≡ false). absurd (refused (ap sound_of (none_has block h i) ∙ unsound-nobody) t))
      (decided (is_box (words_at block)))

pub box-judged : BoxJudged
unfolding BoxJudged
box-judged f j block frames reply a b c =
    let e = lent (length block) (length frames) (length reply) a b c in
    (sound-taken f j block frames reply a e, taken-stands f j block frames reply a e)

-- a refusal
pub refused-left : (x : Answer) (b : FloorBox) (block frames reply : List ℕ) → number_of x.reply ≢ 0 → Unchanged b x
    → settled x block frames reply ≡ bare (number_of x.reply) block frames reply
unfolding settled told_of told_words listed
refused-left x b block frames reply n u = rw (ne_eqb (number_of x.reply) 0 n, u.drift, u.frames, u.notices)

pub lent-left : (f : FloorBox → Answer) (block frames reply : List ℕ) → is_lent (length block) (length frames) (length reply) ≡ true
    → box_call f block frames reply ≡ settled (f (box_at block)) block frames reply
unfolding box_call
lent-left f block frames reply e = rw e

pub box-refused : BoxRefused
unfolding BoxRefused
box-refused f j block frames reply a b c n =
    let e = lent (length block) (length frames) (length reply) a b c in
    let is = number_is f block frames reply e in
    let k = called f j (box_at block) in
    let x = f (box_at block) in
    let bad : number_of x.reply ≢ 0 = λ (z : number_of x.reply ≡ 0). n (is ∙ z) in
    let u : Unchanged (box_at block) x =
    subst (Unchanged (box_at block)) (sym k.1) (refused-unchanged k.0 (box_at block) (λ (d : (answer k.0 (box_at block)).reply ≡ Done). bad (ap (λ (y : Answer). number_of y.reply) k.1 ∙ ap number_of d))) in
    lent-left f block frames reply e
    ∙ refused-left x (box_at block) block frames reply bad u
    ∙ ap (λ (m : ℕ). bare m block frames reply) (sym is)

unread : (octets : List ℕ) (random : ℕ) (b : FloorBox) → number_of (read_of octets).reply ≢ 0
    → heard_of octets random b ≡ answers.refused b (read_of octets).reply
unfolding heard_of
unread octets random b r = rw (ne_eqb (number_of (read_of octets).reply) 0 r)

pub box-reads : BoxReads
unfolding BoxReads
box-reads octets random block frames reply a b c r =
    let is = unread octets random (box_at block) r in
    lent-left (heard_of octets random) block frames reply (lent (length block) (length frames) (length reply) a b c)
    ∙ rw is
    (refused-left (answers.refused (box_at block) (read_of octets).reply) (box_at block) block frames reply r
    (record { drift = refl; next = refl; frames = refl; notices = refl }))

-- NOBODY sends nothing: the window has no ticks
none-fit : (n : ℕ) → fits_in 0 n ≡ false
unfolding fits_in
none-fit n = lt-leb (quanta_of n) 0 (omega arith)

silent : (control frame : Bor (List ℕ)) → (send_of nobody control frame).now ≡ []
unfolding send_of
silent control frame =
    let c = length control.now in
    let d = length frame.now in
    rw (none-fit c, and-false (ltb 0 c), and-false (eqb c 0 && ltb 0 d))

pub nobody-sends : NobodySends
unfolding NobodySends next_call
nobody-sends block control frame h none =
    ⊎_elim
    (λ (i : is_box (words_at block) ≡ true). absurd (none (box_at block) (has block h i)))
    (λ (i : is_box (words_at block) ≡ false). rw (le-ltb (length block) 29 h, none_has block h i, silent control frame))
    (decided (is_box (words_at block)))
