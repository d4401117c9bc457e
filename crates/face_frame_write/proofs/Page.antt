-- What each kind lays out is what the page answers: the writer's frame of the message that the words are the words of.
-- Assumes nothing.
use Prim.Native.Nat.{ℕ, zero, suc, ◌+◌, ◌-◌, ◌*◌, ◌≤◌, ◌<◌, min}
use mathlib.Core.Path.{◌≡◌, refl, sym, ap, ◌∙◌}
use mathlib.Core.Bool.{Bool, true, false, cond, ◌&&◌, true≢false}
use mathlib.Core.Logic.{⊎_elim}
use mathlib.Core.List.{List, [], ◌∷◌, ◌++◌}
use native.Mathlib.Omega.{arith}
use borrow.Author.Tests.{eqb-true, leb-true, eq-eqb, ne_eqb, le-leb}
use lib.Dec.{eqb, leb}
use lib.ListN.{length, take, drop, replicate}
use Rattle.laws.specs.Cases.{decided, either}
use Rattle.octets.specs.Octets.{onto, bytes}
use Rattle.frame_queues.proofs.Fitting.{fits_cut}
use Rattle.frame_queues.specs.Laws.{cut-is, padded-forty, forty-length}
use Rattle.frame_queues.specs.Asked.{padded}
use Rattle.frame_queues.specs.Queues.{used_of, forty_of, fits_sets}
use Rattle.frame_queues.specs.declared.Sets.{Sets}
use Rattle.frame.specs.Layout.{header_of, frame_of, opcode_of, first_octet, body_octets, encode}
use Rattle.frame.specs.Range.{individual_in}
use Rattle.frame.specs.Reading.{one_of}
use Rattle.std.specs.Prelude.{Result, Err}
use Rattle.frame.specs.declared.Reply.{Reply}
use Rattle.frame.specs.declared.Reply.TheVariants.{Range}
use Rattle.face_frame_write.specs.declared.Header.{Header}
use Rattle.frame.specs.declared.Body.{Body}
use Rattle.frame.specs.declared.Body.TheVariants.{Report}
use Rattle.frame_range.specs.Fits.{fits_body, fits_message}
use Rattle.frame_reader.specs.Flags.{register_req_flag_of, register_flag_of, register_ack_flag_of}
use Rattle.face_words.specs.Laws.{same-is, same_self, joined-again}
use Rattle.face_words.specs.Words.{lower}
use Rattle.face_frame.specs.Laws.{req-flag-word, flag_word, ack-flag-word, req-flag-is, flag_is, ack-flag-is}
use Rattle.face_frame.specs.Message.{kind_of, fields_of, message_words}
use Rattle.face_frame.specs.Tells.{at, body_of, message_of, is_message}
use Rattle.frame_writer.specs.Write.{write_of}
use Rattle.face_frame_write.specs.Write.{write_left, writing_of, written}
use Rattle.face_frame_write.specs.Steps.{left, laid_out, header_in, grant_bytes, discovery_laid, report_laid, register_req_laid, register_laid, register_ack_laid, body_laid}
use Rattle.face_frame_write.proofs.Chain.{chain, chain-and, Each, each, passed}

abbrev pub body_words : Body → List ℕ
body_words b = fields_of b ++ replicate (6 - length (fields_of b)) 0

-- a body of such a kind and with such words, which has the frame f
pub record Has (d s t k : ℕ) (l : List ℕ) (b : Body) (f : List ℕ) : Type 0 where
  pub kind : kind_of b ≡ k
  pub words : body_words b ≡ l
  pub fits : fits_body b ≡ true
  pub frame : frame_of d s (opcode_of b) t (body_octets b) ≡ f

-- a number that isn't too large for its field, and back
pub least : (x n : ℕ) → leb x n ≡ true → min x n ≡ x
least x n h = omega (arith, leb-true x n h)

pub narrow : (x n : ℕ) → min x n ≡ x → leb x n ≡ true
narrow x n h = le-leb x n (omega arith)

abbrev pub header : ℕ → ℕ → ℕ → Header
header d s t = record { destination = d; source = s; timestamp = t }

-- header and body are one test
both : (h t : Bool) (f : List ℕ) → cond h (laid_out t f) (Err Range) ≡ laid_out (h && t) f
both true t f = refl
both false t f = refl

module _ (d s t k : ℕ) (l o : List ℕ) where
  abbrev words : List ℕ
  words = d ∷ s ∷ t ∷ k ∷ l

  taken : (f : List ℕ) → leb d 0xFFFFFFFFFFFF ≡ true → individual_in s ≡ true → leb t 0xFFFFFFFF ≡ true
      → Has d s t k l (body_of words) f → write_left 0 (f ++ drop 60 o) ≡ written (writing_of words) o
  unfolding writing_of is_message message_of message_words write_of fits_message encode
  taken f hd hs ht h =
      rw (least t 0xFFFFFFFF ht, h.kind, h.words, same_self words, hd, hs, h.fits, h.frame)

  none : (is_message words ≡ true → fits_message (message_of words) ≡ true → ⊥)
      → write_left 4 (replicate 60 0 ++ drop 60 o) ≡ written (writing_of words) o
  unfolding writing_of write_of
  none h =
      ⊎_elim
      (λ (m : is_message words ≡ true).
      ⊎_elim
      (λ (f : fits_message (message_of words) ≡ true). absurd (h m f))
      (λ (f : fits_message (message_of words) ≡ false). rw (m, f))
      (decided (fits_message (message_of words))))
      (λ (m : is_message words ≡ false). rw m)
      (decided (is_message words))

  -- words that are a message's, which fits: what is then known
  fitting : (bs : List Bool) → (kind_of (body_of words) ≡ k → body_words (body_of words) ≡ l → fits_body (body_of words) ≡ true → Each bs)
      → is_message words ≡ true → fits_message (message_of words) ≡ true
      → chain (leb d 0xFFFFFFFFFFFF) (individual_in s ∷ leb t 0xFFFFFFFF ∷ bs) ≡ true
  unfolding is_message message_of message_words fits_message
  fitting bs back m f =
      let e = same-is (message_words (message_of words)) words m in
      let h = each (leb d 0xFFFFFFFFFFFF) (individual_in s ∷ fits_body (body_of words) ∷ []) f in
      let stamp = narrow t 0xFFFFFFFF (ap (λ (w : List ℕ). at w 2) e) in
      let rest = back (ap (λ (w : List ℕ). at w 3) e) (ap (λ (w : List ℕ). drop 4 w) e) h.1.1.0 in
      passed (leb d 0xFFFFFFFFFFFF) (individual_in s ∷ leb t 0xFFFFFFFF ∷ bs) h.0 (h.1.0, (stamp, rest))

  -- tests that are passed by just the words of messages that have a frame
  pub paged : (b : Bool) (bs : List Bool) (f : List ℕ) → (Each (b ∷ bs) → Has d s t k l (body_of words) f)
      → (kind_of (body_of words) ≡ k → body_words (body_of words) ≡ l → fits_body (body_of words) ≡ true → Each (b ∷ bs))
      → left (cond (header_in (header d s t)) (laid_out (chain b bs) f) (Err Range)) o ≡ written (writing_of words) o
  paged b bs f forth back =
      let tests = chain (leb d 0xFFFFFFFFFFFF) (individual_in s ∷ leb t 0xFFFFFFFF ∷ b ∷ bs) in
      ap (λ (r : Result (List ℕ) Reply). left r o) (both (header_in (header d s t)) (chain b bs) f)
      ∙ ap (λ (x : Bool). left (laid_out x f) o) (sym (chain-and (header_in (header d s t)) b bs))
      ∙ ⊎_elim
      (λ (e : tests ≡ true).
      let h = each (leb d 0xFFFFFFFFFFFF) (individual_in s ∷ leb t 0xFFFFFFFF ∷ b ∷ bs) e in
      rw e (taken f h.0 h.1.0 h.1.1.0 (forth h.1.1.1)))
      (λ (e : tests ≡ false). rw e (none (λ m q. true≢false (sym (fitting (b ∷ bs) back m q) ∙ e))))
      (decided tests)

-- equal lists, word by word
pub place : {a b : List ℕ} → a ≡ b → (k : ℕ) → at a k ≡ at b k
place p k = ap (λ (w : List ℕ). at w k) p

zero_of : (x : ℕ) → 0 ≡ x → eqb x 0 ≡ true
zero_of x h = eq-eqb x 0 (sym h)

-- a length or sync time of two octets
wide : (x : ℕ) → leb x 0xFFFF ≡ true → min x 0xFFFFFFFF ≡ x
wide x h = omega (arith, leb-true x 0xFFFF h)

-- a force bit in a word of its own
one_bit : (x : ℕ) → leb x 1 ≡ true → cond (eqb x 1) 1 0 ≡ x
one_bit zero h = refl
one_bit (suc zero) h = refl
one_bit (suc (suc x)) h = absurd (omega (arith, leb-true (suc (suc x)) 1 h))

bit-one : (x : ℕ) → cond (eqb x 1) 1 0 ≡ x → leb x 1 ≡ true
bit-one x h = le-leb x 1 (either (λ (y : ℕ). y ≡ x → x ≤ 1) (eqb x 1) 1 0 (λ _ e. omega arith) (λ _ e. omega arith) h)

one-octet : (b : Bool) → 9 + 16 * (cond b 1 0 + 0) ≡ cond b 25 9
one-octet true = refl
one-octet false = refl

module _ (d s t : ℕ) (o : List ℕ) where
  -- the octets that sets take and their pad are the forty, if they fit
  report-frame : (sets : Sets) → fits_sets sets ≡ true → frame_of d s 3 t (body_octets (Report sets)) ≡ frame_of d s 3 t (forty_of sets)
  unfolding body_octets
  report-frame sets h =
      let o = forty_of sets in
      let whole : padded (take (used_of o) o) ≡ padded o =
      sym (cut-is o (forty-length sets)) ∙ fits_cut sets h ∙ sym (padded-forty o (forty-length sets)) in
      ap (λ (l : List ℕ). header_of d s 3 t ++ l) whole

  abbrev pub Paged : ℕ → List ℕ → Result (List ℕ) Reply → Type 0
  Paged k w laid = left (cond (header_in (header d s t)) laid (Err Range)) o ≡ written (writing_of (d ∷ s ∷ t ∷ k ∷ w)) o

  pub report-page : (a b c e f g : ℕ) → Paged 2 (a ∷ b ∷ c ∷ e ∷ f ∷ g ∷ []) (report_laid (header d s t) (a ∷ b ∷ c ∷ e ∷ f ∷ g ∷ []))
  unfolding body_of
  report-page a b c e f g =
      let sets : Sets = record { first = a; second = b; third = c; fourth = e; fifth = f } in
      paged d s t 2 (a ∷ b ∷ c ∷ e ∷ f ∷ g ∷ []) o
      (eqb g 0)
      (fits_sets sets ∷ [])
      (frame_of d s 3 t (forty_of sets))
      (λ h. record { kind = refl; words = rw (eqb-true g 0 h.0); fits = h.1.0; frame = report-frame sets h.1.0 })
      (λ _ p q. (zero_of g (place p 5), (q, tt)))

  pub register-req-page : (flag pending a b c e : ℕ) → Paged 3 (flag ∷ pending ∷ a ∷ b ∷ c ∷ e ∷ []) (register_req_laid (header d s t) (flag ∷ pending ∷ a ∷ b ∷ c ∷ e ∷ []))
  unfolding body_of body_octets
  register-req-page flag pending a b c e =
      paged d s t 3 (flag ∷ pending ∷ a ∷ b ∷ c ∷ e ∷ []) o
      (one_of flag (1 ∷ 3 ∷ []))
      (leb pending 0xFF ∷ eqb a 0 ∷ eqb b 0 ∷ eqb c 0 ∷ eqb e 0 ∷ [])
      (frame_of d s 4 t (bytes 1 flag ++ bytes 1 pending))
      (λ h.
      let is = req-flag-word flag h.0 in
      let short = least pending 0xFF h.1.0 in
      record {
        kind = refl;
        words =
            rw (
              is,
              short,
              eqb-true a 0 h.1.1.0,
              eqb-true b 0 h.1.1.1.0,
              eqb-true c 0 h.1.1.1.1.0,
              eqb-true e 0 h.1.1.1.1.1.0,
            );
        fits = refl;
        frame = rw (is, short);
      })
      (λ _ p _.
      let i = place p in
      let one : one_of flag (1 ∷ 3 ∷ []) ≡ true = rw (i 0) at (req-flag-is (register_req_flag_of flag)) in
      (one, (narrow pending 0xFF (i 1), (zero_of a (i 2), (zero_of b (i 3), (zero_of c (i 4), (zero_of e (i 5), tt)))))))

  pub register-page : (flag port sync pending a b : ℕ) → Paged 4 (flag ∷ port ∷ sync ∷ pending ∷ a ∷ b ∷ []) (register_laid (header d s t) (flag ∷ port ∷ sync ∷ pending ∷ a ∷ b ∷ []))
  unfolding body_of body_octets
  register-page flag port sync pending a b =
      paged d s t 4 (flag ∷ port ∷ sync ∷ pending ∷ a ∷ b ∷ []) o
      (one_of flag (1 ∷ 2 ∷ 3 ∷ 4 ∷ []))
      (leb port 0xFFFF ∷ leb sync 0xFFFF ∷ leb pending 0xFF ∷ eqb a 0 ∷ eqb b 0 ∷ [])
      (frame_of d s 5 t (bytes 2 port ++ bytes 1 flag ++ bytes 2 sync ++ bytes 1 pending))
      (λ h.
      let is = flag_word flag h.0 in
      let whole = least port 0xFFFF h.1.0 in
      let long = wide sync h.1.1.0 in
      let short = least pending 0xFF h.1.1.1.0 in
      record {
        kind = refl;
        words = rw (is, whole, long, short, eqb-true a 0 h.1.1.1.1.0, eqb-true b 0 h.1.1.1.1.1.0);
        fits = rw (long, h.1.1.0);
        frame = rw (is, whole, long, short);
      })
      (λ _ p q.
      let i = place p in
      let one : one_of flag (1 ∷ 2 ∷ 3 ∷ 4 ∷ []) ≡ true = rw (i 0) at (flag_is (register_flag_of flag)) in (
        one,
        (narrow port 0xFFFF (i 1), (rw (i 2) at q, (narrow pending 0xFF (i 3), (zero_of a (i 4), (zero_of b (i 5), tt))))),
      ))

  pub register-ack-page : (flag port sync a b c : ℕ) → Paged 5 (flag ∷ port ∷ sync ∷ a ∷ b ∷ c ∷ []) (register_ack_laid (header d s t) (flag ∷ port ∷ sync ∷ a ∷ b ∷ c ∷ []))
  unfolding body_of body_octets
  register-ack-page flag port sync a b c =
      paged d s t 5 (flag ∷ port ∷ sync ∷ a ∷ b ∷ c ∷ []) o
      (one_of flag (0 ∷ 1 ∷ []))
      (leb port 0xFFFF ∷ leb sync 0xFFFF ∷ eqb a 0 ∷ eqb b 0 ∷ eqb c 0 ∷ [])
      (frame_of d s 6 t (bytes 1 flag ++ bytes 2 port ++ bytes 2 sync))
      (λ h.
      let is = ack-flag-word flag h.0 in
      let whole = least port 0xFFFF h.1.0 in
      let long = wide sync h.1.1.0 in
      record {
        kind = refl;
        words =
            rw (is, whole, long, eqb-true a 0 h.1.1.1.0, eqb-true b 0 h.1.1.1.1.0, eqb-true c 0 h.1.1.1.1.1.0);
        fits = rw (long, h.1.1.0);
        frame = rw (is, whole, long);
      })
      (λ _ p q.
      let i = place p in
      let one : one_of flag (0 ∷ 1 ∷ []) ≡ true = rw (i 0) at (ack-flag-is (register_ack_flag_of flag)) in (
        one,
        (narrow port 0xFFFF (i 1), (rw (i 2) at q, (zero_of a (i 3), (zero_of b (i 4), (zero_of c (i 5), tt))))),
      ))

  pub discovery-page : (sync force g a b c : ℕ) → Paged 1 (sync ∷ force ∷ g ∷ a ∷ b ∷ c ∷ []) (discovery_laid (header d s t) (sync ∷ force ∷ g ∷ a ∷ b ∷ c ∷ []))
  unfolding body_of body_octets first_octet onto
  discovery-page sync force g a b c =
      paged d s t 1 (sync ∷ force ∷ g ∷ a ∷ b ∷ c ∷ []) o
      (leb sync 0xFFFF)
      (leb force 1 ∷ leb (lower g) 0xFFFF ∷ eqb a 0 ∷ eqb b 0 ∷ eqb c 0 ∷ [])
      (frame_of d s 2 t (bytes 1 (cond (eqb force 1) 25 9) ++ grant_bytes g ++ bytes 2 sync))
      (λ h.
      let long = wide sync h.0 in
      record {
        kind = refl;
        words =
            rw (
              long,
              one_bit force h.1.0,
              joined-again g,
              eqb-true a 0 h.1.1.1.0,
              eqb-true b 0 h.1.1.1.1.0,
              eqb-true c 0 h.1.1.1.1.1.0,
            );
        fits = rw (long, h.0, h.1.1.0);
        frame = rw (long, one-octet (eqb force 1));
      })
      (λ _ p q.
      let i = place p in
      let h = each (leb (lower g) 0xFFFF) (leb (min sync 0xFFFFFFFF) 0xFFFF ∷ []) q in
      (rw (i 0) at h.1.0, (bit-one force (i 1), (h.0, (zero_of a (i 3), (zero_of b (i 4), (zero_of c (i 5), tt)))))))

  -- a kind that there isn't
  pub no-page : (k : ℕ) (w : List ℕ) → 5 < k → Paged k w (body_laid (header d s t) k w)
  unfolding is_message message_of message_words body_of
  no-page k w h =
      let a = ne_eqb k 0 (λ e. omega arith) in
      let b = ne_eqb k 1 (λ e. omega arith) in
      let c = ne_eqb k 2 (λ e. omega arith) in
      let e = ne_eqb k 3 (λ e. omega arith) in
      let f = ne_eqb k 4 (λ e. omega arith) in
      let g = ne_eqb k 5 (λ e. omega arith) in
      let gone : body_laid (header d s t) k w ≡ Err Range = rw (a, b, c, e, f, g) in
      let last : kind_of (body_of (d ∷ s ∷ t ∷ k ∷ w)) ≡ 5 = rw (a, b, c, e, f) in
      let refused : cond (header_in (header d s t)) (body_laid (header d s t) k w) (Err Range) ≡ Err Range =
      either (λ (r : Result (List ℕ) Reply). r ≡ Err Range) (header_in (header d s t)) _ (Err Range) (λ _. gone) (λ _. refl) in
      ap (λ (r : Result (List ℕ) Reply). left r o) refused
      ∙ none d s t k w o
      (λ m _.
      let is = sym (place (same-is (message_words (message_of (d ∷ s ∷ t ∷ k ∷ w))) (d ∷ s ∷ t ∷ k ∷ w) m) 3) ∙ last in
      absurd (omega arith))
