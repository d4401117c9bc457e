-- The same of a GATE, at any number of grants, and then of all kinds.
-- Assumes nothing.
use Prim.Native.Nat.{ℕ, zero, suc, ◌+◌, ◌-◌, ◌*◌, ◌/◌, ◌%◌, ◌^◌, ◌≤◌, ◌<◌}
use mathlib.Core.Path.{◌≡◌, refl, sym, ap, ◌∙◌}
use mathlib.Core.Bool.{Bool, true, false, cond, ◌&&◌, and-true, true≢false}
use mathlib.Core.Logic.{⊎_elim}
use mathlib.Core.List.{List, [], ◌∷◌, ◌++◌}
use native.Mathlib.Nat.{pow-suc, pow-le-pow_right, div-eq_of_lt, div-lt_iff_lt-mul}
use native.Mathlib.Omega.{arith}
use borrow.Author.Tests.{eqb-true, leb-true, eq-eqb, le-leb}
use lib.Dec.{leb, ltb}
use lib.ListN.{length, take, replicate}
use lib.Pow.{pow_pos}
use Rattle.laws.specs.Cases.{decided}
use Rattle.octets.specs.Octets.{onto, bytes}
use Rattle.frame.specs.Layout.{listed, force_bits, first_octet, per_grant, header_of, frame_of, body_octets}
use Rattle.frame.specs.declared.Body.TheVariants.{Gate}
use Rattle.frame.specs.declared.Grant.{Grant}
use Rattle.frame_range.specs.Fits.{fits_body}
use Rattle.frame_reader.proofs.Gate.{one-odd, listed-short, few-listed, bits_below}
use Rattle.frame_reader.specs.Flags.{few}
use Rattle.face_frame.specs.Tells.{at, grants_of, body_of}
use Rattle.face_frame.specs.Laws.{first-ten}
use Rattle.face_words.specs.Laws.{joined-again}
use Rattle.face_words.specs.Words.{lower}
use Rattle.face_frame_write.specs.Write.{writing_of, written}
use Rattle.face_frame_write.specs.Steps.{left, message_laid, grant_in, force_in, gate_in, grant_bytes, gate_laid}
use Rattle.face_frame_write.proofs.Chain.{each, passed}
use Rattle.face_frame_write.proofs.Page.{body_words, Has, place, paged, header, Paged, discovery-page, report-page, register-req-page, register-page, register-ack-page, no-page}

-- a grant's word where it is there, and 0 where it isn't; and whether its length then has two octets
abbrev shown : ℕ → Bool → ℕ
shown g there = cond there g 0

abbrev short : ℕ → Bool → Bool
short g there = cond there (leb (lower g) 0xFFFF) true

shown-is : (g : ℕ) (t : Bool) → grant_in g t ≡ true → shown g t ≡ g
shown-is g true h = refl
shown-is g false h = sym (eqb-true g 0 h)

short-is : (g : ℕ) (t : Bool) → grant_in g t ≡ true → short g t ≡ true
short-is g true h = h
short-is g false h = refl

grant-in : (g : ℕ) (t : Bool) → shown g t ≡ g → short g t ≡ true → grant_in g t ≡ true
grant-in g true h k = k
grant-in g false h k = eq-eqb g 0 (sym h)

-- the force bits that words tell
grants-length : (x : ℕ) (ws : List ℕ) → length (grants_of x ws) ≡ length ws
grants-length x [] = refl
grants-length x (w ∷ ws) = ap suc (grants-length (x / 2) ws)

grants-bits : (x : ℕ) (ws : List ℕ) → x < 2 ^ length ws → force_bits (grants_of x ws) ≡ x
grants-bits x [] h = omega arith
grants-bits x (w ∷ ws) h =
    let less : x < 2 ^ length ws * 2 = rw pow-suc at h in
    rw (one-odd x, grants-bits (x / 2) ws (omega arith)) (omega arith)

force-below : (x n : ℕ) → force_in x n ≡ true → (n ≤ 4) × (x < 2 ^ n)
force-below x n h =
    ⊎_elim
    (λ (t : leb n 4 ≡ true).
    let none : x / 2 ^ n ≡ 0 = eqb-true _ 0 (rw t at h) in
    let whole : x < 1 * 2 ^ n = (div-lt_iff_lt-mul (pow_pos n)).0 (omega arith) in
    (leb-true n 4 t, omega arith))
    (λ (t : leb n 4 ≡ false). absurd (true≢false (sym (rw t at h))))
    (decided (leb n 4))

force-in : (x n : ℕ) → n ≤ 4 → x < 2 ^ n → force_in x n ≡ true
force-in x n h k = rw (le-leb n 4 h, eq-eqb (x / 2 ^ n) 0 (div-eq_of_lt k))

module _ (x a b c e : ℕ) where
  abbrev gs : ℕ → List Grant
  gs n = grants_of x (take n (a ∷ b ∷ c ∷ e ∷ []))

  number : (n : ℕ) → n ≤ 4 → length (gs n) ≡ n
  number zero h = refl
  number (suc zero) h = refl
  number (suc (suc zero)) h = refl
  number (suc (suc (suc zero))) h = refl
  number (suc (suc (suc (suc zero)))) h = refl
  number (suc (suc (suc (suc (suc n))))) h = absurd (omega arith)

  bits : (n : ℕ) → n ≤ 4 → x < 2 ^ n → force_bits (gs n) ≡ x
  bits n h k = grants-bits x (take n (a ∷ b ∷ c ∷ e ∷ [])) (rw (sym (grants-length x (take n (a ∷ b ∷ c ∷ e ∷ []))) ∙ number n h) k)

  octet : (n : ℕ) → n ≤ 4 → x < 2 ^ n → first_octet false (listed (few (gs n))) ≡ n % 8 + 16 * (x % 16)
  unfolding first_octet
  octet n h k =
      let most : 2 ^ n ≤ 2 ^ 4 = pow-le-pow_right {n = 2} (omega arith) {i = n} {j = 4} h in
      rw (few-listed (gs n) (omega (arith, number n h)), number n h, bits n h k) (omega arith)

  words_of : (n : ℕ) → n ≤ 4
      → body_words (Gate (few (gs n)))
      ≡ n ∷ force_bits (gs n) ∷ shown a (ltb 0 n) ∷ shown b (ltb 1 n) ∷ shown c (ltb 2 n) ∷ shown e (ltb 3 n) ∷ []
  words_of zero h = refl
  words_of (suc zero) h = rw (joined-again a)
  words_of (suc (suc zero)) h = rw (joined-again a, joined-again b)
  words_of (suc (suc (suc zero))) h = rw (joined-again a, joined-again b, joined-again c)
  words_of (suc (suc (suc (suc zero)))) h = rw (joined-again a, joined-again b, joined-again c, joined-again e)
  words_of (suc (suc (suc (suc (suc n))))) h = absurd (omega arith)

  fits-of : (n : ℕ) → n ≤ 4
      → fits_body (Gate (few (gs n))) ≡ (short a (ltb 0 n) && short b (ltb 1 n) && short c (ltb 2 n) && short e (ltb 3 n))
  fits-of zero h = refl
  fits-of (suc zero) h = simp and-true
  fits-of (suc (suc zero)) h = simp and-true
  fits-of (suc (suc (suc zero))) h = simp and-true
  fits-of (suc (suc (suc (suc zero)))) h = refl
  fits-of (suc (suc (suc (suc (suc n))))) h = absurd (omega arith)

  -- absent grants are pad
  abbrev padded : List ℕ → List ℕ
  padded l = l ++ replicate (40 - length l) 0

  octets-of : (n k : ℕ) → n ≤ 4
      → padded (bytes 1 k ++ per_grant (listed (few (gs n))))
      ≡ padded
      (bytes 1 k
      ++ grant_bytes (shown a (ltb 0 n))
      ++ grant_bytes (shown b (ltb 1 n))
      ++ grant_bytes (shown c (ltb 2 n))
      ++ grant_bytes (shown e (ltb 3 n)))
  unfolding onto
  octets-of zero k h = refl
  octets-of (suc zero) k h = refl
  octets-of (suc (suc zero)) k h = refl
  octets-of (suc (suc (suc zero))) k h = refl
  octets-of (suc (suc (suc (suc zero)))) k h = refl
  octets-of (suc (suc (suc (suc (suc n))))) k h = absurd (omega arith)

  module _ (d s t n : ℕ) (o : List ℕ) where
    abbrev tests : List Bool
    tests = grant_in a (ltb 0 n) ∷ grant_in b (ltb 1 n) ∷ grant_in c (ltb 2 n) ∷ grant_in e (ltb 3 n) ∷ []

    abbrev frame : List ℕ
    frame = frame_of d s 2 t (bytes 1 (n % 8 + 16 * (x % 16)) ++ grant_bytes a ++ grant_bytes b ++ grant_bytes c ++ grant_bytes e)

    forth : gate_in (n ∷ x ∷ a ∷ b ∷ c ∷ e ∷ []) ≡ true → Has d s t 0 (n ∷ x ∷ a ∷ b ∷ c ∷ e ∷ []) (Gate (few (gs n))) frame
    unfolding body_octets
    forth h =
        let g = each (force_in x n) tests h in
        let f = force-below x n g.0 in
        let is = g.1 in
        let a-is = shown-is a (ltb 0 n) is.0 in
        let b-is = shown-is b (ltb 1 n) is.1.0 in
        let c-is = shown-is c (ltb 2 n) is.1.1.0 in
        let e-is = shown-is e (ltb 3 n) is.1.1.1.0 in
        record {
          kind = refl;
          words = rw (bits n f.0 f.1, a-is, b-is, c-is, e-is) at (words_of n f.0);
          fits =
              rw (
                fits-of n f.0,
                short-is a (ltb 0 n) is.0,
                short-is b (ltb 1 n) is.1.0,
                short-is c (ltb 2 n) is.1.1.0,
                short-is e (ltb 3 n) is.1.1.1.0,
              );
          frame =
              rw (octet n f.0 f.1)
              (ap (λ (l : List ℕ). header_of d s 2 t ++ l) (rw (a-is, b-is, c-is, e-is) at (octets-of n (n % 8 + 16 * (x % 16)) f.0)));
        }

    back : body_words (Gate (few (gs n))) ≡ n ∷ x ∷ a ∷ b ∷ c ∷ e ∷ [] → fits_body (Gate (few (gs n))) ≡ true → gate_in (n ∷ x ∷ a ∷ b ∷ c ∷ e ∷ []) ≡ true
    back p q =
        let four : n ≤ 4 = omega (arith, place p 0, listed-short (few (gs n))) in
        let i = place (sym (words_of n four) ∙ p) in
        let less : x < 2 ^ n = rw (i 1, number n four) at (bits_below (gs n)) in
        let fit = each (short a (ltb 0 n)) (short b (ltb 1 n) ∷ short c (ltb 2 n) ∷ short e (ltb 3 n) ∷ []) (sym (fits-of n four) ∙ q) in
        passed (force_in x n) tests (force-in x n four less) (
          grant-in a (ltb 0 n) (i 2) fit.0,
          (
            grant-in b (ltb 1 n) (i 3) fit.1.0,
            (grant-in c (ltb 2 n) (i 4) fit.1.1.0, (grant-in e (ltb 3 n) (i 5) fit.1.1.1.0, tt)),
          ),
        )

    pub gate-page : Paged d s t o 0 (n ∷ x ∷ a ∷ b ∷ c ∷ e ∷ []) (gate_laid (header d s t) (n ∷ x ∷ a ∷ b ∷ c ∷ e ∷ []))
    unfolding body_of
    gate-page =
        paged d s t 0 (n ∷ x ∷ a ∷ b ∷ c ∷ e ∷ []) o (gate_in (n ∷ x ∷ a ∷ b ∷ c ∷ e ∷ [])) [] frame (λ h. forth h.0) (λ _ p q. (back p q, tt))

-- all six kinds
message-page : (d s t k a b c e f g : ℕ) (o : List ℕ)
    → left (message_laid (d ∷ s ∷ t ∷ k ∷ a ∷ b ∷ c ∷ e ∷ f ∷ g ∷ [])) o
    ≡ written (writing_of (d ∷ s ∷ t ∷ k ∷ a ∷ b ∷ c ∷ e ∷ f ∷ g ∷ [])) o
message-page d s t zero a b c e f g o = gate-page b c e f g d s t a o
message-page d s t (suc zero) a b c e f g o = discovery-page d s t o a b c e f g
message-page d s t (suc (suc zero)) a b c e f g o = report-page d s t o a b c e f g
message-page d s t (suc (suc (suc zero))) a b c e f g o = register-req-page d s t o a b c e f g
message-page d s t (suc (suc (suc (suc zero)))) a b c e f g o = register-page d s t o a b c e f g
message-page d s t (suc (suc (suc (suc (suc zero))))) a b c e f g o = register-ack-page d s t o a b c e f g
message-page d s t (suc (suc (suc (suc (suc (suc k)))))) a b c e f g o =
    no-page d s t o (suc (suc (suc (suc (suc (suc k)))))) (a ∷ b ∷ c ∷ e ∷ f ∷ g ∷ []) (omega arith)

pub told-message : (m o : List ℕ) → 10 ≤ length m → written (writing_of (take 10 m)) o ≡ left (message_laid (take 10 m)) o
told-message m o h =
    rw (first-ten m h) (sym (message-page (at m 0) (at m 1) (at m 2) (at m 3) (at m 4) (at m 5) (at m 6) (at m 7) (at m 8) (at m 9) o))
