-- Lemmas: the test of a message is the page Range of the crate frame; what the test of an individual address tells.
-- Assumes nothing.
use Rattle.std.specs.Prelude.{ℕ, ◌/◌, ◌%◌, ◌^◌, ◌<◌, ◌≡◌, refl, Bool, true, ◌&&◌, List, [], ◌∷◌, eqb, leb, ltb}
use Rattle.std.proofs.Math.Bool.{and-eq-true_iff}
use Rattle.std.proofs.Common.{arith, eqb-true, leb-true, ltb-true, le-leb}
use Rattle.clock.specs.Numbers.{most, fits}
use Rattle.frame_queues.proofs.Fitting.{sets-fit, fit-sets}
use Rattle.frame.specs.Layout.{listed}
use Rattle.frame.specs.Range.{individual_in, GrantsFit, BodyFits, Valid, GrantsTyped, BodyTyped, Typed}
use Rattle.frame.specs.declared.Address.{Address}
use Rattle.frame.specs.declared.Grant.{Grant}
use Rattle.frame.specs.declared.Body.{Body}
use Rattle.frame.specs.declared.Body.TheVariants.{Gate, Discovery, Report, RegisterReq, Register, RegisterAck}
use Rattle.frame.specs.declared.Message.{Message}
use Rattle.frame_range.specs.Fits.{fits_address, is_individual, fits_grant, fits_all, fits_body, fits_message}

-- two tests at once
both : {a b : Bool} → a ≡ true → b ≡ true → (a && b) ≡ true
both {a} {b} p q = (and-eq-true_iff a b).1 (p, q)

-- an individual address: 48 bits, not zero, and not a group's
pub individual-parts : (n : ℕ) → individual_in n ≡ true → (n < 2 ^ 48) × (0 < n) × (n / 2 ^ 40 % 2 ≡ 0)
individual-parts n h =
    let p = (and-eq-true_iff (leb n 0xFFFFFFFFFFFF && ltb 0 n) (eqb (n / 2 ^ 40 % 2) 0)).0 h in
    let q = (and-eq-true_iff (leb n 0xFFFFFFFFFFFF) (ltb 0 n)).0 p.0 in
    (omega (arith, leb-true n 0xFFFFFFFFFFFF q.0), ltb-true 0 n q.1, eqb-true (n / 2 ^ 40 % 2) 0 p.1)

pub individual-fits : (a : Address) → is_individual a ≡ true → fits_address a ≡ true
individual-fits a h = le-leb a.0 0xFFFFFFFFFFFF (omega (arith, (individual-parts a.0 h).0))

-- a length or sync time that passes the test has its two octets, and back
short : (n : ℕ) → leb n most ≡ true → n < 2 ^ 16
short n e = omega (arith, leb-true n most e)

short-of : (n : ℕ) → n < 2 ^ 16 → leb n most ≡ true
short-of n h = le-leb n most (omega arith)

all_fit : (gs : List Grant) (t : Bool) → GrantsTyped gs → fits_all t gs ≡ true → (t ≡ true) × GrantsFit gs
all_fit [] t h e = (e, tt)
all_fit (g ∷ gs) t h e =
    let rest = all_fit gs (t && fits_grant g) h.1 e in
    let here = (and-eq-true_iff t (fits_grant g)).0 rest.0 in
    (here.0, ((h.0, short g.length.0 here.1), rest.1))

fit_all : (gs : List Grant) (t : Bool) → t ≡ true → GrantsFit gs → fits_all t gs ≡ true
fit_all [] t e h = e
fit_all (g ∷ gs) t e h = fit_all gs (t && fits_grant g) (both e (short-of g.length.0 h.0.1)) h.1

body-fit : (b : Body) → BodyTyped b → fits_body b ≡ true → BodyFits b
body-fit (Gate g) h e = (all_fit (listed g) true h e).1
body-fit (Discovery g sync) h e =
    let p = (and-eq-true_iff (fits_grant g) (fits sync)).0 e in
    ((h, short g.length.0 p.0), short sync.0 p.1)
body-fit (Report sets) h e = sets-fit sets h e
body-fit (RegisterReq flag pending) h e = h
body-fit (Register port flag sync pending) h e = (h.0, short sync.0 e, h.1)
body-fit (RegisterAck flag port sync) h e = (h, short sync.0 e)

fit-body : (b : Body) → BodyFits b → fits_body b ≡ true
fit-body (Gate g) h = fit_all (listed g) true refl h
fit-body (Discovery g sync) h = both (short-of g.length.0 h.0.1) (short-of sync.0 h.1)
fit-body (Report sets) h = fit-sets sets h
fit-body (RegisterReq flag pending) h = refl
fit-body (Register port flag sync pending) h = short-of sync.0 h.1
fit-body (RegisterAck flag port sync) h = short-of sync.0 h.1

-- what is tested of a message
pub message-parts : (m : Message) → fits_message m ≡ true
    → (fits_address m.destination ≡ true) × (is_individual m.source ≡ true) × (fits_body m.body ≡ true)
unfolding fits_message
message-parts m e =
    let p = (and-eq-true_iff (fits_address m.destination && is_individual m.source) (fits_body m.body)).0 e in
    let q = (and-eq-true_iff (fits_address m.destination) (is_individual m.source)).0 p.0 in
    (q.0, q.1, p.1)

-- the test is the range
pub valid-of : (m : Message) → Typed m → fits_message m ≡ true → Valid m
valid-of m h e =
    let p = message-parts m e in
    record {
      destination = omega (arith, leb-true m.destination.0 0xFFFFFFFFFFFF p.0);
      source = p.1;
      timestamp = h.0;
      body = body-fit m.body h.1 p.2;
    }

pub of-valid : (m : Message) → Valid m → fits_message m ≡ true
unfolding fits_message
of-valid m v =
    both
    (both (le-leb m.destination.0 0xFFFFFFFFFFFF (omega (arith, v.destination))) v.source)
    (fit-body m.body v.body)
