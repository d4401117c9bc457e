-- Lemmas: sound processes: their parts as facts, and what a change of one part asks for to keep the rest.
-- Assumes nothing.
use Rattle.std.specs.Prelude.{◌≡◌, refl, true, false, ◌&&◌, ◌||◌, [], eqb, leb, length}
use Rattle.std.proofs.Math.Bool.{or-true, and-eq-true_iff}
use Rattle.std.proofs.lemmas.Bool.{false≢true}
use Rattle.std.proofs.Common.{arith}
use Rattle.clock.specs.declared.Count.{Count}
use Rattle.box_grants.specs.Keeps.{packed-entries, packed-sound}
use Rattle.box_grants.specs.Sound.{sound_of as list_sound}
use Rattle.box_grants.specs.declared.GrantList.{GrantList}
use Rattle.box_light.proofs.Laws.{resting-sound}
use Rattle.box_light.specs.Sound.{sound_of as light_sound}
use Rattle.box_light.specs.declared.Light.{Light}
use Rattle.box_registration.specs.Laws.{waiting-sound, registering-sound, sync-fits}
use Rattle.box_registration.specs.Registration.{registering, is_waiting, is_registered, is_registering}
use Rattle.box_registration.specs.Sound.{sound_of as registration_sound}
use Rattle.box_registration.specs.declared.Registration.{Registration}
use Rattle.box_registration.specs.declared.State.{State}
use Rattle.box_registration.specs.declared.State.TheVariants.{Wait, Registering, RegisterReq, Registered}
use Rattle.box_processes.specs.Parts.{fresh, with_count, with_registration, with_list, with_light, waiting}
use Rattle.box_processes.specs.Sound.{rests_in, sound_of}
use Rattle.box_processes.specs.declared.Processes.{Processes}

-- the parts of the test, and the sixteen places of the list, which an array of the code has by its type
pub record Sound (p : Processes) : Type 0 where
  pub registration : registration_sound p.registration ≡ true
  pub list : list_sound p.list ≡ true
  pub empty : (is_registered p.registration.state || eqb p.list.number 0) ≡ true
  pub light : light_sound p.light p.list ≡ true
  pub rest : rests_in p.registration.state p.light ≡ true
  pub places : length p.list.entries ≡ 16

-- the parts are the test, and back
pub sound-test : {p : Processes} → Sound p → sound_of p ≡ true
unfolding sound_of
sound-test s = rw (s.registration, s.list, s.empty, s.light, s.rest)

pub sound-of : (p : Processes) → sound_of p ≡ true → length p.list.entries ≡ 16 → Sound p
unfolding sound_of
sound-of p h n =
    let a = registration_sound p.registration in
    let b = list_sound p.list in
    let c = is_registered p.registration.state || eqb p.list.number 0 in
    let d = light_sound p.light p.list in
    let e = rests_in p.registration.state p.light in
    let abcd = (and-eq-true_iff (a && b && c && d) e).0 h in
    let abc = (and-eq-true_iff (a && b && c) d).0 abcd.0 in
    let ab = (and-eq-true_iff (a && b) c).0 abc.0 in
    let one = (and-eq-true_iff a b).0 ab.0 in
    record { registration = one.0; list = one.1; empty = ab.1; light = abc.1; rest = abcd.1; places = n }

-- a test of the state tells the state
waiting-is : (t : State) → is_waiting t ≡ true → t ≡ Wait
waiting-is Wait h = refl
waiting-is Registering h = absurd (false≢true h)
waiting-is RegisterReq h = absurd (false≢true h)
waiting-is Registered h = absurd (false≢true h)

pub registering-is : (t : State) → is_registering t ≡ true → t ≡ Registering
registering-is Wait h = absurd (false≢true h)
registering-is Registering h = refl
registering-is RegisterReq h = absurd (false≢true h)
registering-is Registered h = absurd (false≢true h)

pub registered-is : (t : State) → is_registered t ≡ true → t ≡ Registered
registered-is Wait h = absurd (false≢true h)
registered-is Registering h = absurd (false≢true h)
registered-is RegisterReq h = absurd (false≢true h)
registered-is Registered h = refl

-- entering WAIT is sound whatever was before, if the sync time is in range
pub entered : (p : Processes) → leb p.registration.sync.0 65535 ≡ true → Sound (waiting p)
entered p h =
    record {
      registration = waiting-sound p.registration h;
      list = packed-sound [] refl (omega arith);
      empty = refl;
      light = resting-sound (waiting p).list;
      rest = refl;
      places = packed-entries [] (omega arith);
    }

module _ (p : Processes) (s : Sound p) where
  -- setting the count moves no timer
  pub count-keeps : (c : Count) → Sound (with_count p c)
  count-keeps c =
      record { registration = s.registration; list = s.list; empty = s.empty; light = s.light; rest = s.rest; places = s.places }

  -- a registration that stays in its state
  pub renewed : (r : Registration) → registration_sound r ≡ true → r.state ≡ p.registration.state → Sound (with_registration p r)
  renewed r h e =
      record { registration = h; list = s.list; empty = rw e s.empty; light = s.light; rest = rw e s.rest; places = s.places }

  -- one that leaves a state other than REGISTERED: the list is empty
  pub moved : (r : Registration) → registration_sound r ≡ true → is_registered p.registration.state ≡ false
      → rests_in r.state p.light ≡ true → Sound (with_registration p r)
  moved r h e t =
      let none : eqb p.list.number 0 ≡ true = rw e at s.empty in
      record { registration = h; list = s.list; empty = rw none (or-true (is_registered r.state)); light = s.light; rest = t; places = s.places }

  -- another phase of the transmitter
  pub shone : (l : Light) → light_sound l p.list ≡ true → rests_in p.registration.state l ≡ true → Sound (with_light p l)
  shone l h t = record { registration = s.registration; list = s.list; empty = s.empty; light = h; rest = t; places = s.places }

  -- another list, in REGISTERED
  pub relisted : (l : GrantList) → list_sound l ≡ true → length l.entries ≡ 16 → is_registered p.registration.state ≡ true
      → light_sound p.light l ≡ true → Sound (with_list p l)
  relisted l h n i t = record { registration = s.registration; list = h; empty = rw i; light = t; rest = s.rest; places = n }

  -- register, in WAIT
  pub registering-keeps : is_waiting p.registration.state ≡ true → Sound (with_registration p (registering p.registration))
  registering-keeps w =
      let r = p.registration in
      moved (registering r) (registering-sound r (sync-fits r s.registration)) (rw (waiting-is r.state w)) refl

  -- entering WAIT
  pub waiting-keeps : Sound (waiting p)
  waiting-keeps = entered p (sync-fits p.registration s.registration)

-- a fresh box has entered WAIT
pub fresh-sound : Sound fresh
fresh-sound = entered fresh refl
