-- Lemmas: of one link: what is known of a sound link in its state, where a link is held, and that a link that is made anew is sound.
-- Assumes nothing.
use Rattle.std.specs.Prelude.{ℕ, ◌≡◌, refl, Bool, true, ◌&&◌, eqb}
use Rattle.std.proofs.Common.{sym, ◌∙◌, eqb-true, eq-eqb}
use Rattle.std.proofs.Math.Path.{ap}
use Rattle.std.proofs.Math.Bool.{and-eq-true_iff}
use Rattle.std.proofs.lemmas.Bool.{false≢true}
use Rattle.clock.specs.Numbers.{watchdog, periodic, wait}
use Rattle.clock.specs.Timers.{off, runs}
use Rattle.frame.specs.declared.Address.{Address}
use Rattle.frame_range.specs.Fits.{fits_address, is_individual}
use Rattle.frame_range.specs.Laws.{individual-fits}
use Rattle.head_links.specs.Link.{idle, waiting_at, registered_at, is_held, is_registered}
use Rattle.head_links.specs.Sound.{sound_in, sound_of}
use Rattle.head_links.specs.declared.Link.{Link}
use Rattle.head_links.specs.declared.State.{State}
use Rattle.head_links.specs.declared.State.TheVariants.{Idle, Waiting, Registered}
use Rattle.head_survey.specs.Facts.{holds}

-- four tests passed, as facts
four : (a b c d : Bool) → (a && b && c && d) ≡ true → (a ≡ true) × (b ≡ true) × (c ≡ true) × (d ≡ true)
four a b c d h =
    let abc = (and-eq-true_iff (a && b && c) d).0 h in
    let ab = (and-eq-true_iff (a && b) c).0 abc.0 in
    let one = (and-eq-true_iff a b).0 ab.0 in
    (one.0, one.1, ab.1, abc.1)

-- a test of the state tells the state
pub registered-is : (s : State) → is_registered s ≡ true → s ≡ Registered
registered-is Idle h = absurd (false≢true h)
registered-is Waiting h = absurd (false≢true h)
registered-is Registered h = refl

pub registered-held : (s : State) → is_registered s ≡ true → is_held s ≡ true
registered-held s h = rw (registered-is s h)

-- what is sound in a state
module _ (l : Link) where
  pub sound-in : (s : State) → l.state ≡ s → sound_of l ≡ true → sound_in s l ≡ true
  unfolding sound_of
  sound-in s e h = ap (λ (t : State). sound_in t l) (sym e) ∙ h

  pub waiting-parts : sound_in Waiting l ≡ true
      → (is_individual l.address ≡ true) × (runs l.wait wait ≡ true) × (off l.watchdog ≡ true) × (off l.periodic ≡ true)
  waiting-parts = four (is_individual l.address) (runs l.wait wait) (off l.watchdog) (off l.periodic)

  pub registered-parts : sound_in Registered l ≡ true
      → (is_individual l.address ≡ true) × (off l.wait ≡ true) × (runs l.watchdog watchdog ≡ true) × (runs l.periodic periodic ≡ true)
  registered-parts = four (is_individual l.address) (off l.wait) (runs l.watchdog watchdog) (runs l.periodic periodic)

  pub waiting-of : l.state ≡ Waiting → is_individual l.address ≡ true → runs l.wait wait ≡ true → off l.watchdog ≡ true
      → off l.periodic ≡ true → sound_of l ≡ true
  unfolding sound_of
  waiting-of e a b c d = ap (λ (t : State). sound_in t l) e ∙ rw (a, b, c, d)

  pub registered-of : l.state ≡ Registered → is_individual l.address ≡ true → off l.wait ≡ true → runs l.watchdog watchdog ≡ true
      → runs l.periodic periodic ≡ true → sound_of l ≡ true
  unfolding sound_of
  registered-of e a b c d = ap (λ (t : State). sound_in t l) e ∙ rw (a, b, c, d)

  individual-in : (s : State) → is_held s ≡ true → sound_in s l ≡ true → is_individual l.address ≡ true
  individual-in Idle i h = absurd (false≢true i)
  individual-in Waiting i h = (waiting-parts h).0
  individual-in Registered i h = (registered-parts h).0

  -- a held link's address is individual
  pub individual : is_held l.state ≡ true → sound_of l ≡ true → is_individual l.address ≡ true
  individual i h = individual-in l.state i (sound-in l.state refl h)

  address-in : (s : State) → sound_in s l ≡ true → fits_address l.address ≡ true
  address-in Idle h =
      let none = eqb-true l.address.0 0 (four (eqb l.address.0 0) (off l.wait) (off l.watchdog) (off l.periodic) h).0 in
      rw none
  address-in Waiting h = individual-fits l.address (waiting-parts h).0
  address-in Registered h = individual-fits l.address (registered-parts h).0

  -- and any sound link's address is one of 48 bits
  pub address-fits : sound_of l ≡ true → fits_address l.address ≡ true
  address-fits h = address-in l.state (sound-in l.state refl h)

-- where a link is held
pub held_at : (a : Address) (l : Link) → holds a l ≡ true → (is_held l.state ≡ true) × (l.address ≡ a)
unfolding holds
held_at a l h =
    let p = (and-eq-true_iff (is_held l.state) (eqb l.address.0 a.0)).0 h in
    (p.0, ap (λ (n : ℕ). record { 0 = n }) (eqb-true l.address.0 a.0 p.1))

pub holds_at : (a : Address) (l : Link) → is_held l.state ≡ true → l.address ≡ a → holds a l ≡ true
unfolding holds
holds_at a l i e = rw (i, eq-eqb l.address.0 a.0 (ap (λ (b : Address). b.0) e))

-- the links that the head makes anew are sound
pub idle-sound : sound_of idle ≡ true
unfolding sound_of off
idle-sound = refl

pub waiting-sound : (a : Address) → is_individual a ≡ true → sound_of (waiting_at a) ≡ true
unfolding off runs
waiting-sound a h = waiting-of (waiting_at a) refl h refl refl refl

pub registered-sound : (a : Address) → is_individual a ≡ true → sound_of (registered_at a) ≡ true
unfolding off runs
registered-sound a h = registered-of (registered_at a) refl h refl refl refl
