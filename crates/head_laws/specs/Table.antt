-- Lemmas: a tick leaves the links sound and their held addresses all different.
-- Assumes nothing.
use Rattle.std.specs.Prelude.{ℕ, suc, ◌≡◌, refl, Bool, true, false, not, ◌&&◌, ◌||◌, List, [], ◌∷◌, ◌⊎◌}
use Rattle.std.proofs.Common.{sym, ◌∙◌, inl, inr, ⊎_elim}
use Rattle.std.proofs.Math.Bool.{and-eq-true_iff}
use Rattle.std.proofs.lemmas.Bool.{not-true}
use Rattle.frame.specs.declared.Address.{Address}
use Rattle.lent.specs.Folds.{places}
use Rattle.head_links.specs.Link.{is_held}
use Rattle.head_links.specs.Sound.{sound_of}
use Rattle.head_links.specs.declared.Link.{Link}
use Rattle.head_survey.specs.Facts.{holds, any_holds, are_all_sound, different}
use Rattle.head_table.specs.Events.{port_of, reacted}
use Rattle.head_table.specs.declared.Event.{Event}
use Rattle.head_laws.specs.Links.{held_at, holds_at}
use Rattle.head_laws.specs.Steps.{tick-keeps}

-- one of two tests is passed
pub or_split : (a b : Bool) → (a || b) ≡ true → (a ≡ true) ⊎ (b ≡ true)
or_split true b h = inl refl
or_split false b h = inr h

pub or-first : (a b : Bool) → a ≡ true → (a || b) ≡ true
or-first a b h = rw h

pub or-second : (a b : Bool) → b ≡ true → (a || b) ≡ true
or-second true b h = refl
or-second false b h = h

-- a test that cannot be passed fails
fails : (t : Bool) → (t ≡ true → false ≡ true) → not t ≡ true
fails true f = f refl
fails false f = refl

-- the first link and the others are all different
module _ (l : Link) (ls : List Link) where
  pub different-first : different (l ∷ ls) ≡ true → (a : Address) → holds a l ≡ true → any_holds a ls ≡ true → false ≡ true
  different-first d a h k =
      let p = (and-eq-true_iff (not (is_held l.state && any_holds l.address ls)) (different ls)).0 d in
      let q = held_at a l h in
      sym (not-true (is_held l.state && any_holds l.address ls) p.0) ∙ rw (q.0, q.1) k

  pub different-rest : different (l ∷ ls) ≡ true → different ls ≡ true
  different-rest d = ((and-eq-true_iff (not (is_held l.state && any_holds l.address ls)) (different ls)).0 d).1

  pub different-of : ((a : Address) → holds a l ≡ true → any_holds a ls ≡ true → false ≡ true) → different ls ≡ true → different (l ∷ ls) ≡ true
  different-of f d =
      (and-eq-true_iff (not (is_held l.state && any_holds l.address ls)) (different ls)).1 (
        fails (is_held l.state && any_holds l.address ls)
            (λ h.
            let p = (and-eq-true_iff (is_held l.state) (any_holds l.address ls)).0 h in
            f l.address (holds_at l.address l p.0 refl) p.1),
        d,
      )

pub sound-first : (l : Link) (ls : List Link) → are_all_sound (l ∷ ls) ≡ true → (sound_of l ≡ true) × (are_all_sound ls ≡ true)
sound-first l ls = (and-eq-true_iff (sound_of l) (are_all_sound ls)).0

-- a tick makes no link held at an address at which none was
tick-holds : (k : ℕ) (xs : List Link) (a : Address) → are_all_sound xs ≡ true → any_holds a (places (reacted Event.Tick) k xs) ≡ true → any_holds a xs ≡ true
unfolding places
tick-holds k [] a s h = h
tick-holds k (l ∷ ls) a s h =
    let p = sound-first l ls s in
    let m = reacted Event.Tick k l in
    ⊎_elim (λ (t : holds a m ≡ true). or-first (holds a l) (any_holds a ls) ((tick-keeps l (port_of k) p.0).within a t))
    (λ (t : any_holds a (places (reacted Event.Tick) (suc k) ls) ≡ true).
    or-second (holds a l) (any_holds a ls) (tick-holds (suc k) ls a p.1 t))
    (or_split (holds a m) (any_holds a (places (reacted Event.Tick) (suc k) ls)) h)

-- a tick leaves every link sound
pub tick-sound : (k : ℕ) (xs : List Link) → are_all_sound xs ≡ true → are_all_sound (places (reacted Event.Tick) k xs) ≡ true
unfolding places
tick-sound k [] s = refl
tick-sound k (l ∷ ls) s =
    let p = sound-first l ls s in
    rw (tick-keeps l (port_of k) p.0).sound (tick-sound (suc k) ls p.1)

-- and the held addresses all different
pub tick-different : (k : ℕ) (xs : List Link) → are_all_sound xs ≡ true → different xs ≡ true → different (places (reacted Event.Tick) k xs) ≡ true
unfolding places
tick-different k [] s d = refl
tick-different k (l ∷ ls) s d =
    let p = sound-first l ls s in
    different-of (reacted Event.Tick k l) (places (reacted Event.Tick) (suc k) ls)
    (λ a h t. different-first l ls d a ((tick-keeps l (port_of k) p.0).within a h) (tick-holds (suc k) ls a p.1 t))
    (tick-different (suc k) ls p.1 (different-rest l ls d))
