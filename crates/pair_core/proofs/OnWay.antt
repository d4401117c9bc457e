-- Frames on their way: one of this age that carries such a message, as ticks pass and other frames are handed out.
-- Assumes nothing.
use Prim.Native.Nat.{ℕ, suc}
use mathlib.Core.Path.{◌≡◌, refl, sym, ap, subst}
use mathlib.Core.List.{List, [], ◌∷◌, ◌++◌, map, Memᴰ}
use mathlib.Core.Option.{some}
use Rattle.frame.specs.Layout.{encode}
use Rattle.frame.specs.Range.{Valid}
use Rattle.frame.specs.declared.Message.{Message}
use Rattle.pair_wire.specs.Carried.{carries-back}
use Rattle.pair_wire.specs.Message.{message_in}
use Rattle.pair_demand.specs.Run.{Aged, stamp, olden}

module _ {F : Type 0} where
  behind : (x : F) (l r : List F) → Memᴰ x r → Memᴰ x (l ++ r)
  behind x [] r m = m
  behind x (y ∷ l) r m = Memᴰ.tail (behind x l r m)

  stamped : (f : F) (fs : List F) (l : List (Aged F)) → Memᴰ f fs → Memᴰ (stamp f) (map stamp fs ++ l)
  stamped f [] l m = elim m [ ]
  stamped f (g ∷ fs) l (Memᴰ.head e) = Memᴰ.head (ap stamp e)
  stamped f (g ∷ fs) l (Memᴰ.tail m) = Memᴰ.tail (stamped f fs l m)

  oldened : (x : Aged F) (l : List (Aged F)) → Memᴰ x l → Memᴰ (olden x) (map olden l)
  oldened x [] m = elim m [ ]
  oldened x (y ∷ l) (Memᴰ.head e) = Memᴰ.head (ap olden e)
  oldened x (y ∷ l) (Memᴰ.tail m) = Memᴰ.tail (oldened x l m)

-- the only frame that was handed out
pub only : {f : List ℕ} {fs : List (List ℕ)} → fs ≡ f ∷ [] → Memᴰ f fs
only {f} e = subst (λ (l : List (List ℕ)). Memᴰ f l) (sym e) (Memᴰ.head refl)

module _ (Is : Message → Type 0) where
  pub record OnWay (age : ℕ) (l : List (Aged (List ℕ))) : Type 0 where
    pub octets : List ℕ
    pub message : Message
    pub carries : message_in octets ≡ some message
    pub is : Is message
    pub among : Memᴰ (record { frame = octets; age = age }) l

  -- it was just handed out
  pub sent-on : (m : Message) → Valid m → Is m → (fs : List (List ℕ)) (l : List (Aged (List ℕ))) → Memᴰ (encode m) fs
      → OnWay 0 (map stamp fs ++ l)
  sent-on m v i fs l h =
      record { octets = encode m; message = m; carries = carries-back m v; is = i; among = stamped (encode m) fs l h }

  module _ (fs : List (List ℕ)) {age : ℕ} {l : List (Aged (List ℕ))} (w : OnWay age l) where
    -- others were handed out after it
    pub stays_on : OnWay age (map stamp fs ++ l)
    stays_on =
        record {
          octets = w.octets;
          message = w.message;
          carries = w.carries;
          is = w.is;
          among = behind (record { frame = w.octets; age = age }) (map stamp fs) l w.among;
        }

    -- a tick later
    pub ticks-on : OnWay (suc age) (map stamp fs ++ map olden l)
    ticks-on =
        let x : Aged (List ℕ) = record { frame = w.octets; age = age } in
        record {
          octets = w.octets;
          message = w.message;
          carries = w.carries;
          is = w.is;
          among = behind (olden x) (map stamp fs) (map olden l) (oldened x l w.among);
        }
