-- The box of floor 31: a discovery GATE that finds it in REGISTERED leaves it there with a full watchdog. Its ticks are the floor box's.
-- Assumes nothing.
use Prim.Native.Nat.{ℕ}
use mathlib.Core.Path.{◌≡◌, refl, ap, ◌∙◌}
use mathlib.Core.Bool.{true, false, ◌&&◌, or-true}
use mathlib.Core.List.{List}
use mathlib.Core.Option.{some}
use borrow.Author.Tests.{eq-eqb}
use lib.Dec.{eqb}
use Rattle.clock.specs.Numbers.{watchdog}
use Rattle.clock.specs.declared.Quanta.{Quanta}
use Rattle.frame.specs.declared.Address.{Address}
use Rattle.frame.specs.declared.Body.TheVariants.{Discovery}
use Rattle.frame.specs.declared.Grant.{Grant}
use Rattle.frame.specs.declared.Message.{Message}
use Rattle.frame.specs.declared.Reply.TheVariants.{Done}
use Rattle.box_registration.specs.Laws.{heard-keeps}
use Rattle.box_registration.specs.Registration.{heard, is_registered}
use Rattle.box_registration.specs.declared.Registration.{Registration}
use Rattle.box_registration.specs.declared.State.TheVariants.{Registered}
use Rattle.box_calls.specs.Answer.{accepted}
use Rattle.box_calls.specs.Hear.{is_discovery, is_for, hear_of}
use Rattle.box_calls.specs.declared.Answer.{Answer}
use Rattle.box_calls.specs.declared.FloorBox.{FloorBox}
use Rattle.box_laws.specs.Stated.{hear}
use Rattle.box_laws.specs.Sound.{renewed}
use Rattle.box_laws.specs.Watchdog.{discovery-keeps}
use Rattle.pair_wire.specs.Carried.{carries-valid}
use Rattle.pair_wire.specs.Message.{message_in}
use Rattle.pair_box.specs.End.{state_of}
use Rattle.pair_box.specs.Spoiled.{restarted, spoiled_hear, SpoiledEnd}
use Rattle.pair_box.proofs.Accepted.{hear-accepted}
use Rattle.pair_box.proofs.Calls.{next-registration}
use Rattle.pair_box.proofs.Exact.{RegisteredFor}
use Rattle.pair_box.proofs.Gauge.{Ok}
use Rattle.pair_box.proofs.Laws.{box_laws}

-- any other message, and any other state, finds the floor box
pub spoiled-else : (b : FloorBox) (m : Message) (random : ℕ) → (is_discovery m.body && is_registered (state_of b)) ≡ false
    → spoiled_hear b m random ≡ hear_of b m random
unfolding spoiled_hear
spoiled-else b m random e = rw e

spoiled-next : (b : FloorBox) (m : Message) (random : ℕ) → is_discovery m.body ≡ true → is_registered (state_of b) ≡ true
    → (hear_of b m random).reply ≡ Done → (spoiled_hear b m random).next ≡ restarted (hear_of b m random).next
unfolding spoiled_hear
spoiled-next b m random d i r = rw (d, i, r)

module _ (A : Address) where
  -- setting the watchdog keeps what holds of a reached box
  restarted-for : (b : FloorBox) → Ok A b → state_of b ≡ Registered → RegisteredFor A watchdog (restarted b)
  restarted-for b o e =
      let p = b.processes in
      let s = o.holds.processes in
      record {
        ok =
            record {
              address = o.address;
              holds =
                  record {
                    address = o.holds.address;
                    processes =
                        record {
                          sound = renewed p s.sound (heard p.registration) (heard-keeps p.registration (rw e) s.sound.registration) refl;
                          awaited = s.awaited;
                        };
                  };
              count = o.count;
            };
        state = e;
        left = refl;
      }

  -- octets that carry the head's call for newcomers
  pub discovery-restarts : (b : FloorBox) (n random : ℕ) (os : List ℕ) (m : Message) (grant : Grant) (sync : Quanta) → message_in os ≡ some m
      → m.body ≡ Discovery grant sync → m.destination.0 ≡ 0x0180C2000001 → RegisteredFor A n b
      → RegisteredFor A watchdog ((SpoiledEnd A).hear b random os).next
  unfolding is_for accepted
  discovery-restarts b n random os m grant sync e g d w =
      let all = eq-eqb m.destination.0 0x0180C2000001 d in
      let meant = or-true (eqb m.destination.0 b.address.0) in
      let a = hear-accepted b w.ok.holds m random (carries-valid os m e) (rw g) (rw (g, all) meant) in
      let r : (hear_of b m random).next.processes.registration ≡ b.processes.registration =
      next-registration (hear m random) b a ∙ rw g (discovery-keeps _ grant sync _ random) in
      let again = spoiled-next b m random (rw g) (rw w.state) (ap (λ (x : Answer). x.reply) a) in
      let o : Ok A (hear_of b m random).next = rw e at ((box_laws A).of-hear b random os w.ok).ok in
      rw (e, again) (restarted-for (hear_of b m random).next o (ap (λ (t : Registration). t.state) r ∙ w.state))
