-- Statement: the box with the address A as an end of the pair, over the definitions that its promises cite.
-- Assumes nothing.
use Rattle.std.specs.Prelude.{ℕ, zero, suc, ◌≡◌, List, [], ◌∷◌}
use Rattle.std.proofs.Math.Option.{Option, none, some}
use Rattle.frame_queues.specs.Queues.{SetsTyped}
use Rattle.frame_queues.specs.declared.Sets.{Sets}
use Rattle.frame.specs.Card.{number_of}
use Rattle.frame.specs.declared.Address.{Address}
use Rattle.frame.specs.declared.Message.{Message}
use Rattle.frame.specs.declared.Reply.TheVariants.{Done}
use Rattle.box_registration.specs.declared.State.{State}
use Rattle.box_registration.specs.declared.State.TheVariants.{RegisterReq, Registered}
use Rattle.box_telling.specs.declared.Frames.{Frames}
use Rattle.box_calls.specs.Box.{fresh_of, register_of, deregister_of, report_of, tick_of}
use Rattle.box_calls.specs.Hear.{hear_of}
use Rattle.box_calls.specs.declared.Answer as box
use Rattle.box_calls.specs.declared.FloorBox.{FloorBox}
use Rattle.pair_wire.specs.Message.{message_in}
use Rattle.pair_demand.specs.Run.{Answer, End}

-- what the client asks
pub data Request : Type 0 where
  register deregister : Request
  report : Sets → Request

abbrev pub asked : Request → FloorBox → box.Answer
asked register b = register_of b
asked deregister b = deregister_of b
asked (report sets) b = report_of sets b

-- what the types of the code's numbers see to
abbrev pub Fair : Request → Type 0
Fair register = Unit {0}
Fair deregister = Unit {0}
Fair (report sets) = SetsTyped sets

-- the frames that go with a reply: none, the first, or both
abbrev pub frames_in : ℕ → Frames → List (List ℕ)
frames_in zero f = []
frames_in (suc zero) f = f.first ∷ []
frames_in (suc (suc n)) f = f.first ∷ f.second ∷ []

abbrev pub told : box.Answer → Answer FloorBox (List ℕ)
told a = record { reply = number_of a.reply; next = a.next; sent = frames_in a.frames.number a.frames }

abbrev pub state_of : FloorBox → State
state_of b = b.processes.registration.state

-- a box that does this with a message
module _ (hears : FloorBox → Message → ℕ → box.Answer) where
  -- octets that the reader refuses never reach it
  abbrev pub heard_in : Option Message → FloorBox → ℕ → Answer FloorBox (List ℕ)
  heard_in none b random = record { reply = 1; next = b; sent = [] }
  heard_in (some m) b random = told (hears b m random)

  abbrev pub EndThat : Address → End (List ℕ) (List ℕ)
  EndThat A =
      record {
        State = FloorBox;
        Call = Request;
        -- the random number that is handed in with a message
        Via = ℕ;
        Lent = Unit {0};
        Place = Unit {0};
        Fresh = λ b. ((fresh_of A).reply ≡ Done) × (b ≡ (fresh_of A).next);
        Fair = Fair;
        call = λ b c. told (asked c b);
        hear = λ b random os. heard_in (message_in os) b random;
        tick = λ b l. told (tick_of b);
        Held = λ b p. state_of b ≡ Registered;
        Registered = λ b p. state_of b ≡ Registered;
        Waiting = λ b p. state_of b ≡ RegisterReq;
      }

-- the floor box
abbrev pub BoxEnd : Address → End (List ℕ) (List ℕ)
BoxEnd A = EndThat hear_of A
