-- Statement: the box of floor 31 (R219): its watchdog is restarted by a discovery GATE.
-- Assumes nothing.
use Rattle.std.specs.Prelude.{ℕ, cond, ◌&&◌, List, eqb}
use Rattle.frame.specs.Card.{number_of}
use Rattle.frame.specs.declared.Address.{Address}
use Rattle.frame.specs.declared.Message.{Message}
use Rattle.box_registration.specs.Registration.{heard, is_registered}
use Rattle.box_processes.specs.Parts.{with_registration}
use Rattle.box_calls.specs.Hear.{is_discovery, hear_of}
use Rattle.box_calls.specs.declared.Answer.{Answer}
use Rattle.box_calls.specs.declared.FloorBox.{FloorBox}
use Rattle.pair_demand.specs.Run.{End}
use Rattle.pair_box.specs.End.{state_of, EndThat}

-- with a watchdog of 62,500,000, as after a normal GATE
abbrev pub restarted : FloorBox → FloorBox
restarted b = record { address = b.address; processes = with_registration b.processes (heard b.processes.registration) }

-- it hears as the floor box does, and takes an accepted discovery GATE as proof that all is well
unfoldable pub spoiled_hear : FloorBox → Message → ℕ → Answer
spoiled_hear b m random =
    let a = hear_of b m random in
    cond (is_discovery m.body && is_registered (state_of b) && eqb (number_of a.reply) 0)
    (record { reply = a.reply; drift = a.drift; next = restarted a.next; frames = a.frames; notices = a.notices })
    a

abbrev pub SpoiledEnd : Address → End (List ℕ) (List ℕ)
SpoiledEnd A = EndThat spoiled_hear A
