-- The range test sees to the source of what is heard, the soundness of the head to that of its frames.
-- Assumes nothing.
use mathlib.Core.List.{List, [], ◌∷◌}
use Rattle.frame.specs.declared.Message.{Message}
use Rattle.frame_range.specs.Laws.{message-parts}
use Rattle.head_judging.specs.declared.Call.{Call}
use Rattle.head_laws.specs.Handed.{call-valid, call-frames, call-octets}
use Rattle.head_laws.specs.Refusals.{call-accepted}
use Rattle.head_laws.specs.Sources.{HeardSource, AllIndividual, SentSource}
use Rattle.head_laws.specs.Stated.{AllValid, call_frames}

pub heard-source : HeardSource
unfolding HeardSource
heard-source h xs link m os d = (message-parts m (call-accepted h xs (Call.Hear link m) os d).passed.1.1.1.1.0).1

all-individual : (ms : List Message) → AllValid ms → AllIndividual ms
all-individual [] v = tt
all-individual (m ∷ ms) v = (v.0.source, all-individual ms v.1)

pub sent-source : SentSource
unfolding SentSource
sent-source h xs r os t k =
    record {
      sources = all-individual (call_frames h xs r os) (call-valid h xs r os t k);
      number = call-frames h xs r os t k;
      octets = call-octets h xs r os t k;
    }
