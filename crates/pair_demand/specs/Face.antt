-- Statement: an end whose state is kept in another form, as words in a caller's memory: what its states stand for.
-- Assumes nothing.
use Rattle.pair_demand.specs.Run.{Answer, End}

pub record Face {In Out : Type 0} (E : End In Out) : Type 1 where
  pub State : Type 0
  pub Call : Type 0
  pub Via : Type 0
  pub Lent : Type 0
  -- the given end's state that one stands for
  pub stands : State → E.State
  pub Fresh : State → Type 0
  pub Fair : Call → Type 0
  pub call : State → Call → Answer State Out
  pub hear : State → Via → In → Answer State Out
  pub tick : State → Lent → Answer State Out
  -- how the state itself tells them
  pub Held : State → E.Place → Type 0
  pub Registered : State → E.Place → Type 0
  pub Waiting : State → E.Place → Type 0

-- the end that it is
abbrev pub through : {In Out : Type 0} {E : End In Out} → Face E → End In Out
through {In} {Out} {E} F =
    record {
      State = F.State;
      Call = F.Call;
      Via = F.Via;
      Lent = F.Lent;
      Place = E.Place;
      Fresh = F.Fresh;
      Fair = F.Fair;
      call = F.call;
      hear = F.hear;
      tick = F.tick;
      Held = F.Held;
      Registered = F.Registered;
      Waiting = F.Waiting;
    }
