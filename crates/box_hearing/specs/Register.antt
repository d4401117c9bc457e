-- Rules R114 to R119: REGISTER, in each state and for each flag.
-- Assumes nothing.
use Rattle.std.specs.Prelude.{None, Some, ℕ, true, [], ◌∷◌}
use Rattle.clock.specs.declared.Quanta.{Quanta}
use Rattle.frame_queues.specs.Queues.{no_sets}
use Rattle.frame.specs.declared.Body.TheVariants.{Report, RegisterAck}
use Rattle.frame.specs.declared.RegisterAckFlag.{RegisterAckFlag}
use Rattle.frame.specs.declared.RegisterFlag.{RegisterFlag}
use Rattle.frame.specs.declared.RegisterFlag.TheVariants.{Reregister, Deregister, Ack, Nack}
use Rattle.box_registration.specs.Registration.{registered}
use Rattle.box_registration.specs.declared.State.{State}
use Rattle.box_registration.specs.declared.State.TheVariants.{Wait, Registering, RegisterReq, Registered}
use Rattle.box_telling.specs.Told.{notices_of}
use Rattle.box_telling.specs.declared.Notice.{Notice}
use Rattle.box_processes.specs.Parts.{with_registration, waiting, still}
use Rattle.box_processes.specs.declared.Processes.{Processes}
use Rattle.box_processes.specs.declared.Step.{Step}

-- R114, R116
abbrev pub admitted : Processes → ℕ → Quanta → Step
admitted p port sync =
    record {
      ok = true;
      next = with_registration p (registered port sync);
      notices = notices_of (Notice.Registered ∷ []);
      first = Some (RegisterAck RegisterAckFlag.Ack port sync);
      second = Some (Report no_sets);
    }

-- R115, R116
abbrev pub rejected : Processes → ℕ → Quanta → Step
rejected p port sync =
    record {
      ok = true;
      next = waiting p;
      notices = notices_of (Notice.Refused ∷ []);
      first = Some (RegisterAck RegisterAckFlag.Nack port sync);
      second = None;
    }

-- R118
abbrev pub left : Processes → Step
left p =
    record { ok = true; next = waiting p; notices = notices_of (Notice.Deregistered ∷ []); first = None; second = None }

-- in REGISTER_REQ: R114, R115, R119
abbrev pub asked : RegisterFlag → Processes → ℕ → Quanta → Step
asked Ack p port sync = admitted p port sync
asked Nack p port sync = rejected p port sync
asked Reregister p port sync = still p
asked Deregister p port sync = still p

-- in REGISTERED: R117 to R119
abbrev pub held : RegisterFlag → Processes → ℕ → Quanta → Step
held Reregister p port sync = admitted p port sync
held Deregister p port sync = left p
held Ack p port sync = still p
held Nack p port sync = still p

-- in WAIT and REGISTERING: R119
abbrev pub register_of : State → RegisterFlag → Processes → ℕ → Quanta → Step
register_of RegisterReq flag p port sync = asked flag p port sync
register_of Registered flag p port sync = held flag p port sync
register_of Wait flag p port sync = still p
register_of Registering flag p port sync = still p
