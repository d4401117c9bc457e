-- Code: the flags by their numbers, as R42 to R44 have them; a number that is no flag's is out of range (R56).
-- Assumes nothing.
use Rattle.std.specs.Prelude.{ℕ, cond, eqb, Result, Ok, Err}
use Rattle.frame.specs.declared.RegisterReqFlag.{RegisterReqFlag}
use Rattle.frame.specs.declared.RegisterFlag.{RegisterFlag}
use Rattle.frame.specs.declared.RegisterAckFlag.{RegisterAckFlag}
use Rattle.frame.specs.declared.Reply.{Reply}
use Rattle.frame.specs.declared.Reply.TheVariants.{Range}

-- R42
abbrev pub register_req_flag_in : ℕ → Result RegisterReqFlag Reply
register_req_flag_in f =
    cond (eqb f 1) (Ok RegisterReqFlag.Register)
    (cond (eqb f 3) (Ok RegisterReqFlag.Deregister)
    (Err Range))

-- R43
abbrev pub register_flag_in : ℕ → Result RegisterFlag Reply
register_flag_in f =
    cond (eqb f 1) (Ok RegisterFlag.Reregister)
    (cond (eqb f 2) (Ok RegisterFlag.Deregister)
    (cond (eqb f 3) (Ok RegisterFlag.Ack)
    (cond (eqb f 4) (Ok RegisterFlag.Nack)
    (Err Range))))

-- R44
abbrev pub register_ack_flag_in : ℕ → Result RegisterAckFlag Reply
register_ack_flag_in f =
    cond (eqb f 0) (Ok RegisterAckFlag.Nack)
    (cond (eqb f 1) (Ok RegisterAckFlag.Ack)
    (Err Range))
