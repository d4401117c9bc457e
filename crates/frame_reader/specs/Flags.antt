-- Rules R37, R42 to R44: as many grants as are said, and the flags by their numbers.
-- Assumes nothing.
use Rattle.std.specs.Prelude.{ℕ, cond, List, [], ◌∷◌, eqb}
use Rattle.frame.specs.declared.Grant.{Grant}
use Rattle.frame.specs.declared.Grants.{Grants}
use Rattle.frame.specs.declared.Grants.TheVariants.{None, One, Two, Three, Four}
use Rattle.frame.specs.declared.RegisterReqFlag.{RegisterReqFlag}
use Rattle.frame.specs.declared.RegisterFlag.{RegisterFlag}
use Rattle.frame.specs.declared.RegisterAckFlag.{RegisterAckFlag}

-- at most four grants
abbrev pub few : List Grant → Grants
few [] = None
few (a ∷ []) = One a
few (a ∷ b ∷ []) = Two a b
few (a ∷ b ∷ c ∷ []) = Three a b c
few (a ∷ b ∷ c ∷ d ∷ _) = Four a b c d

-- the flags, of numbers in range
unfoldable pub register_req_flag_of : ℕ → RegisterReqFlag
register_req_flag_of f = cond (eqb f 1) RegisterReqFlag.Register RegisterReqFlag.Deregister

unfoldable pub register_flag_of : ℕ → RegisterFlag
register_flag_of f =
    cond (eqb f 1) RegisterFlag.Reregister
    (cond (eqb f 2) RegisterFlag.Deregister
    (cond (eqb f 3) RegisterFlag.Ack
    RegisterFlag.Nack))

unfoldable pub register_ack_flag_of : ℕ → RegisterAckFlag
register_ack_flag_of f = cond (eqb f 0) RegisterAckFlag.Nack RegisterAckFlag.Ack
