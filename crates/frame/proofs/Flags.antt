-- A flag is read from its number (R42 to R44), and from no other.
-- Assumes nothing.
use Rattle.std.specs.Prelude.{ℕ, ◌≡◌, refl, Ok}
use Rattle.std.proofs.Common.{arith}
use Rattle.std.proofs.lemmas.Bool.Decides.{nat_tests}
use Rattle.std.proofs.lemmas.Grind.{common_steps}
use Rattle.frame.specs.Flags.{register_req_flag_in, register_flag_in, register_ack_flag_in}
use Rattle.frame.specs.Layout.{register_req_flag, register_flag, register_ack_flag}
use Rattle.frame.specs.declared.RegisterReqFlag.{RegisterReqFlag}
use Rattle.frame.specs.declared.RegisterFlag.{RegisterFlag}
use Rattle.frame.specs.declared.RegisterAckFlag.{RegisterAckFlag}

pub register-req-read : (f : RegisterReqFlag) → register_req_flag_in (register_req_flag f) ≡ Ok f
register-req-read RegisterReqFlag.Register = refl
register-req-read RegisterReqFlag.Deregister = refl

pub register-req-only : (n : ℕ) (f : RegisterReqFlag) → register_req_flag_in n ≡ Ok f → n ≡ register_req_flag f
register-req-only n RegisterReqFlag.Register e = grind (arith, nat_tests, common_steps)
register-req-only n RegisterReqFlag.Deregister e = grind (arith, nat_tests, common_steps)

pub register-read : (f : RegisterFlag) → register_flag_in (register_flag f) ≡ Ok f
register-read RegisterFlag.Reregister = refl
register-read RegisterFlag.Deregister = refl
register-read RegisterFlag.Ack = refl
register-read RegisterFlag.Nack = refl

pub register-only : (n : ℕ) (f : RegisterFlag) → register_flag_in n ≡ Ok f → n ≡ register_flag f
register-only n RegisterFlag.Reregister e = grind (arith, nat_tests, common_steps)
register-only n RegisterFlag.Deregister e = grind (arith, nat_tests, common_steps)
register-only n RegisterFlag.Ack e = grind (arith, nat_tests, common_steps)
register-only n RegisterFlag.Nack e = grind (arith, nat_tests, common_steps)

pub register-ack-read : (f : RegisterAckFlag) → register_ack_flag_in (register_ack_flag f) ≡ Ok f
register-ack-read RegisterAckFlag.Nack = refl
register-ack-read RegisterAckFlag.Ack = refl

pub register-ack-only : (n : ℕ) (f : RegisterAckFlag) → register_ack_flag_in n ≡ Ok f → n ≡ register_ack_flag f
register-ack-only n RegisterAckFlag.Nack e = grind (arith, nat_tests, common_steps)
register-ack-only n RegisterAckFlag.Ack e = grind (arith, nat_tests, common_steps)
