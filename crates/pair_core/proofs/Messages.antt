-- The messages by which head and box become a pair: REGISTER ack, REGISTER_ACK 1, the GATE and the REPORT that follow; each has a frame.
-- Assumes nothing.
use Prim.Native.Nat.{◌^◌, ◌<◌}
use mathlib.Core.Path.{◌≡◌}
use mathlib.Core.Bool.{true}
use native.Mathlib.Omega.{arith}
use Rattle.clock.specs.declared.Count.{Count}
use Rattle.frame_queues.specs.Queues.{no_sets}
use Rattle.frame.specs.Range.{BodyFits, Valid}
use Rattle.frame.specs.declared.Address.{Address}
use Rattle.frame.specs.declared.Body.{Body}
use Rattle.frame.specs.declared.Body.TheVariants.{Gate, Discovery, Report, Register, RegisterAck}
use Rattle.frame.specs.declared.Grants.TheVariants.{None}
use Rattle.frame.specs.declared.Message.{Message}
use Rattle.frame.specs.declared.RegisterAckFlag.{RegisterAckFlag}
use Rattle.frame.specs.declared.RegisterFlag.{RegisterFlag}
use Rattle.frame_range.specs.Fits.{is_individual}
use Rattle.frame_range.specs.Laws.{individual-parts}
use Rattle.box_calls.specs.Answer as box
use Rattle.head_table.specs.Output.{message_of}
use Rattle.head_laws.specs.Stated.{from}
use Rattle.head_laws.specs.Runs.{run_sound, run-count}
use Rattle.head_laws.specs.Window.{head-parts}
use Rattle.pair_head.specs.End.{HeadState}
use Rattle.pair_head.proofs.Ready.{Ready}
use Rattle.pair_core.proofs.OneLink.{out}
use Rattle.pair_core.proofs.Quiet.{grant_at, sync, discovery}

-- the head's call for newcomers
abbrev pub IsCall : Count → Message → Type 0
IsCall start m = (m.body ≡ Discovery (grant_at start) sync) × (m.destination.0 ≡ 0x0180C2000001)

-- a message of the head that is ready
head-valid : (to : Address) → to.0 < 2 ^ 48 → (body : Body) → BodyFits body → (s : HeadState) → Ready out s
    → Valid (message_of (from s.head) to body)
head-valid to k body f s y =
    record {
      destination = k;
      source = (head-parts s.head (run_sound y.ok).head).0;
      timestamp = run-count y.ok;
      body = f;
    }

pub call-valid : (start : Count) → start.0 < 2 ^ 32 → (s : HeadState) → Ready out s → Valid (discovery start s.head)
call-valid start k s y =
    head-valid (record { 0 = 0x0180C2000001 }) (omega arith) (Discovery (grant_at start) sync) ((k, omega arith), omega arith) s y

module _ (A : Address) where
  abbrev pub ToBox : Body → Message → Type 0
  ToBox body m = (m.body ≡ body) × (m.destination.0 ≡ A.0)

  abbrev pub OfBox : Body → Message → Type 0
  OfBox body m = (m.body ≡ body) × (m.source ≡ A) × (m.destination ≡ record { 0 = 0x0180C2000001 })

  abbrev pub IsOffer : Message → Type 0
  IsOffer = ToBox (Register 1 RegisterFlag.Ack sync 0)

  abbrev pub IsAccept : Message → Type 0
  IsAccept = OfBox (RegisterAck RegisterAckFlag.Ack 1 sync)

  abbrev pub IsGate : Message → Type 0
  IsGate = ToBox (Gate None)

  abbrev pub IsReport : Message → Type 0
  IsReport = OfBox (Report no_sets)

  module _ (i : is_individual A ≡ true) (body : Body) (f : BodyFits body) where
    pub to-box-valid : (s : HeadState) → Ready out s → Valid (message_of (from s.head) A body)
    to-box-valid s y = head-valid A (individual-parts A.0 i).0 body f s y

    pub of-box-valid : (t : Count) → t.0 < 2 ^ 32 → Valid (box.message_of A t body)
    of-box-valid t k = record { destination = omega arith; source = i; timestamp = k; body = f }
