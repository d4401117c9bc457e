-- Statement: what the promises of `read` and `write` allow.
-- Assumes nothing.
use Prim.Native.Nat.{ℕ}
use mathlib.Core.Path.{◌≡◌}
use mathlib.Core.List.{List}
use borrow.Fn.Kinds.{Dens, ended_of}
use contract.Lifetimes.{Lfts}
use denote.Triple.Clauses.{AtExit}
use Rattle.frame.specs.declared.Message.{Message}
use Rattle.frame.specs.declared.Reading.{Reading}
use Rattle.frame.specs.declared.Writing.{Writing}
use Rattle.frame_reader.proofs.read.Kinds as read-kinds
use Rattle.frame_reader.proofs.read.Reads as read
use Rattle.frame_writer.proofs.write.Kinds as write-kinds
use Rattle.frame_writer.proofs.write.Reads as write

-- r is an answer that the promise of `read` allows to a lent slice of the octets l
pub record Read (l : List ℕ) (r : Reading) : Type 1 where
  pub κs : Lfts 1
  pub args : Dens κs read-kinds.ps
  pub lent : args.0.now ≡ l
  pub exit : AtExit (ended_of 1 read-kinds.ps read-kinds.r) κs
  pub promised : read.Post κs args r exit

-- w is an answer that the promise of `write` allows to the message m
pub record Wrote (m : Message) (w : Writing) : Type 0 where
  pub exit : AtExit (ended_of 0 write-kinds.ps write-kinds.r) tt
  pub promised : write.Post tt (m, tt) w exit
