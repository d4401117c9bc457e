-- `crustnewt::crustnewt_head_gate` meets its promise.
-- Assumes nothing.
use Rattle.crustnewt.proofs.crustnewt_head_gate.Goals as goal

pub returns : goal.returns
returns c =
    rw (
      c.served.ensures,
      c.asked-asked.ensures,
    )
