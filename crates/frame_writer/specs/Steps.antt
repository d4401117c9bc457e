-- Code: the steps in which the writer lays the octets out; `proofs/Page.antt` shows that this is what the page Writing of the crate frame answers.
-- Assumes nothing.
use Rattle.std.specs.Prelude.{ℕ, ◌+◌, List}
use Rattle.octets.specs.Octets.{bytes}
use Rattle.octets.specs.Over.{over}
use Rattle.frame.specs.Layout.{frame_of}
use Rattle.frame.specs.declared.Grant.{Grant}
use Rattle.frame_writer.specs.declared.Header.{Header}

abbrev pub headed : Header → ℕ → List ℕ → List ℕ
headed h opcode body = frame_of h.destination.0 h.source.0 opcode h.timestamp.0 body

abbrev pub grant_over : ℕ → List ℕ → Grant → List ℕ
grant_over a l g = over (a + 4) (over a l (bytes 4 g.start.0)) (bytes 2 g.length.0)
