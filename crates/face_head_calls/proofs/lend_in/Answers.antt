-- `face_head_calls::lend_in` meets its promise.
-- Assumes nothing.
use Rattle.std.proofs.Common.{ap, ◌∙◌, List, take, replicate}
use Rattle.head_links.specs.declared.Link.{Link}
use Rattle.face_head_calls.specs.Lend.{lend_of}
use Rattle.face_head_calls.proofs.Words.{take-idle}
use Rattle.face_head_calls.proofs.lend_in.Goals as goal

pub returns : goal.returns
returns g c =
    c.lend.ensures
    ∙ ap (λ (xs : List Link). lend_of c.args.head c.args.words.now xs c.args.call c.args.out.now)
    (ap (λ (l : Link). take c.args.n (replicate g.row.N l)) c.idle-table.ensures ∙ take-idle c.args.n g.row.N c.requires.0)
