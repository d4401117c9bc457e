-- `face_head_calls::clear_all` meets its promise.
-- Assumes nothing.
use Rattle.std.proofs.Common.{ap, ◌∙◌, List, take, replicate}
use Rattle.head_links.specs.declared.Link.{Link}
use Rattle.face_head_calls.specs.Lend.{clear_of}
use Rattle.face_head_calls.proofs.Words.{take-idle}
use Rattle.face_head_calls.proofs.clear_all.Goals as goal

pub returns : goal.returns
returns c =
    c.clear.ensures
    ∙ ap (λ (xs : List Link). clear_of c.args.address c.args.words.now xs)
    (ap (λ (l : Link). take c.args.n (replicate 64 l)) c.idle-table.ensures ∙ take-idle c.args.n 64 c.requires)
