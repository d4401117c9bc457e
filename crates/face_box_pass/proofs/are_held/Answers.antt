-- `face_box_pass::are_held` meets its promise.
-- Assumes nothing.
use Rattle.std.proofs.Common.{◌≡◌, ◌+◌, ◌∙◌, ap, arith, drop, take}
use Rattle.std.proofs.lemmas.Bool.Decides.{nat_tests}
use Rattle.std.proofs.lemmas.Grind.{common_steps}
use Rattle.face_box.specs.Box.{is_clear}
use Rattle.face_box_pass.proofs.Walks.{behind, held}
use Rattle.face_box_pass.specs.Judging.{are_short, is_among, are_held}
use Rattle.face_box_pass.proofs.are_held.Goals as goal

pub returns-then-phase-ne5 : goal.returns-then-phase-ne5
unfolding are_held
returns-then-phase-ne5 c =
    let clear : c.is_clear.result ≡ is_clear (drop (13 + c.args.number) c.args.b.now) = c.is_clear.ensures ∙ ap is_clear (behind (13 + c.args.number) c.args.b.now c.told-b) in
    let short : c.are_short.result ≡ are_short (drop 13 c.args.b.now) = c.are_short.ensures ∙ ap are_short (behind 13 c.args.b.now c.told-b) in
    grind (arith, nat_tests, common_steps)

pub returns-else-phase-ne5 : goal.returns-else-phase-ne5
unfolding are_held
returns-else-phase-ne5 c =
    let clear : c.is_clear.result ≡ is_clear (drop (13 + c.args.number) c.args.b.now) = c.is_clear.ensures ∙ ap is_clear (behind (13 + c.args.number) c.args.b.now c.told-b) in
    let short : c.are_short.result ≡ are_short (drop 13 c.args.b.now) = c.are_short.ensures ∙ ap are_short (behind 13 c.args.b.now c.told-b) in
    let among : c.is_among.result ≡ is_among c.args.grant (drop 13 (take (13 + c.args.number) c.args.b.now)) = c.is_among.ensures ∙ ap (is_among c.args.grant) (held c.args.number c.args.b.now) in
    grind (arith, nat_tests, common_steps)

pub returns : goal.returns
unfolding are_held
returns c =
    let clear : c.is_clear.result ≡ is_clear (drop (13 + c.args.number) c.args.b.now) = c.is_clear.ensures ∙ ap is_clear (behind (13 + c.args.number) c.args.b.now c.told-b) in
    let short : c.are_short.result ≡ are_short (drop 13 c.args.b.now) = c.are_short.ensures ∙ ap are_short (behind 13 c.args.b.now c.told-b) in
    grind (arith, nat_tests, common_steps)
