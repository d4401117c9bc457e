-- `frame_writer::write_report` meets its promise.
-- Assumes nothing.
use Rattle.std.proofs.Common.{◌≡◌, ◌∙◌, append-nil}
use Rattle.frame.specs.Layout.{body_octets}
use Rattle.octets.specs.Octets.{onto}
use Rattle.frame_queues.specs.Laws.{cleared-length, cleared-octets, cut-is, forty-length, forty-octets, forty-sets}
use Rattle.frame_queues.specs.Queues.{used_of, cut_of, forty_of, sets_of}
use Rattle.frame_writer.proofs.write_report.Goals as goal

pub returns : goal.returns
unfolding onto body_octets
returns c =
    let s = c.args.s in
    let o = forty_of s in
    let back : forty_of (sets_of (cut_of o)) ≡ cut_of o =
    forty-sets (cut_of o) (cleared-octets (used_of o) o (forty-octets s)) (cleared-length (used_of o) o ∙ forty-length s) in
    rw (
      c.copy_from_slice.ensures.after,
      c.octets-2.ensures,
      c.cut.ensures,
      c.used-used.ensures,
      c.octets.ensures,
      c.begin-o.ensures,
      back,
      append-nil,
      cut-is o (forty-length s),
    )
