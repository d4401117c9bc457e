-- Every promise of this crate settles the whole answer.
-- Assumes nothing.
use mathlib.Core.Path.{sym, ◌∙◌}
use Rattle.laws.specs.Settles.{Settles}
use Rattle.box_telling.proofs.Notices.none.Kinds as no-notices-kinds
use Rattle.box_telling.proofs.Notices.none.Reads as no-notices
use Rattle.box_telling.proofs.Notices.and.Kinds as notices-and-kinds
use Rattle.box_telling.proofs.Notices.and.Reads as notices-and
use Rattle.box_telling.proofs.Frames.none.Kinds as no-frames-kinds
use Rattle.box_telling.proofs.Frames.none.Reads as no_frames
use Rattle.box_telling.proofs.Frames.and.Kinds as frames-and-kinds
use Rattle.box_telling.proofs.Frames.and.Reads as frames-and
use Rattle.box_telling.proofs.Notice.is_nothing.Kinds as is-nothing-kinds
use Rattle.box_telling.proofs.Notice.is_nothing.Reads as is-nothing-reads

pub no-notices-settles : Settles 0 no-notices-kinds.ps no-notices-kinds.r no-notices.Post
no-notices-settles κs a e x y p q = p ∙ sym q

pub notices-and-settles : Settles 0 notices-and-kinds.ps notices-and-kinds.r notices-and.Post
notices-and-settles κs a e x y p q = p ∙ sym q

pub no-frames-settles : Settles 0 no-frames-kinds.ps no-frames-kinds.r no_frames.Post
no-frames-settles κs a e x y p q = p ∙ sym q

pub frames-and-settles : Settles 0 frames-and-kinds.ps frames-and-kinds.r frames-and.Post
frames-and-settles κs a e x y p q = p ∙ sym q

pub is-nothing-settles : Settles 0 is-nothing-kinds.ps is-nothing-kinds.r is-nothing-reads.Post
is-nothing-settles κs a e x y p q = p ∙ sym q
