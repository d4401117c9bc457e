-- Every promise of this crate settles the whole answer.
-- Assumes nothing.
use mathlib.Core.Path.{sym, ◌∙◌}
use Rattle.laws.specs.Settles.{Settles}
use Rattle.face_fields.proofs.count_of.Kinds as count-of-kinds
use Rattle.face_fields.proofs.count_of.Reads as count_of
use Rattle.face_fields.proofs.quanta_of.Kinds as quanta-of-kinds
use Rattle.face_fields.proofs.quanta_of.Reads as quanta-of
use Rattle.face_fields.proofs.short_of.Kinds as short-of-kinds
use Rattle.face_fields.proofs.short_of.Reads as short-of
use Rattle.face_fields.proofs.span_of.Kinds as span-of-kinds
use Rattle.face_fields.proofs.span_of.Reads as Span-of
use Rattle.face_fields.proofs.span_word.Kinds as span-word-kinds
use Rattle.face_fields.proofs.span_word.Reads as span-word
use Rattle.face_fields.proofs.timer_of.Kinds as timer-of-kinds
use Rattle.face_fields.proofs.timer_of.Reads as timer-of

pub short-of-settles : Settles 0 short-of-kinds.ps short-of-kinds.r short-of.Post
short-of-settles κs a e x y p q = p ∙ sym q

pub count-of-settles : Settles 0 count-of-kinds.ps count-of-kinds.r count_of.Post
count-of-settles κs a e x y p q = p ∙ sym q

pub quanta-of-settles : Settles 0 quanta-of-kinds.ps quanta-of-kinds.r quanta-of.Post
quanta-of-settles κs a e x y p q = p ∙ sym q

pub timer-of-settles : Settles 0 timer-of-kinds.ps timer-of-kinds.r timer-of.Post
timer-of-settles κs a e x y p q = p ∙ sym q

pub span-word-settles : Settles 0 span-word-kinds.ps span-word-kinds.r span-word.Post
span-word-settles κs a e x y p q = p ∙ sym q

pub span-of-settles : Settles 0 span-of-kinds.ps span-of-kinds.r Span-of.Post
span-of-settles κs a e x y p q = p ∙ sym q
