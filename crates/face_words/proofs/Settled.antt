-- Every promise of this crate settles the whole answer, and what `lay` and `lay_word` leave in the slice.
-- Assumes nothing.
use mathlib.Core.Path.{refl, sym, ◌∙◌}
use Rattle.laws.specs.Settles.{Settles, SettlesLent}
use Rattle.face_words.proofs.bit.Kinds as bit-kinds
use Rattle.face_words.proofs.bit.Reads as bit
use Rattle.face_words.proofs.join.Kinds as join-kinds
use Rattle.face_words.proofs.join.Reads as join
use Rattle.face_words.proofs.lay.Kinds as lay-kinds
use Rattle.face_words.proofs.lay.Reads as lay
use Rattle.face_words.proofs.lay_word.Kinds as lay-word-kinds
use Rattle.face_words.proofs.lay_word.Reads as lay-word
use Rattle.face_words.proofs.lower.Kinds as lower-kinds
use Rattle.face_words.proofs.lower.Reads as lower
use Rattle.face_words.proofs.narrow.Kinds as narrow_kinds
use Rattle.face_words.proofs.narrow.Reads as narrow
use Rattle.face_words.proofs.of_drift.Kinds as of-drift-kinds
use Rattle.face_words.proofs.of_drift.Reads as of-drift
use Rattle.face_words.proofs.same.Kinds as same-kinds
use Rattle.face_words.proofs.same.Reads as same
use Rattle.face_words.proofs.upper.Kinds as upper-kinds
use Rattle.face_words.proofs.upper.Reads as upper

pub lay-settles : SettlesLent 2 lay-kinds.ps lay-kinds.r (λ κs e. e.1.0.now) lay.Post
lay-settles κs a e f x y p q = (refl, p ∙ sym q)

pub lay-word-settles : SettlesLent 1 lay-word-kinds.ps lay-word-kinds.r (λ κs e. e.1.0.now) lay-word.Post
lay-word-settles κs a e f x y p q = (refl, p ∙ sym q)

pub narrow-settles : Settles 0 narrow_kinds.ps narrow_kinds.r narrow.Post
narrow-settles κs a e x y p q = p ∙ sym q

pub join-settles : Settles 0 join-kinds.ps join-kinds.r join.Post
join-settles κs a e x y p q = p ∙ sym q

pub upper-settles : Settles 0 upper-kinds.ps upper-kinds.r upper.Post
upper-settles κs a e x y p q = p ∙ sym q

pub lower-settles : Settles 0 lower-kinds.ps lower-kinds.r lower.Post
lower-settles κs a e x y p q = p ∙ sym q

pub bit-settles : Settles 0 bit-kinds.ps bit-kinds.r bit.Post
bit-settles κs a e x y p q = p ∙ sym q

pub of-drift-settles : Settles 0 of-drift-kinds.ps of-drift-kinds.r of-drift.Post
of-drift-settles κs a e x y p q = p ∙ sym q

pub same-settles : Settles 2 same-kinds.ps same-kinds.r same.Post
same-settles κs a e x y p q = p ∙ sym q
