-- Every promise of this crate settles the whole answer, and what `tell` leaves in the slice.
-- Assumes nothing.
use mathlib.Core.Path.{refl, sym, ◌∙◌}
use Rattle.laws.specs.Settles.{Settles, SettlesLent}
use Rattle.face_box.proofs.front_words.Kinds as front-words-kinds
use Rattle.face_box.proofs.front_words.Reads as front-words
use Rattle.face_box.proofs.front_of.Kinds as front-of-kinds
use Rattle.face_box.proofs.front_of.Reads as front_of
use Rattle.face_box.proofs.entries_in.Kinds as entries-in-kinds
use Rattle.face_box.proofs.entries_in.Reads as entries-in
use Rattle.face_box.proofs.pack.Kinds as pack-kinds
use Rattle.face_box.proofs.pack.Reads as pack
use Rattle.face_box.proofs.unpack.Kinds as unpack-kinds
use Rattle.face_box.proofs.unpack.Reads as unpack
use Rattle.face_box.proofs.has_words.Kinds as has-words-kinds
use Rattle.face_box.proofs.has_words.Reads as has_words
use Rattle.face_box.proofs.is_clear.Kinds as is-clear-kinds
use Rattle.face_box.proofs.is_clear.Reads as is-clear
use Rattle.face_box.proofs.tell.Kinds as tell-kinds
use Rattle.face_box.proofs.tell.Reads as tell

pub front-words-settles : Settles 0 front-words-kinds.ps front-words-kinds.r front-words.Post
front-words-settles κs a e x y p q = p ∙ sym q

pub front-of-settles : Settles 0 front-of-kinds.ps front-of-kinds.r front_of.Post
front-of-settles κs a e x y p q = p ∙ sym q

pub entries-in-settles : Settles 0 entries-in-kinds.ps entries-in-kinds.r entries-in.Post
entries-in-settles κs a e x y p q = p ∙ sym q

pub pack-settles : Settles 0 pack-kinds.ps pack-kinds.r pack.Post
pack-settles κs a e x y p q = p ∙ sym q

pub unpack-settles : Settles 0 unpack-kinds.ps unpack-kinds.r unpack.Post
unpack-settles κs a e x y p q = p ∙ sym q

pub has-words-settles : Settles 0 has-words-kinds.ps has-words-kinds.r has_words.Post
has-words-settles κs a e x y p q = p ∙ sym q

pub is-clear-settles : Settles 1 is-clear-kinds.ps is-clear-kinds.r is-clear.Post
is-clear-settles κs a e x y p q = p ∙ sym q

pub tell-settles : SettlesLent 1 tell-kinds.ps tell-kinds.r (λ κs e. e.1.1.1.0.now) tell.Post
tell-settles κs a e f x y p q = (refl, p ∙ sym q)
