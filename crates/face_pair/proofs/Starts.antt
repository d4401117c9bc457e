-- There are runs to speak of: for every address that a box or a head may have, zeroed memory of the header's sizes makes a fresh one.
-- Assumes nothing.
use Prim.Native.Nat.{ℕ}
use mathlib.Core.Path.{◌≡◌, refl, ap, ◌∙◌}
use mathlib.Core.Bool.{true}
use mathlib.Core.List.{List, []}
use lib.ListN.{length, replicate}
use Rattle.frame.specs.Card.{number_of}
use Rattle.frame.specs.declared.Address.{Address}
use Rattle.frame_range.specs.Fits.{is_individual}
use Rattle.head_survey.specs.Facts.{is_few}
use Rattle.head_calls.specs.Fresh.{Freshly}
use Rattle.head_laws.specs.Fresh.{fresh-done}
use Rattle.face_head.proofs.Laws.{length-links}
use Rattle.face_head.specs.Table.{links_in, links_at}
use Rattle.face_head_calls.specs.Calls as headface
use Rattle.face_box_calls.specs.Calls.{is_lent}
use Rattle.pair_demand.specs.Run.{Moment, Start}
use Rattle.face_pair.specs.Box as box
use Rattle.face_pair.specs.Box.{BoxWords}
use Rattle.face_pair.specs.Head as head
use Rattle.face_pair.specs.Head.{HeadWords}
use Rattle.face_pair.proofs.Box as boxes
use Rattle.face_pair.proofs.Head as heads

abbrev pub blank : List ℕ
blank = replicate 29 0

abbrev pub told : List ℕ
told = replicate 10 0

abbrev pub lent : box.Lent
lent = record { frames = replicate 120 0; reply = replicate 19 0 }

pub enough : is_lent (length blank) (length lent.frames) (length lent.reply) ≡ true
unfolding is_lent
enough = refl

box-starts : (A : Address) → is_individual A ≡ true → (BoxWords A).Fresh (boxes.made A blank lent).block
box-starts A i =
    (blank, lent, boxes.made-number A blank lent enough ∙ ap number_of (boxes.begun-done A i), refl)

-- a head with one link
abbrev zeros : head.Words
zeros = record { head = replicate 5 0; links = replicate 5 0 }

pub room : headface.is_lent (length zeros.head) (length told) ≡ true
unfolding headface.is_lent
room = refl

one : is_few (length (links_at zeros.links)) ≡ true
unfolding is_few links_in
one = rw (length-links (links_in (length zeros.links)) zeros.links)

head-starts : (A a : Address) → is_individual a ≡ true → (HeadWords A).Fresh (head.begun (heads.made A a zeros told)).next
head-starts A a i = (
  a,
  zeros,
  told,
  heads.made-number A a zeros told room ∙ ap (λ (f : Freshly). number_of f.answer.reply) (fresh-done a (links_at zeros.links) one i),
  refl,
)

-- the two together, and nothing on its way
pub starts : (A a : Address) → is_individual A ≡ true → is_individual a ≡ true → (m : Moment (HeadWords A) (BoxWords A)) × Start (HeadWords A) (BoxWords A) m
starts A a i j = (
  record {
    head = (head.begun (heads.made A a zeros told)).next;
    box = (boxes.made A blank lent).block;
    down = [];
    up = [];
  },
  (head-starts A a j, box-starts A i, refl, refl),
)
