-- `face_head::link_in` meets its promise.
-- Assumes nothing.
use Prim.Native.Nat.{ℕ}
use mathlib.Core.Bool.{Bool, cond}
use mathlib.Core.List.{List}
use mathlib.Core.Path.{◌≡◌, ap, ◌∙◌}
use Rattle.head_links.specs.declared.Link.{Link}
use Rattle.face_words.specs.Words.{same}
use Rattle.face_head.specs.Table.{link_words, link_of, five, is_link, no_link, link_in}
use Rattle.face_head.specs.declared.LinkWords.{LinkWords}
use Rattle.face_head.proofs.link_in.Goals as goal

-- the test picks the link
is-in : (w : LinkWords) (l : Link) (u : LinkWords) (p t : List ℕ) (b : Bool) → l ≡ link_of w → u ≡ link_words l → p ≡ five u → t ≡ five w → b ≡ same p t
    → cond b l no_link ≡ link_in w
unfolding link_in is_link
is-in w l u p t b link packed listed told found =
    let is : b ≡ is_link w =
    found ∙ ap (λ (x : List ℕ). same x t) (listed ∙ ap five packed ∙ ap (λ (y : Link). five (link_words y)) link) ∙ ap (same (five (link_words (link_of w)))) told in
    ap (λ (x : Bool). cond x l no_link) is ∙ ap (λ (y : Link). cond (is_link w) y no_link) link

pub returns-then-same : goal.returns-then-same
returns-then-same c =
    rw c.if-same.true at
    (is-in _ _ _ _ _ _ c.link_of-link.ensures c.link_words.ensures c.five.ensures c.five-2.ensures c.same.ensures)

pub returns : goal.returns
returns c =
    c.no_link.ensures
    ∙ rw c.if-same.false at
    (is-in _ _ _ _ _ _ c.link_of-link.ensures c.link_words.ensures c.five.ensures c.five-2.ensures c.same.ensures)
