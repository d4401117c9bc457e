-- A head or a link that is packed into words and unpacked is the same, whatever it holds, as long as each number fits its type; and so is a
-- table of links.
-- Assumes nothing.
use Prim.Native.Nat.{ℕ}
use mathlib.Core.Path.{◌≡◌, refl, ap, ◌∙◌}
use mathlib.Core.Bool.{Bool, true, cond}
use mathlib.Core.List.{List, [], ◌∷◌, ◌++◌}
use lib.ListN.{length}
use Rattle.head_state.specs.declared.Head.{Head}
use Rattle.head_state.specs.declared.Window.{Window}
use Rattle.head_state.specs.declared.Window.TheVariants.{Idle, Before, Inside}
use Rattle.face_head.specs.Head.{window_words, window_of, head_words, head_of, is_head, nobody, head_in}
use Rattle.face_head.specs.Table.{state_word, state_of, link_words, link_of, five, is_link, no_link, link_in, table_words, links_of}
use Rattle.head_links.specs.declared.Link.{Link}
use Rattle.head_links.specs.declared.State.{State}
use Rattle.head_links.specs.declared.State.TheVariants as Of
use Rattle.face_words.specs.Laws.{same_self}
use Rattle.face_words.specs.Words.{same}
use Rattle.face_laws.specs.Head.{WindowFits, HeadFits, LinkFits, LinksFit}
use Rattle.face_laws.proofs.RoundTrip.{narrow-is, timer-back, quanta-back}

window-back : (w : Window) → WindowFits w → window_of (window_words w) ≡ w
unfolding window_of
window-back Idle h = refl
window-back (Before t n) h = rw (timer-back t h.0, quanta-back n h.1)
window-back (Inside t) h = rw (timer-back t h)

told_back : (h : Head) → HeadFits h → head_of (head_words h) ≡ h
unfolding head_of head_words
told_back h f = rw (narrow-is h.count.0 f.count, window-back h.window f.window)

-- the theorem, of a head
pub head-back : (h : Head) → HeadFits h → head_in (head_words h) ≡ h
unfolding head_in is_head
head-back h f =
    let same-words : same (head_words (head_of (head_words h))) (head_words h) ≡ true =
    ap (λ (x : Head). same (head_words x) (head_words h)) (told_back h f) ∙ same_self (head_words h) in
    ap (λ (b : Bool). cond b (head_of (head_words h)) nobody) same-words ∙ told_back h f

state-back : (s : State) → state_of (state_word s) ≡ s
unfolding state_of
state-back Of.Idle = refl
state-back Of.Waiting = refl
state-back Of.Registered = refl

told-link : (l : Link) → LinkFits l → link_of (link_words l) ≡ l
told-link l f =
    rw (
      state-back l.state,
      timer-back l.wait f.wait,
      timer-back l.watchdog f.watchdog,
      timer-back l.periodic f.periodic,
    )

-- of a link
pub link-back : (l : Link) → LinkFits l → link_in (link_words l) ≡ l
unfolding link_in is_link
link-back l f =
    let same-words : same (five (link_words (link_of (link_words l)))) (five (link_words l)) ≡ true =
    ap (λ (x : Link). same (five (link_words x)) (five (link_words l))) (told-link l f) ∙ same_self (five (link_words l)) in
    ap (λ (b : Bool). cond b (link_of (link_words l)) no_link) same-words ∙ told-link l f

-- of a table, whatever stands behind it
pub table-back : (ls : List Link) (rest : List ℕ) → LinksFit ls → links_of (length ls) (table_words ls ++ rest) ≡ ls
unfolding links_of table_words
table-back [] rest f = refl
table-back (l ∷ ls) rest f =
    ap (λ (x : Link). x ∷ links_of (length ls) (table_words ls ++ rest)) (link-back l f.0) ∙ ap (λ (xs : List Link). l ∷ xs) (table-back ls rest f.1)
