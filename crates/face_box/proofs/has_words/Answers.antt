-- `face_box::has_words` meets its promise.
-- Assumes nothing.
use Rattle.std.proofs.Common.{◌≡◌, ◌∙◌, ◌+◌, ◌-◌, ◌<◌, ◌≤◌, ℕ, List, min, length, take, drop, arith, length-take, length-drop, drop_of_length-le}
use Rattle.std.proofs.lemmas.List.{take_all, drop-drop}
use Rattle.std.proofs.Math.Logic.{⊎_elim}
use Rattle.laws.specs.Cases.{cut}
use Rattle.face_box.specs.Box.{has_words}
use Rattle.face_box.proofs.has_words.Goals as goal

-- as many words behind the grants as there are
behind : (n m : ℕ) (w : List ℕ) → m ≡ min n 16 → length w ≡ 29 → take (29 - (13 + m)) (drop (13 + m) w) ≡ drop n (drop 13 w)
behind n m w e h =
    take_all (29 - (13 + m)) (drop (13 + m) w) (simp length-drop (omega arith))
    ∙ ⊎_elim (λ (k : n < 17).
    let f : m ≡ n = omega arith in
    rw (f, drop-drop n 13 w))
    (λ (k : 17 ≤ n). rw (drop_of_length-le w {i = 13 + m} (omega arith), drop_of_length-le (drop 13 w) {i = n} (simp length-drop (omega arith))))
    (cut n 17)

pub slice_bounds-same-end-2 : goal.slice_bounds-same-end-2
slice_bounds-same-end-2 c =
    let e : 13 ≡ length (take 13 c.args.w) = simp length-take (omega arith) in
    e

pub returns : goal.returns
unfolding has_words
returns c =
    rw (c.is_clear.ensures, c.same.ensures, c.front_words.ensures, behind c.args.front.number c.min-behind.result c.args.w c.min-behind.ensures (omega arith))
