-- Face: a head as words of 64 bits: which word holds what, and what head any words tell: the one that packs to just these words, or nobody.
-- Assumes nothing.
use Rattle.std.specs.Prelude.{ℕ, Bool, cond, List, [], ◌∷◌, eqb, get_or}
use Rattle.head_state.specs.Head.{begun}
use Rattle.head_state.specs.declared.Head.{Head}
use Rattle.head_state.specs.declared.Window.{Window}
use Rattle.head_state.specs.declared.Window.TheVariants.{Idle, Before, Inside}
use Rattle.face_fields.specs.Fields.{count_of, quanta_of, timer_of}
use Rattle.face_words.specs.Words.{same}
use Rattle.face_head.specs.declared.WindowWords.{WindowWords}

-- what a phase does not hold is 0
abbrev pub window_words : Window → WindowWords
window_words Idle = record { phase = 0; left = 0; length = 0 }
window_words (Before t length) = record { phase = 1; left = t.left; length = length.0 }
window_words (Inside t) = record { phase = 2; left = t.left; length = 0 }

-- a word that is no phase's is taken as idle
unfoldable pub window_of : WindowWords → Window
window_of w =
    let t = timer_of w.left in
    cond (eqb w.phase 1) (Before t (quanta_of w.length)) (cond (eqb w.phase 2) (Inside t) Idle)

-- the words of a head, in their order
unfoldable pub head_words : Head → List ℕ
head_words h =
    let w = window_words h.window in
    h.address.0 ∷ h.count.0 ∷ w.phase ∷ w.left ∷ w.length ∷ []

-- what words tell, each field by itself
unfoldable pub head_of : List ℕ → Head
head_of w =
    let at : ℕ → ℕ = λ i. get_or w i 0 in
    record {
      address = record { 0 = at 0 };
      count = count_of (at 1);
      window = window_of (record { phase = at 2; left = at 3; length = at 4 });
    }

-- the words are a head's: just those that it packs to
unfoldable pub is_head : List ℕ → Bool
is_head w = same (head_words (head_of w)) w

abbrev pub nobody : Head
nobody = begun (record { 0 = 0 })

-- the head that words tell; those that are no head's tell nobody
unfoldable pub head_in : List ℕ → Head
head_in w = cond (is_head w) (head_of w) nobody
