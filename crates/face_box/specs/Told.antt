-- Face: what a call of the box tells, as words of 64 bits.
-- Assumes nothing.
use Rattle.std.specs.Prelude.{ℕ, cond, List, [], ◌∷◌, ◌++◌, ℤ, length}
use Rattle.box_telling.specs.Told.{is_nothing}
use Rattle.box_telling.specs.declared.Notice.{Notice}
use Rattle.box_telling.specs.declared.Notices.{Notices}
use Rattle.box_telling.specs.declared.Notice.TheVariants.{Nothing, Window, Registered, Refused, Retry, Deregistered, Granted, Open, Close}
use Rattle.face_words.specs.Words.{bit, drift_word}
use Rattle.face_box.specs.declared.NoticeWords.{NoticeWords}

abbrev pub kind_words : ℕ → NoticeWords
kind_words kind = record { kind = kind; start = 0; length = 0; force = 0 }

abbrev pub notice_words : Notice → NoticeWords
notice_words Nothing = kind_words 0
notice_words Window = kind_words 1
notice_words Registered = kind_words 2
notice_words Refused = kind_words 3
notice_words Retry = kind_words 4
notice_words Deregistered = kind_words 5
notice_words (Granted g) = record { kind = 6; start = g.start.0; length = g.length.0; force = bit g.force }
notice_words Open = kind_words 7
notice_words Close = kind_words 8

abbrev pub four : NoticeWords → List ℕ
four n = n.kind ∷ n.start ∷ n.length ∷ n.force ∷ []

-- the notices in order: those before the first that is none
abbrev pub ahead : Notice → List Notice → List Notice
ahead x l = cond (is_nothing x) [] (x ∷ l)

unfoldable pub listed : Notices → List Notice
listed n = ahead n.first (ahead n.second (ahead n.third (ahead n.fourth [])))

-- four words each
abbrev pub notices_words : List Notice → List ℕ
notices_words [] = []
notices_words (x ∷ l) = four (notice_words x) ++ notices_words l

-- the drift, how many frames, how many notices, and these in order
unfoldable pub told_words : ℤ → ℕ → Notices → List ℕ
told_words drift frames n = drift_word drift ∷ frames ∷ length (listed n) ∷ notices_words (listed n)
