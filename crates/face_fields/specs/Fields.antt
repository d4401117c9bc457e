-- Face: what a word of 64 bits says as a field: one that is too large is taken as the field's largest, which packs to another word.
-- Assumes nothing.
use Rattle.std.specs.Prelude.{ℕ, min}
use Rattle.clock.specs.declared.Count.{Count}
use Rattle.clock.specs.declared.Quanta.{Quanta}
use Rattle.clock.specs.declared.Span.{Span}
use Rattle.clock.specs.declared.Timer.{Timer}
use Rattle.face_words.specs.Words.{narrowed, joined, upper, lower}

abbrev pub short_of : ℕ → ℕ
short_of w = min w 65535

abbrev pub count_of : ℕ → Count
count_of w = record { 0 = narrowed w }

abbrev pub quanta_of : ℕ → Quanta
quanta_of w = record { 0 = narrowed w }

abbrev pub timer_of : ℕ → Timer
timer_of w = record { left = narrowed w }

-- a grant's start above its length: every word is one grant's, and every grant has one word
abbrev pub span_word : Span → ℕ
span_word s = joined s.start.0 s.length.0

abbrev pub span_of : ℕ → Span
span_of w = record { start = record { 0 = upper w }; length = record { 0 = lower w } }
