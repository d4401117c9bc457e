-- Face: the queue sets that a client asks for by how many they are and by their octets.
-- Assumes nothing.
use Rattle.std.specs.Prelude.{ℕ, ◌+◌, ◌-◌, cond, List, ◌∷◌, ◌++◌, eqb, leb, length, replicate}
use Rattle.frame_queues.specs.Queues.{used_of, sets_of}
use Rattle.frame_queues.specs.declared.Sets.{Sets}

-- octets and zeros behind them, forty in all
abbrev pub padded : List ℕ → List ℕ
padded l = l ++ replicate (40 - length l) 0

-- 255 of them never fit
abbrev pub unfit : Sets
unfit = record { first = 0xFFFFFFFFFFFFFFFF; second = 0; third = 0; fourth = 0; fifth = 0 }

-- the octets of just so many sets, at most 39; else sets that don't fit
unfoldable pub asked_of : ℕ → List ℕ → Sets
asked_of number octets =
    let body = padded (number ∷ octets) in
    cond (leb 40 (length octets)) unfit (cond (eqb (used_of body) (1 + length octets)) (sets_of body) unfit)
