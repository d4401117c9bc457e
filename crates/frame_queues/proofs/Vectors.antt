-- Bodies of REPORTs, worked: what each uses of forty octets (R240).
-- Assumes nothing.
use Prim.Native.Nat.{ℕ, zero, suc}
use mathlib.Core.Path.{◌≡◌, refl}
use mathlib.Core.List.{List, [], ◌∷◌, ◌++◌}
use lib.Count.{ones, ones_in}
use lib.ListN.{replicate}
use Rattle.octets.specs.Octets.{onto}
use Rattle.frame_queues.specs.Queues.{ending, used_of, cut_of, forty_of}

-- a set of eight queues, all of them empty
abbrev full : List ℕ
full = 255 ∷ replicate 16 0

-- one of one queue
abbrev one : List ℕ
one = 1 ∷ 0 ∷ 0 ∷ []

abbrev times : ℕ → List ℕ → List ℕ
times zero l = []
times (suc n) l = l ++ times n l

-- queues 0 and 2 with 258 and 772; queue 7 with 65,535
two-sets : used_of (2 ∷ 5 ∷ 1 ∷ 2 ∷ 3 ∷ 4 ∷ 128 ∷ 255 ∷ 255 ∷ replicate 31 0) ≡ 9
unfolding used_of ending ones ones_in
two-sets = refl

-- 39 empty sets fit, and 40 do not
empty : used_of (39 ∷ replicate 39 0) ≡ 40
unfolding used_of ending ones ones_in
empty = refl

one-too-many : used_of (40 ∷ replicate 39 0) ≡ 41
unfolding used_of ending ones ones_in
one-too-many = refl

-- 13 sets of one queue
thirteen : used_of (13 ∷ times 13 one) ≡ 40
unfolding used_of ending ones ones_in
thirteen = refl

fourteen : used_of (14 ∷ times 13 one) ≡ 41
unfolding used_of ending ones ones_in
fourteen = refl

-- two of eight queues, and one of two
full-fits : used_of (3 ∷ full ++ full ++ (3 ∷ replicate 4 0)) ≡ 40
unfolding used_of ending ones ones_in
full-fits = refl

full-runs-past : used_of (3 ∷ full ++ full ++ (7 ∷ replicate 4 0)) ≡ 42
unfolding used_of ending ones ones_in
full-runs-past = refl

-- the last octet is an empty bitmap, or runs past
last-octet : used_of (5 ∷ full ++ full ++ one ++ (0 ∷ 0 ∷ [])) ≡ 40
unfolding used_of ending ones ones_in
last-octet = refl

last-runs-past : used_of (5 ∷ full ++ full ++ one ++ (0 ∷ 1 ∷ [])) ≡ 42
unfolding used_of ending ones ones_in
last-runs-past = refl

-- the five numbers of the first
words : forty_of (record { first = 145523671111598335; second = 18374686479671623680; third = 0; fourth = 0; fifth = 0 })
    ≡ 2 ∷ 5 ∷ 1 ∷ 2 ∷ 3 ∷ 4 ∷ 128 ∷ 255 ∷ 255 ∷ replicate 31 0
unfolding forty_of onto
words = refl

-- no sets: the pad is zeroed
none : cut_of (0 ∷ replicate 39 7) ≡ replicate 40 0
unfolding used_of ending
none = refl
