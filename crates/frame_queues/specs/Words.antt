-- Face: queue sets as five words of 64 bits.
-- Assumes nothing.
use Rattle.std.specs.Prelude.{ℕ, List, [], ◌∷◌}
use Rattle.frame_queues.specs.declared.Sets.{Sets}

abbrev pub sets_words : Sets → List ℕ
sets_words s = s.first ∷ s.second ∷ s.third ∷ s.fourth ∷ s.fifth ∷ []
