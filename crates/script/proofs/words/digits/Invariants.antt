use Rattle.std.proofs.Common.{◌≡◌, drop}
use Rattle.script.specs.Words.{spelled}
use Rattle.script.proofs.words.digits.Given as goal

abbrev pub invariant-loop-c : goal.invariant-loop-c
invariant-loop-c l = spelled l.radix 0 l.spelling ≡ spelled l.radix l.n (drop l.c-index l.spelling)
