-- Lemmas: R149: where frames stand in the output, and what it keeps behind them.
-- Assumes nothing.
use Rattle.std.specs.Prelude.{ℕ, suc, ◌+◌, ◌*◌, ◌/◌, ◌≤◌, ◌≡◌, refl, Bool, drop}
use Rattle.std.proofs.Common.{sym, ◌∙◌, arith, length-append, length-drop, drop-drop}
use Rattle.std.proofs.Math.Path.{ap}
use Rattle.std.proofs.Math.Bool.{true, cond}
use mathlib.Core.List.{List, [], ◌∷◌, ◌++◌, append_assoc, append-nil}
use borrow.Author.Tests.{lt-ltb}
use Rattle.std.proofs.Math.Dec.{ltb}
use Rattle.std.proofs.Math.ListN.{length}
use Rattle.std.proofs.lemmas.List.{length-replicate}
use Rattle.octets.specs.Octets.{onto}
use Rattle.frame.specs.Layout.{encode}
use Rattle.frame.specs.Range.{Valid}
use Rattle.frame.specs.declared.Message.{Message}
use Rattle.frame_reader.proofs.Forth.{body-short}
use Rattle.frame_writer.proofs.Page.{write_done}
use Rattle.octets.specs.Over.{over}
use Rattle.frame_writer.specs.Write.{write_of}
use Rattle.head_table.specs.Output.{Output, output, pasted}
use Rattle.head_laws.specs.Stated.{encoded}

encoded-append : (ms ns : List Message) → encoded (ms ++ ns) ≡ encoded ms ++ encoded ns
encoded-append [] ns = refl
encoded-append (m ∷ ms) ns = rw (encoded-append ms ns) (sym (append_assoc (encode m) (encoded ms) (encoded ns)))

-- every frame has sixty octets
pub encode-length : (m : Message) → length (encode m) ≡ 60
unfolding encode onto
encode-length m = simp (length-append, length-replicate) (omega (arith, body-short m.body))

encoded-length : (ms : List Message) → length (encoded ms) ≡ 60 * length ms
encoded-length [] = refl
encoded-length (m ∷ ms) = rw (length-append (encode m) (encoded ms), encode-length m, encoded-length ms) (omega arith)

-- octets written over those behind the first ones
over-behind : (a b f : List ℕ) → over (length a) (a ++ b) f ≡ a ++ (f ++ drop (length f) b)
over-behind [] b f = refl
over-behind (x ∷ a) b f = ap (λ (l : List ℕ). x ∷ l) (over-behind a b f)

-- the output, where these frames are the first in it, and behind them it is as it was
abbrev pub packed : List Message → List ℕ → Output
packed ms os = output (encoded ms ++ drop (60 * length ms) os) (length ms)

one_more : (ms : List Message) (m : Message) → length (ms ++ (m ∷ [])) ≡ length ms + 1
one_more ms m = length-append ms (m ∷ [])

-- one frame more
module _ (ms : List Message) (os : List ℕ) (m : Message) where
  over-packed : over (length ms * 60) (packed ms os).octets (encode m) ≡ (packed (ms ++ (m ∷ [])) os).octets
  over-packed =
      let n = length ms in
      let at : n * 60 ≡ length (encoded ms) = omega (arith, encoded-length ms) in
      let next : 60 * n + length (encode m) ≡ 60 * length (ms ++ (m ∷ [])) = omega (arith, encode-length m, one_more ms m) in
      ap (λ (k : ℕ). over k (encoded ms ++ drop (60 * n) os) (encode m)) at
      ∙ over-behind (encoded ms) (drop (60 * n) os) (encode m)
      ∙ ap (λ (l : List ℕ). encoded ms ++ (encode m ++ l)) (drop-drop (length (encode m)) (60 * n) os ∙ ap (λ (k : ℕ). drop k os) next)
      ∙ sym
      (ap (λ (l : List ℕ). l ++ drop (60 * length (ms ++ (m ∷ []))) os) (encoded-append ms (m ∷ []) ∙ ap (λ (l : List ℕ). encoded ms ++ l) (append-nil (encode m)))
      ∙ append_assoc (encoded ms) (encode m) (drop (60 * length (ms ++ (m ∷ []))) os))

  packed-length : 60 * length ms ≤ length os → length (packed ms os).octets ≡ length os
  packed-length room = rw (length-append (encoded ms) (drop (60 * length ms) os), encoded-length ms, length-drop (60 * length ms) os) (omega arith)

  pub pasted-packed : Valid m → 60 * suc (length ms) ≤ length os → pasted (packed ms os) (write_of m).octets ≡ packed (ms ++ (m ∷ [])) os
  unfolding pasted
  pasted-packed v room =
      let l = length (packed ms os).octets in
      let long : l ≡ length os = packed-length (omega arith) in
      let fits : ltb (length ms) (l / 60) ≡ true = lt-ltb (length ms) (l / 60) (omega arith) in
      rw (write_done m v)
      (ap (λ (t : Bool). cond t (output (over (length ms * 60) (packed ms os).octets (encode m)) (length ms + 1)) (packed ms os)) fits
      ∙ ap (λ (l : List ℕ). output l (length ms + 1)) over-packed
      ∙ ap (output (packed (ms ++ (m ∷ [])) os).octets) (sym (one_more ms m)))
