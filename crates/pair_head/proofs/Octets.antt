-- The frames that stand in a call's output are the encodings of its messages, so they restart the box's watchdog where a message does.
-- Assumes nothing.
use Prim.Native.Nat.{ℕ, ◌*◌, ◌^◌, ◌<◌}
use mathlib.Core.Path.{◌≡◌, refl, sym, ap, subst, ◌∙◌}
use mathlib.Core.Bool.{false}
use mathlib.Core.List.{List, [], ◌∷◌, ◌++◌, map, append_assoc}
use lib.ListN.{length, take, drop}
use lib.Seq.{take-append_seam, drop-append_seam}
use Rattle.frame.specs.Layout.{encode}
use Rattle.frame.specs.declared.Address.{Address}
use Rattle.frame.specs.declared.Message.{Message}
use Rattle.head_judging.specs.declared.Call.{Call}
use Rattle.head_calls.specs.Serve.{serve_of}
use Rattle.head_laws.specs.Handed.{call-valid, call-frames, call-octets}
use Rattle.head_laws.specs.Pasted.{encode-length}
use Rattle.head_laws.specs.Stated.{encoded, AllValid, call_frames, RequestTyped}
use Rattle.pair_wire.specs.Carried.{carries-back}
use Rattle.pair_wire.specs.Restarts.{tested, calls_box, down_restarts}
use Rattle.pair_demand.specs.Laws.{All}
use Rattle.pair_head.specs.End.{HeadState, frames_in, asked}

-- a frame at the start of an output
first : (f rest : List ℕ) → length f ≡ 60 → take 60 (f ++ rest) ≡ f
first f rest e = rw e at (take-append_seam f rest)

behind : (f rest : List ℕ) → length f ≡ 60 → drop 60 (f ++ rest) ≡ rest
behind f rest e = rw e at (drop-append_seam f rest)

-- what is packed into an output stands in it
packed-frames : (ms : List Message) (rest : List ℕ) → frames_in (length ms) (encoded ms ++ rest) ≡ map encode ms
packed-frames [] rest = refl
packed-frames (m ∷ ms) rest =
    let f = encode m in
    let long = encode-length m in
    let apart : (f ++ encoded ms) ++ rest ≡ f ++ (encoded ms ++ rest) = append_assoc f (encoded ms) rest in
    ap (λ (os : List ℕ). take 60 os ∷ frames_in (length ms) (drop 60 os)) apart
    ∙ ap (λ (x : List ℕ). x ∷ frames_in (length ms) (drop 60 (f ++ (encoded ms ++ rest)))) (first f (encoded ms ++ rest) long)
    ∙ ap (λ (os : List ℕ). f ∷ frames_in (length ms) os) (behind f (encoded ms ++ rest) long)
    ∙ ap (λ (fs : List (List ℕ)). f ∷ fs) (packed-frames ms rest)

encoded-quiet : (A : Address) (ms : List Message) → AllValid ms → All (λ m. calls_box A m ≡ false) ms
    → All (λ f. down_restarts A f ≡ false) (map encode ms)
encoded-quiet A [] v q = tt
encoded-quiet A (m ∷ ms) v q = (ap (tested (calls_box A)) (carries-back m v.0) ∙ q.0, encoded-quiet A ms v.1 q.1)

-- what a call hands out
module _ (s : HeadState) (r : Call) (out : List ℕ) (k : RequestTyped r) (c : s.head.count.0 < 2 ^ 32) where
  abbrev frames : List Message
  frames = call_frames s.head s.table r out

  pub call-sent : (asked s r out).sent ≡ map encode frames
  call-sent =
      let h = s.head in
      let xs = s.table in
      ap (λ (n : ℕ). frames_in n (serve_of h xs r out).octets) (call-frames h xs r out k c)
      ∙ ap (frames_in (length frames)) (call-octets h xs r out k c)
      ∙ packed-frames frames (drop (60 * length frames) out)

  -- restarts no watchdog at A where no message of it does
  pub call-quiet : (A : Address) → All (λ m. calls_box A m ≡ false) frames → All (λ f. down_restarts A f ≡ false) (asked s r out).sent
  call-quiet A q =
      subst (λ (fs : List (List ℕ)). All (λ f. down_restarts A f ≡ false) fs) (sym call-sent)
      (encoded-quiet A frames (call-valid s.head s.table r out k c) q)
