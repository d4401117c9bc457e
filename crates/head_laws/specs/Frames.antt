-- Lemmas: R149 and R150: the frames that a plan hands out, the head's own and then those of the links, by number.
-- Assumes nothing.
use Rattle.std.specs.Prelude.{Option, None, Some, ℕ, suc, ◌+◌, ◌*◌, ◌^◌, ◌<◌, ◌≤◌, ◌≡◌, refl, true, ◌⊎◌, length}
use Rattle.std.proofs.Math.Path.{ap}
use Rattle.std.proofs.Common.{◌∙◌, inl, inr, arith}
use mathlib.Core.List.{List, [], ◌∷◌, ◌++◌, append_assoc, append-nil}
use Rattle.std.proofs.Math.ListN.{length-append}
use Rattle.frame.specs.declared.Address.{Address}
use Rattle.frame.specs.declared.Body.{Body}
use Rattle.frame.specs.declared.Message.{Message}
use Rattle.frame_range.specs.Fits.{is_individual, fits_message}
use Rattle.frame_range.specs.Laws.{valid-of}
use Rattle.lent.specs.Folds.{each}
use Rattle.head_links.specs.declared.Link.{Link}
use Rattle.head_survey.specs.Facts.{are_all_sound}
use Rattle.head_table.specs.Events.{react_of}
use Rattle.head_table.specs.Output.{message_of, note_of, note_link}
use Rattle.head_table.specs.declared.Event.{Event}
use Rattle.head_table.specs.declared.Sender.{Sender}
use Rattle.head_plans.specs.declared.Plan.{Plan}
use Rattle.head_calls.specs.Serve.{sender_of, sent_of}
use Rattle.head_laws.specs.Pasted.{packed, pasted-packed}
use Rattle.head_laws.specs.Sends.{SentFits, EventFits, react-sends}
use Rattle.head_laws.specs.Stated.{sent_by, link_frames, frames_of, AllValid}
use Rattle.head_laws.specs.Table.{sound-first}

both-valid : (ms ns : List Message) → AllValid ms → AllValid ns → AllValid (ms ++ ns)
both-valid [] ns v w = w
both-valid (m ∷ ms) ns v w = (v.0, both-valid ms ns v.1 w)

-- frames go from the head's own address with the head's count
abbrev pub SenderFits : Sender → Type 0
SenderFits s = (is_individual s.source ≡ true) × (s.timestamp.0 < 2 ^ 32)

sent-valid : (s : Sender) (sent : Option (Address × Body)) → SenderFits s → SentFits sent → AllValid (sent_by s sent)
unfolding fits_message
sent-valid s None i f = tt
sent-valid s (Some (a, body)) i f = (valid-of (message_of s a body) (i.1, f.2) (rw (f.0, i.0, f.1)), tt)

links-valid : (e : Event) (s : Sender) (k : ℕ) (xs : List Link) → SenderFits s → EventFits e → are_all_sound xs ≡ true
    → AllValid (link_frames e s k xs)
links-valid e s k [] i f h = tt
links-valid e s k (x ∷ xs) i f h =
    let p = sound-first x xs h in
    both-valid (sent_by s (react_of e x k).sent) (link_frames e s (suc k) xs) (sent-valid s (react_of e x k).sent i (react-sends e x k f p.0))
    (links-valid e s (suc k) xs i f p.1)

-- one frame a link at most
pub sent-few : (s : Sender) (sent : Option (Address × Body)) → length (sent_by s sent) ≤ 1
sent-few s None = omega arith
sent-few s (Some (a, body)) = omega arith

pub links-few : (e : Event) (s : Sender) (k : ℕ) (xs : List Link) → length (link_frames e s k xs) ≤ length xs
links-few e s k [] = omega arith
links-few e s k (x ∷ xs) =
    rw (length-append (sent_by s (react_of e x k).sent) (link_frames e s (suc k) xs))
    (omega (arith, sent-few s (react_of e x k).sent, links-few e s (suc k) xs))

-- packing what one party sends, and then what all send
note-packed : (s : Sender) (sent : Option (Address × Body)) (ms : List Message) (os : List ℕ) → AllValid (sent_by s sent)
    → 60 * (length ms + length (sent_by s sent)) ≤ length os → note_of s (packed ms os) sent ≡ packed (ms ++ sent_by s sent) os
note-packed s None ms os v room = rw (append-nil ms)
note-packed s (Some (a, body)) ms os v room = pasted-packed ms os (message_of s a body) v.0 (omega arith)

links-packed : (e : Event) (s : Sender) (k : ℕ) (xs : List Link) (ms : List Message) (os : List ℕ) → SenderFits s → EventFits e
    → are_all_sound xs ≡ true → 60 * (length ms + length (link_frames e s k xs)) ≤ length os
    → each (note_link e s) k xs (packed ms os) ≡ packed (ms ++ link_frames e s k xs) os
unfolding each
links-packed e s k [] ms os i f h room = rw (append-nil ms)
links-packed e s k (x ∷ xs) ms os i f h room =
    let p = sound-first x xs h in
    let sent = (react_of e x k).sent in
    let mine = sent_by s sent in
    let rest = link_frames e s (suc k) xs in
    ap (each (note_link e s) (suc k) xs)
    (note-packed s sent ms os (sent-valid s sent i (react-sends e x k f p.0)) (omega (arith, length-append mine rest)))
    ∙ links-packed e s (suc k) xs (ms ++ mine) os i f p.1 (omega (arith, length-append mine rest, length-append ms mine))
    ∙ ap (λ (ns : List Message). packed ns os) (append_assoc ms mine rest)

-- no event, no frame of a link
pub nothing-frames : (s : Sender) (k : ℕ) (xs : List Link) → link_frames Event.Nothing s k xs ≡ []
nothing-frames s k [] = refl
nothing-frames s k (x ∷ xs) = nothing-frames s (suc k) xs

-- where the head's own frame comes with none of a link, there are no more frames than of the one or of the others
pub frames-apart : (p : Plan) (xs : List Link) (n : ℕ) → (p.lead ≡ None) ⊎ (p.event ≡ Event.Nothing) → 1 ≤ n
    → length (link_frames p.event (sender_of p) 1 xs) ≤ n → length (frames_of p xs) ≤ n
frames-apart p xs n (inl e) o k = rw e k
frames-apart p xs n (inr e) o k =
    rw (e, nothing-frames (sender_of p) 1 xs, append-nil (sent_by (sender_of p) p.lead)) (omega (arith, sent-few (sender_of p) p.lead))

-- a plan whose messages are in range, on a sound table, with room for its frames
module _ (p : Plan) (xs : List Link) (i : SenderFits (sender_of p)) (f : EventFits p.event) (g : SentFits p.lead) (h : are_all_sound xs ≡ true) where
  -- every message has a frame
  pub frames-valid : AllValid (frames_of p xs)
  frames-valid =
      both-valid (sent_by (sender_of p) p.lead) (link_frames p.event (sender_of p) 1 xs) (sent-valid (sender_of p) p.lead i g)
      (links-valid p.event (sender_of p) 1 xs i f h)

  -- and the frames stand in the output in order, from its start; octets after the last stay
  pub frames-packed : (os : List ℕ) → 60 * length (frames_of p xs) ≤ length os → sent_of p xs os ≡ packed (frames_of p xs) os
  unfolding sent_of
  frames-packed os room =
      let s = sender_of p in
      let own = sent_by s p.lead in
      let rest = link_frames p.event s 1 xs in
      ap (each (note_link p.event s) 1 xs) (note-packed s p.lead [] os (sent-valid s p.lead i g) (omega (arith, length-append own rest)))
      ∙ links-packed p.event s 1 xs own os i f h (omega (arith, length-append own rest))
