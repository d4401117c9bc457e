-- Lemmas: R146: which numbers the table has, which is the lowest idle one, and what a change of the link of one number leaves and sends.
-- Assumes nothing.
use Rattle.std.specs.Prelude.{ℕ, suc, ◌+◌, ◌<◌, ◌≤◌, ◌≡◌, refl, true, false, ◌≢◌, eqb, length}
use Rattle.std.proofs.Common.{sym, ◌∙◌, ⊎_elim, eqb-true, eq-eqb, ne_eqb}
use Rattle.std.proofs.Math.Path.{ap}
use Rattle.std.proofs.lemmas.Bool.{false≢true, eqb-false}
use mathlib.Core.List.{List, [], ◌∷◌, ◌++◌, append-nil}
use native.Mathlib.Omega.{arith}
use Rattle.laws.specs.Cases.{either, decided, cut}
use Rattle.frame.specs.declared.Message.{Message}
use Rattle.lent.specs.Folds.{places}
use Rattle.head_links.specs.Link.{is_held}
use Rattle.head_links.specs.Steps.{change_of}
use Rattle.head_links.specs.declared.Change.{Change}
use Rattle.head_links.specs.declared.Link.{Link}
use Rattle.head_links.specs.declared.Stepped.{Stepped}
use Rattle.head_survey.specs.Facts.{idle_from, link_from}
use Rattle.head_table.specs.Events.{port_of, react_of, reacted}
use Rattle.head_table.specs.declared.Event.{Event}
use Rattle.head_table.specs.declared.Sender.{Sender}
use Rattle.head_laws.specs.Frames.{sent-few}
use Rattle.head_laws.specs.Stated.{sent_by, link_frames}
use Rattle.head_laws.specs.Places.{at-number, elsewhere}

-- the numbers of a table whose first link has the number k
abbrev pub Has : ℕ → List Link → ℕ → Type 0
Has k xs n = (k ≤ n) × (n < k + length xs)

-- the link of a number, where the first has it or not
first-link : (n k : ℕ) (x : Link) (xs : List Link) → n ≡ k → link_from n k (x ∷ xs) ≡ x
first-link n k x xs e = rw (eq-eqb k n (sym e))

next-link : (n k : ℕ) (x : Link) (xs : List Link) → n ≢ k → link_from n k (x ∷ xs) ≡ link_from n (suc k) xs
next-link n k x xs d = rw (ne_eqb k n (λ (e : k ≡ n). d (sym e)))

-- a held link stands in the table
pub held-has : (n k : ℕ) (xs : List Link) → is_held (link_from n k xs).state ≡ true → Has k xs n
held-has n k [] = λ i. absurd (false≢true i)
held-has n k (x ∷ xs) =
    either (λ (l : Link). is_held l.state ≡ true → Has k (x ∷ xs) n) (eqb k n) _ _
    (λ t _.
    let e = eqb-true k n t in
    (omega arith, omega arith))
    (λ t i.
    let p = held-has n (suc k) xs i in
    (omega arith, omega arith))

-- the lowest idle link
pub record Lowest (k : ℕ) (xs : List Link) (number : ℕ) : Type 0 where
  pub has : Has k xs number
  pub idle : is_held (link_from number k xs).state ≡ false
  pub below : (n : ℕ) → k ≤ n → n < number → is_held (link_from n k xs).state ≡ true

first-or : {P : Type 0} (n k : ℕ) → k ≤ n → (n ≡ k → P) → (k < n → P) → P
first-or n k h f g = ⊎_elim (λ (u : k < n). g u) (λ (u : n ≤ k). f (omega arith)) (cut k n)

pub lowest-idle : (k : ℕ) (xs : List Link) → idle_from k xs ≢ 0 → Lowest k xs (idle_from k xs)
lowest-idle k [] = λ d. absurd (d refl)
lowest-idle k (x ∷ xs) =
    either (λ (j : ℕ). j ≢ 0 → Lowest k (x ∷ xs) j) (is_held x.state) _ _
    (λ t d.
    let j = idle_from (suc k) xs in
    let w = lowest-idle (suc k) xs d in
    let p = w.has in
    let q : j ≢ k = omega arith in
    record {
      has = (omega arith, omega arith);
      idle = rw (next-link j k x xs q) w.idle;
      below =
          λ n h u.
          first-or n k h (λ (e : n ≡ k). rw (first-link n k x xs e) t)
          (λ (g : k < n).
          let r : n ≢ k = omega arith in
          rw (next-link n k x xs r) (w.below n g u));
    })
    (λ t d.
    record {
      has = (omega arith, omega arith);
      idle = rw (first-link k k x xs refl) t;
      below = λ n h u. absurd (omega arith);
    })

-- and where there is none every link is held
pub none-idle : (k : ℕ) (xs : List Link) → 1 ≤ k → idle_from k xs ≡ 0 → (n : ℕ) → Has k xs n → is_held (link_from n k xs).state ≡ true
none-idle k [] o = λ e n h. absurd (omega arith)
none-idle k (x ∷ xs) o =
    either (λ (j : ℕ). j ≡ 0 → (n : ℕ) → Has k (x ∷ xs) n → is_held (link_from n k (x ∷ xs)).state ≡ true) (is_held x.state) _ _
    (λ t e n h.
    first-or n k h.0 (λ (q : n ≡ k). rw (first-link n k x xs q) t)
    (λ (g : k < n).
    let r : n ≢ k = omega arith in
    let some : 1 ≤ suc k = omega arith in
    let has : Has (suc k) xs n = (g, omega arith) in
    rw (next-link n k x xs r) (none-idle (suc k) xs some e n has)))
    (λ t e. absurd (omega arith))

-- a change of the link of the number j
module _ (j : ℕ) (c : Change) where
  -- leaves that link changed
  pub changed-link : (k : ℕ) (xs : List Link) → Has k xs j
      → link_from j k (places (reacted (Event.At j c)) k xs) ≡ (change_of c (link_from j k xs) (port_of j)).link
  unfolding places
  changed-link k [] h = absurd (omega arith)
  changed-link k (x ∷ xs) h =
      let rest = places (reacted (Event.At j c)) (suc k) xs in
      first-or j k h.0
      (λ (e : j ≡ k).
      first-link j k (reacted (Event.At j c) k x) rest e
      ∙ ap (λ (i : ℕ). reacted (Event.At j c) i x) (sym e)
      ∙ ap (λ (s : Stepped). s.link) (at-number j c x)
      ∙ ap (λ (l : Link). (change_of c l (port_of j)).link) (sym (first-link j k x xs e)))
      (λ (g : k < j).
      let d : j ≢ k = omega arith in
      next-link j k (reacted (Event.At j c) k x) rest d
      ∙ changed-link (suc k) xs (g, omega arith)
      ∙ ap (λ (l : Link). (change_of c l (port_of j)).link) (sym (next-link j k x xs d)))

  -- sends nothing for the links behind it
  frames-behind : (s : Sender) (k : ℕ) (xs : List Link) → j < k → link_frames (Event.At j c) s k xs ≡ []
  frames-behind s k [] h = refl
  frames-behind s k (x ∷ xs) h =
      let d : j ≢ k = omega arith in
      ap (λ (y : Stepped). sent_by s y.sent ++ link_frames (Event.At j c) s (suc k) xs) (elsewhere j k c x d)
      ∙ frames-behind s (suc k) xs (omega arith)

  -- and its own frame alone
  pub changed-frames : (s : Sender) (k : ℕ) (xs : List Link) → Has k xs j
      → link_frames (Event.At j c) s k xs ≡ sent_by s (change_of c (link_from j k xs) (port_of j)).sent
  changed-frames s k [] h = absurd (omega arith)
  changed-frames s k (x ∷ xs) h =
      let rest = link_frames (Event.At j c) s (suc k) xs in
      first-or j k h.0
      (λ (e : j ≡ k).
      ap (λ (i : ℕ). sent_by s (react_of (Event.At j c) x i).sent ++ rest) (sym e)
      ∙ ap (λ (y : Stepped). sent_by s y.sent ++ rest) (at-number j c x)
      ∙ ap (λ (ms : List Message). sent_by s (change_of c x (port_of j)).sent ++ ms) (frames-behind s (suc k) xs (omega arith))
      ∙ append-nil (sent_by s (change_of c x (port_of j)).sent)
      ∙ ap (λ (l : Link). sent_by s (change_of c l (port_of j)).sent) (sym (first-link j k x xs e)))
      (λ (g : k < j).
      let d : j ≢ k = omega arith in
      ap (λ (y : Stepped). sent_by s y.sent ++ rest) (elsewhere j k c x d)
      ∙ changed-frames s (suc k) xs (g, omega arith)
      ∙ ap (λ (l : Link). sent_by s (change_of c l (port_of j)).sent) (sym (next-link j k x xs d)))

  -- so it sends one frame at most
  pub changed-one : (s : Sender) (k : ℕ) (xs : List Link) → length (link_frames (Event.At j c) s k xs) ≤ 1
  changed-one s k [] = omega arith
  changed-one s k (x ∷ xs) =
      let rest = link_frames (Event.At j c) s (suc k) xs in
      ⊎_elim
      (λ (e : eqb j k ≡ true).
      let behind = frames-behind s (suc k) xs (omega (arith, eqb-true j k e)) in
      rw (behind, append-nil (sent_by s (react_of (Event.At j c) x k).sent)) (sent-few s (react_of (Event.At j c) x k).sent))
      (λ (e : eqb j k ≡ false).
      rw (ap (λ (y : Stepped). sent_by s y.sent ++ rest) (elsewhere j k c x (eqb-false j k e))) (changed-one s (suc k) xs))
      (decided (eqb j k))
