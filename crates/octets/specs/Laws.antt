-- Lemmas: the laws of octets, each once for every width: a number and its octets go into each other and back.
-- Assumes nothing.
use Rattle.std.specs.Prelude.{ℕ, zero, suc, ◌+◌, ◌-◌, ◌*◌, ◌/◌, ◌%◌, ◌^◌, ◌≤◌, ◌<◌, ◌≡◌, min, refl, List, [], ◌∷◌, ◌++◌, length, get_or, take, drop, set, replicate}
use Rattle.std.proofs.Common.{sym, ap, ◌∙◌, ⊎_elim, append-nil, append_assoc, add-mul, mul_assoc, mul_comm, add_assoc, pow-suc, add-zero, zero-add, suc-add, not-suc-le-zero, le_of_suc-le-suc, le_refl, arith, length-take, length-drop, drop-cons, lt-length-set, get_or-set_same, drop-set-lt, get_or-drop, get_or-take, take_all, take-add, drop-drop}
use Rattle.std.proofs.Math.Nat.{pow-le-pow_right}
use Rattle.std.proofs.Math.Seq.{take-take}
use Rattle.laws.specs.Cases.{cut}
use Rattle.octets.specs.Octets.{onto, bytes, value_from, value, field_of, Octets}
use Rattle.octets.specs.Over.{over}

-- one octet more: the number stays below the power for its octets
pub grown : (v b n : ℕ) → v < 256 ^ n → b < 256 → v * 256 + b < 256 ^ suc n
grown v b n h k = rw pow-suc (omega arith)

-- and fits 64 bits while there are at most eight
pub room : (v b n m : ℕ) → v < 256 ^ n → b < 256 → n < m → m ≤ 8 → v * 256 + b < 2 ^ 64
room v b n m h k l e = omega (arith, grown v b n h k, pow-le-pow_right {n = 256} (omega arith) {i = suc n} {j = 8} (omega arith))

-- the next of the first m octets
pub next-octet : (l : List ℕ) (m i : ℕ) → i < length (take m l) → drop i (take m l) ≡ get_or l i 0 ∷ drop (suc i) (take m l)
next-octet l m i h =
    let k : i < m = omega (arith, length-take m l) in
    drop-cons (take m l) i 0 h ∙ rw (get_or-take m l i 0 k)

pub onto-value : (l : List ℕ) → Octets l → (v k : ℕ) (t : List ℕ) → onto (length l + k) (value_from v l) t ≡ onto k v (l ++ t)
unfolding onto value_from
onto-value [] h v k t = ap (λ (n : ℕ). onto n v t) (zero-add k)
onto-value (b ∷ l) h v k t =
    let below : b < 256 = h 0 in
    let quot : (v * 256 + b) / 256 ≡ v = omega arith in
    let rem : (v * 256 + b) % 256 ≡ b = omega arith in
    let width : suc (length l) + k ≡ length l + suc k = omega arith in
    ap (λ (n : ℕ). onto n (value_from (v * 256 + b) l) t) width
    ∙ onto-value l (λ i. h (suc i)) (v * 256 + b) (suc k) t
    ∙ rw (quot, rem)

-- octets to a number and back
pub bytes-value : (l : List ℕ) → Octets l → bytes (length l) (value l) ≡ l
unfolding onto
bytes-value l h = ap (λ (n : ℕ). onto n (value l) []) (sym (add-zero (length l))) ∙ onto-value l h 0 0 [] ∙ append-nil l

pub value-onto : (n x : ℕ) (t : List ℕ) → x < 256 ^ n → value (onto n x t) ≡ value_from x t
unfolding onto value_from
value-onto zero x t h = ap (λ (y : ℕ). value_from y t) (omega arith)
value-onto (suc n) x t h =
    let less : x < 256 ^ n * 256 = rw pow-suc at h in
    let back : x / 256 * 256 + x % 256 ≡ x = omega arith in
    value-onto n (x / 256) (x % 256 ∷ t) (omega arith) ∙ rw back

-- a number to octets and back
pub value-bytes : (n x : ℕ) → x < 256 ^ n → value (bytes n x) ≡ x
unfolding value_from
value-bytes n x h = value-onto n x [] h

-- octets before others are two lists, one after the other
pub onto-append : (n x : ℕ) (s t : List ℕ) → onto n x (s ++ t) ≡ onto n x s ++ t
unfolding onto
onto-append zero x s t = refl
onto-append (suc n) x s t = onto-append n (x / 256) (x % 256 ∷ s) t

-- the last octet is the number modulo 256, and those before it are the octets of the rest
pub bytes-last : (n x : ℕ) → bytes (suc n) x ≡ bytes n (x / 256) ++ (x % 256 ∷ [])
unfolding onto
bytes-last n x = onto-append n (x / 256) [] (x % 256 ∷ [])

spread : (v b w r : ℕ) → (v * 256 + b) * w + r ≡ v * (w * 256) + ((0 * 256 + b) * w + r)
spread v b w r =
    let one : (v * 256 + b) * w ≡ v * 256 * w + b * w = add-mul (v * 256) b w in
    let two : v * 256 * w ≡ v * (w * 256) = mul_assoc v 256 w ∙ ap (λ (x : ℕ). v * x) (mul_comm 256 w) in
    let none : 0 * 256 + b ≡ b = omega arith in
    rw (one, two, none) (add_assoc (v * (w * 256)) (b * w) r)

value-from : (l : List ℕ) (v : ℕ) → value_from v l ≡ v * 256 ^ length l + value l
unfolding value_from
value-from [] v = omega arith
value-from (b ∷ l) v =
    value-from l (v * 256 + b) ∙ rw (pow-suc, value-from l (0 * 256 + b)) (spread v b (256 ^ length l) (value l))

value_on : (v : ℕ) (a b : List ℕ) → value_from v (a ++ b) ≡ value_from (value_from v a) b
unfolding value_from
value_on v [] b = refl
value_on v (x ∷ a) b = value_on (v * 256 + x) a b

-- octets before others count 256 to the power of how many those are
pub value-append : (a b : List ℕ) → value (a ++ b) ≡ value a * 256 ^ length b + value b
value-append a b = value_on 0 a b ∙ value-from b (value a)

pub value-zeros : (n : ℕ) → value (replicate n 0) ≡ 0
unfolding value_from
value-zeros zero = refl
value-zeros (suc n) = value-zeros n

-- the first octet counts 256 to the power of how many follow
pub value-first : (b : ℕ) (l : List ℕ) → value (b ∷ l) ≡ b * 256 ^ length l + value l
unfolding value_from
value-first b l = value-from l (0 * 256 + b) ∙ rw (zero-add)

pub length-onto : (n x : ℕ) (t : List ℕ) → length (onto n x t) ≡ n + length t
unfolding onto
length-onto zero x t = sym (zero-add (length t))
length-onto (suc n) x t = let step : length (onto n (x / 256) (x % 256 ∷ t)) ≡ n + suc (length t) = length-onto n (x / 256) (x % 256 ∷ t) in omega arith

-- a number of n octets is below 256 ^ n
pub value-below : (l : List ℕ) → Octets l → (v n : ℕ) → v < 256 ^ n → value_from v l < 256 ^ (n + length l)
unfolding value_from
value-below [] h v n k = rw add-zero k
value-below (b ∷ l) h v n k =
    let width : n + suc (length l) ≡ suc n + length l = omega arith in
    rw width (value-below l (λ i. h (suc i)) (v * 256 + b) (suc n) (grown v b n k (h 0)))

-- a turn of the writer's loop: the octet goes to the front of what is already there
pub put-turn : (s : List ℕ) (i x : ℕ) {g : List ℕ} → 0 < i → i ≤ length s → onto i x (drop i s) ≡ g
    → onto (i - 1) (x / 256) (drop (i - 1) (set s (i - 1) (x % 256))) ≡ g
unfolding onto
put-turn s zero x h k e = absurd (not-suc-le-zero h)
put-turn s (suc j) x h k e =
    let one : suc j - 1 ≡ j = omega arith in
    let front : drop j (set s j (x % 256)) ≡ x % 256 ∷ drop (suc j) s =
    drop-cons (set s j (x % 256)) j 0 (lt-length-set s j (x % 256) k)
    ∙ rw (get_or-set_same s j (x % 256) 0 k, drop-set-lt (suc j) s j (x % 256) (le_refl (suc j))) in
    rw (one, front) e

-- a part that lies within the list is as long as was asked
pub length_part : (l : List ℕ) (a n : ℕ) → a + n ≤ length l → length (take n (drop a l)) ≡ n
length_part l a n h = simp (length-take, length-drop) (omega arith)

-- a part that goes to the end is what stands from its beginning on
pub rest : (n : ℕ) (l : List ℕ) → take (length l - n) (drop n l) ≡ drop n l
rest n l = take_all (length l - n) (drop n l) (simp length-drop (omega arith))

-- a part of octets is octets
pub octets-take : (n : ℕ) (l : List ℕ) → Octets l → Octets (take n l)
octets-take zero l h i = omega arith
octets-take (suc n) [] h i = omega arith
octets-take (suc n) (x ∷ l) h zero = h 0
octets-take (suc n) (x ∷ l) h (suc i) = octets-take n l (λ j. h (suc j)) i

pub octets-drop : (n : ℕ) (l : List ℕ) → Octets l → Octets (drop n l)
octets-drop n l h i = rw get_or-drop (h (n + i))

pub octets-append : (s t : List ℕ) → Octets s → Octets t → Octets (s ++ t)
octets-append [] t h k i = k i
octets-append (x ∷ s) t h k zero = h 0
octets-append (x ∷ s) t h k (suc i) = octets-append s t (λ j. h (suc j)) k i

pub octets-zeros : (n : ℕ) → Octets (replicate n 0)
octets-zeros zero i = omega arith
octets-zeros (suc n) zero = omega arith
octets-zeros (suc n) (suc i) = octets-zeros n i

-- the octets of a number are octets
pub octets-bytes : (n x : ℕ) (t : List ℕ) → Octets t → Octets (onto n x t)
unfolding onto
octets-bytes zero x t h i = h i
octets-bytes (suc n) x t h i = octets-bytes n (x / 256) (x % 256 ∷ t) more i
  where
    more : Octets (x % 256 ∷ t)
    more zero = omega arith
    more (suc j) = h j

-- the first of the first octets
pub taken : (m n : ℕ) (l : List ℕ) → take m (take n l) ≡ take (min n m) l
taken m n l =
    ⊎_elim
    (λ (h : n < m). let e : min n m ≡ n = omega arith in rw e (take_all m (take n l) (simp length-take (omega arith))))
    (λ (h : m ≤ n). let e : min n m ≡ m = omega arith in rw e (take-take m n l h))
    (cut n m)

-- the number of a field is below the power for its width, also where the list has fewer octets
pub field-under : (l : List ℕ) → Octets l → (a n : ℕ) → field_of l a n < 256 ^ n
field-under l h a n =
    let part = take n (drop a l) in
    let below : value part < 256 ^ (0 + length part) = value-below part (octets-take n (drop a l) (octets-drop a l h)) 0 0 (omega arith) in
    omega (arith, below, pow-le-pow_right {n = 256} (omega arith) {i = 0 + length part} {j = n} (omega (arith, length-take n (drop a l))))

-- the octets of a field are the part that it was read from, and its number is below the power for its width
module _ (l : List ℕ) (h : Octets l) (a n : ℕ) (k : a + n ≤ length l) where
  pub bytes-field : bytes n (field_of l a n) ≡ take n (drop a l)
  bytes-field =
      ap (λ (m : ℕ). bytes m (field_of l a n)) (sym (length_part l a n k))
      ∙ bytes-value (take n (drop a l)) (octets-take n (drop a l) (octets-drop a l h))

  pub field_below : field_of l a n < 256 ^ n
  field_below = field-under l h a n

-- two parts that meet are one
pub join : (l : List ℕ) (a n m : ℕ) → take n (drop a l) ++ take m (drop (a + n) l) ≡ take (n + m) (drop a l)
join l a n m = rw (take-add n m (drop a l), drop-drop n a l)

pub join_front : (l : List ℕ) (n m : ℕ) (z : List ℕ) → take n l ++ (take m (drop n l) ++ z) ≡ take (n + m) l ++ z
join_front l n m z = rw (take-add n m l) (sym (append_assoc (take n l) (take m (drop n l)) z))

-- octets laid over others leave what stands before them, and what stands behind
pub over-is : (a : ℕ) (l b : List ℕ) → a ≤ length l → over a l b ≡ take a l ++ (b ++ drop (a + length b) l)
over-is zero l b h = rw zero-add
over-is (suc a) [] b h = absurd (not-suc-le-zero h)
over-is (suc a) (x ∷ l) b h = rw suc-add (ap (λ (t : List ℕ). x ∷ t) (over-is a l b (le_of_suc-le-suc h)))
