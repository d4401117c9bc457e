-- A table and its words as the loops over them leave them after i turns: past the last turn nothing changes.
--     load_to ws xs i    xs with the links of the words over its first i
--     store_to xs k ws i  ws with the words of the first i of the first k links over it
-- Assumes nothing.
use Prim.Native.Nat.{ℕ, suc, ◌+◌, ◌*◌, ◌<◌, ◌≤◌, min}
use mathlib.Core.Path.{◌≡◌, refl, sym, ap, ◌∙◌}
use mathlib.Core.List.{List, ◌++◌}
use native.Mathlib.Omega.{arith}
use lib.ListN.{length, take, drop, get_or, set, length-append, length-drop}
use lib.Seq.{length-take-le}
use Rattle.head_links.specs.declared.Link.{Link}
use Rattle.face_head.proofs.Laws.{length-links, length-table, load-turn, store-turn}
use Rattle.face_head.specs.Table.{link_words, link_in, five, words_at, table_words, links_of, room_of, loaded, stored}

-- there is room for each of them
pub room-is : (w n : ℕ) → (5 * room_of w n ≤ w) × (room_of w n ≤ n)
unfolding room_of
room-is w n = (omega arith, omega arith)

pub first-is : (k w n : ℕ) → (5 * min k (room_of w n) ≤ w) × (min k (room_of w n) ≤ n)
first-is k w n = let room = room-is w n in (omega (arith, room.0), omega (arith, room.1))

module _ (ws : List ℕ) (xs : List Link) where
  abbrev n : ℕ
  n = room_of (length ws) (length xs)

  loaded_to : ℕ → List Link
  loaded_to i = links_of i ws ++ drop i xs

  pub load_to : ℕ → List Link
  load_to i = loaded_to (min i n)

  pub load-zero : load_to 0 ≡ xs
  unfolding load_to loaded_to links_of
  load-zero = let e : min 0 n ≡ 0 = omega arith in rw e refl

  pub load-more : (i : ℕ) (v d : Link) → i < n → v ≡ link_in (words_at (drop (5 * i) ws)) → set (load_to i) i v ≡ load_to (suc i)
  unfolding load_to loaded_to
  load-more i v d h e =
      let now : min i n ≡ i = omega arith in
      let next : min (suc i) n ≡ suc i = omega arith in
      let below : i < length xs = omega (arith, (room-is (length ws) (length xs)).1) in
      load-turn ws xs (load_to i) i v d below e (ap loaded_to now) ∙ ap loaded_to (sym next)

  pub load-length : (i : ℕ) → length (load_to i) ≡ length xs
  unfolding load_to loaded_to
  load-length i =
      rw (length-append, length-links (min i n) ws, length-drop) (omega (arith, (room-is (length ws) (length xs)).1))

  pub load-all : (i : ℕ) → n ≤ i → load_to i ≡ loaded ws xs
  unfolding load_to loaded_to loaded
  load-all i h = let e : min i n ≡ n = omega arith in ap loaded_to e

module _ (xs : List Link) (k : ℕ) (ws : List ℕ) where
  abbrev m : ℕ
  m = min k (room_of (length ws) (length xs))

  stored_to : ℕ → List ℕ
  stored_to i = table_words (take i xs) ++ drop (5 * i) ws

  pub store_to : ℕ → List ℕ
  store_to i = stored_to (min i m)

  pub store-zero : store_to 0 ≡ ws
  unfolding store_to stored_to table_words
  store-zero = let e : min 0 m ≡ 0 = omega arith in rw e refl

  pub store-more : (i : ℕ) (d : Link) → i < m
      → take (5 * i) (store_to i) ++ five (link_words (get_or xs i d)) ++ drop (5 * i + 5) (store_to i) ≡ store_to (suc i)
  unfolding store_to stored_to
  store-more i d h =
      let now : min i m ≡ i = omega arith in
      let next : min (suc i) m ≡ suc i = omega arith in
      let below : i < length xs = omega (arith, (first-is k (length ws) (length xs)).1) in
      store-turn xs ws (store_to i) i d below (ap stored_to now) ∙ ap stored_to (sym next)

  pub store_length : (i : ℕ) → length (store_to i) ≡ length ws
  unfolding store_to stored_to
  store_length i =
      let few : min i m ≤ length xs = omega (arith, (first-is k (length ws) (length xs)).1) in
      rw (length-append, length-table (take (min i m) xs), length-take-le (min i m) xs few, length-drop) (omega (arith, (first-is k (length ws) (length xs)).0))

  pub store-all : (i : ℕ) → m ≤ i → store_to i ≡ stored xs k ws
  unfolding store_to stored_to stored
  store-all i h = let e : min i m ≡ m = omega arith in ap stored_to e
