-- The pass over the table, link by link, finds what the page `Facts` says.
-- Assumes nothing.
use Prim.Native.Nat.{ℕ, suc, ◌-◌, ◌<◌, ◌≤◌, min}
use mathlib.Core.Path.{◌≡◌, refl, sym, ap, ◌∙◌}
use mathlib.Core.Bool.{Bool, true, false, cond, not, ◌&&◌, ◌||◌}
use mathlib.Core.List.{List, [], ◌∷◌, ◌++◌}
use native.Mathlib.Omega.{arith}
use borrow.Author.Tests.{eq-eqb, ne_eqb, eqb-true, eqb-false}
use lib.Dec.{eqb}
use lib.ListN.{length, length-append}
use lib.Seq.{take-append_seam}
use Rattle.std.proofs.Math.Bool.{or_assoc, or-false, and_comm}
use Rattle.std.proofs.lemmas.List.{append_assoc}
use Rattle.clock.specs.Numbers.{furthest_advance}
use Rattle.frame.specs.declared.Address.{Address}
use Rattle.lent.specs.Folds.{each}
use Rattle.std.specs.List.{list_any}
use Rattle.head_links.specs.Link.{idle, is_held}
use Rattle.head_links.specs.Sound.{sound_of}
use Rattle.head_links.specs.declared.Link.{Link}
use Rattle.head_survey.specs.Facts.{is_few, holds, any_holds, are_all_sound, different, sound_table, idle_from, link_from, quiet_all, facts_of}
use Rattle.head_survey.specs.Pass.{begun, twice_of, sound_still, held_still, idle_still, link_still, quiet_still, passed}
use Rattle.head_survey.specs.declared.Look.{Look}
use Rattle.head_survey.specs.declared.Facts.{Facts}

-- ---- tests
eqb_swap : (a b : ℕ) → eqb a b ≡ eqb b a
eqb_swap a b = by-test (eqb a b) refl
  where
    by-test : (t : Bool) → eqb a b ≡ t → t ≡ eqb b a
    by-test true e = sym (eq-eqb b a (sym (eqb-true a b e)))
    by-test false e = sym (ne_eqb b a (λ p. eqb-false a b e (sym p)))

and_in : (a b c : Bool) → (a && (b && c)) ≡ (b && (a && c))
and_in true true c = refl
and_in true false c = refl
and_in false true c = refl
and_in false false c = refl

neither : (h p v : Bool) → not (h && (p || v)) ≡ (not (h && p) && not (h && v))
neither true true v = refl
neither true false v = refl
neither false p v = refl

regroup : (a w b z : Bool) → ((a && w) && (b && z)) ≡ ((a && b) && (w && z))
regroup true true true z = refl
regroup true true false z = refl
regroup true false true z = refl
regroup true false false z = refl
regroup false w b z = refl

gather : (s l a r p q d : Bool) → (((s && l) && a) && (r && ((p && q) && d))) ≡ (s && ((l && r) && ((a && p) && (q && d))))
gather false l a r p q d = refl
gather true false a r p q d = refl
gather true true false true p q d = refl
gather true true false false p q d = refl
gather true true true false p q d = refl
gather true true true true false q d = refl
gather true true true true true q d = refl

-- ---- addresses
any-more : (a : Address) (pre : List Link) (x : Link) → any_holds a (pre ++ (x ∷ [])) ≡ (any_holds a pre || holds a x)
any-more a [] x = or-false (holds a x)
any-more a (y ∷ pre) x = ap (λ (t : Bool). holds a y || t) (any-more a pre x) ∙ sym (or_assoc (holds a y) (any_holds a pre) (holds a x))

pub any-is : (a : Address) (xs : List Link) → list_any (holds a) xs ≡ any_holds a xs
any-is a [] = refl
any-is a (x ∷ xs) = ap (λ (t : Bool). holds a x || t) (any-is a xs)

-- none of xs is held at an address that one of pre holds
apart : List Link → List Link → Bool
apart pre [] = true
apart pre (x ∷ xs) = not (is_held x.state && any_holds x.address pre) && apart pre xs

apart_none : (xs : List Link) → apart [] xs ≡ true
unfolding apart
apart_none [] = refl
apart_none (x ∷ xs) = ap (λ (t : Bool). not t && apart [] xs) (and_comm (is_held x.state) false) ∙ apart_none xs

meet-swap : (x y : Link) → (is_held y.state && holds y.address x) ≡ (is_held x.state && holds x.address y)
unfolding holds
meet-swap x y =
    and_in (is_held y.state) (is_held x.state) (eqb x.address.0 y.address.0)
    ∙ ap (λ (t : Bool). is_held x.state && (is_held y.state && t)) (eqb_swap x.address.0 y.address.0)

apart_more : (pre : List Link) (x : Link) (ys : List Link) → apart (pre ++ (x ∷ [])) ys ≡ (apart pre ys && not (is_held x.state && any_holds x.address ys))
unfolding apart
apart_more pre x [] = sym (ap not (and_comm (is_held x.state) false))
apart_more pre x (y ∷ ys) =
    ap (λ (t : Bool). not (is_held y.state && t) && apart (pre ++ (x ∷ [])) ys) (any-more y.address pre x)
    ∙ ap (λ (t : Bool). t && apart (pre ++ (x ∷ [])) ys) (neither (is_held y.state) (any_holds y.address pre) (holds y.address x))
    ∙ ap (λ (t : Bool). (not (is_held y.state && any_holds y.address pre) && not t) && apart (pre ++ (x ∷ [])) ys) (meet-swap x y)
    ∙ ap (λ (t : Bool). (not (is_held y.state && any_holds y.address pre) && not (is_held x.state && holds x.address y)) && t) (apart_more pre x ys)
    ∙ regroup (not (is_held y.state && any_holds y.address pre)) (not (is_held x.state && holds x.address y)) (apart pre ys) (not (is_held x.state && any_holds x.address ys))
    ∙ ap (λ (t : Bool). (not (is_held y.state && any_holds y.address pre) && apart pre ys) && t) (sym (neither (is_held x.state) (holds x.address y) (any_holds x.address ys)))

-- ---- each fact by itself
sound_run : List Link → ℕ → List Link → Bool → Bool
sound_run zs k [] s = s
sound_run zs k (x ∷ xs) s = sound_run zs (suc k) xs (sound_still s x (twice_of zs x (k - 1)))

held_run : Address → List Link → Bool → Bool
held_run a [] h = h
held_run a (x ∷ xs) h = held_run a xs (held_still h x a)

idle_run : ℕ → List Link → ℕ → ℕ
idle_run k [] i = i
idle_run k (x ∷ xs) i = idle_run (suc k) xs (idle_still i x k)

link_run : ℕ → ℕ → List Link → Link → Link
link_run asked k [] l = l
link_run asked k (x ∷ xs) l = link_run asked (suc k) xs (link_still l x k asked)

quiet_run : List Link → ℕ → ℕ
quiet_run [] q = q
quiet_run (x ∷ xs) q = quiet_run xs (quiet_still q x)

by_parts : (zs : List Link) (look : Look) (k : ℕ) (xs : List Link) (f : Facts) → each (passed zs look) k xs f ≡ record {
  sound = sound_run zs k xs f.sound;
  held = held_run look.address xs f.held;
  idle = idle_run k xs f.idle;
  link = link_run look.link k xs f.link;
  quiet = quiet_run xs f.quiet;
}
unfolding each sound_run held_run idle_run link_run quiet_run
by_parts zs look k [] f = refl
by_parts zs look k (x ∷ xs) f = by_parts zs look (suc k) xs (passed zs look k x f)

held-is : (a : Address) (xs : List Link) (h : Bool) → held_run a xs h ≡ (h || any_holds a xs)
unfolding held_run
held-is a [] true = refl
held-is a [] false = refl
held-is a (x ∷ xs) h = held-is a xs (h || holds a x) ∙ or_assoc h (holds a x) (any_holds a xs)

idle-is : (j : ℕ) (xs : List Link) (i : ℕ) → idle_run (suc j) xs i ≡ cond (eqb i 0) (idle_from (suc j) xs) i
unfolding idle_run idle_still
idle-is j [] i = none (eqb i 0) refl
  where
    none : (t : Bool) → eqb i 0 ≡ t → i ≡ cond t 0 i
    none true e = eqb-true i 0 e
    none false e = refl
idle-is j (x ∷ xs) i = idle-is (suc j) xs (cond (eqb i 0 && not (is_held x.state)) (suc j) i) ∙ by-test (eqb i 0) refl (is_held x.state)
  where
    later : suc j ≡ 0 → ⊥
    later z = omega (arith, z)

    by-test : (t : Bool) → eqb i 0 ≡ t → (h : Bool)
        → cond (eqb (cond (t && not h) (suc j) i) 0) (idle_from (suc (suc j)) xs) (cond (t && not h) (suc j) i) ≡ cond t (cond h (idle_from (suc (suc j)) xs) (suc j)) i
    by-test true e true = rw e
    by-test true e false = rw (ne_eqb (suc j) 0 later)
    by-test false e h = rw e

-- a number that is passed is not met again
link-past : (asked k : ℕ) (xs : List Link) (l : Link) → asked < k → link_run asked k xs l ≡ l
unfolding link_run link_still
link-past asked k [] l h = refl
link-past asked k (x ∷ xs) l h = rw (ne_eqb k asked (λ e. differs e)) (link-past asked (suc k) xs l (omega arith))
  where
    differs : k ≡ asked → ⊥
    differs e = omega (arith, h, e)

link-is : (asked k : ℕ) (xs : List Link) → link_run asked k xs idle ≡ link_from asked k xs
unfolding link_run link_still
link-is asked k [] = refl
link-is asked k (x ∷ xs) = by-test (link-is asked (suc k) xs) (eqb k asked) refl
  where
    by-test : link_run asked (suc k) xs idle ≡ link_from asked (suc k) xs → (t : Bool) → eqb k asked ≡ t → link_run asked (suc k) xs (cond t x idle) ≡ cond t x (link_from asked (suc k) xs)
    by-test rest true e = link-past asked (suc k) xs x (omega (arith, eqb-true k asked e))
    by-test rest false e = rest

sound-is : (pre xs : List Link) (s : Bool) → sound_run (pre ++ xs) (suc (length pre)) xs s ≡ (s && (are_all_sound xs && (apart pre xs && different xs)))
unfolding sound_run apart
sound-is pre [] true = refl
sound-is pre [] false = refl
sound-is pre (x ∷ xs) s =
    ap (λ (t : Bool). sound_run (pre ++ (x ∷ xs)) (suc (suc (length pre))) xs (s && sound_of x && not t)) seen
    ∙ ap (λ (zs : List Link). sound_run zs (suc (suc (length pre))) xs (s && sound_of x && not met)) (sym (append_assoc pre (x ∷ []) xs))
    ∙ ap (λ (k : ℕ). sound_run ((pre ++ (x ∷ [])) ++ xs) (suc k) xs (s && sound_of x && not met)) longer
    ∙ sound-is (pre ++ (x ∷ [])) xs (s && sound_of x && not met)
    ∙ ap (λ (t : Bool). (s && sound_of x && not met) && (are_all_sound xs && (t && different xs))) (apart_more pre x xs)
    ∙ gather s (sound_of x) (not met) (are_all_sound xs) (apart pre xs) (not (is_held x.state && any_holds x.address xs)) (different xs)
  where
    met : Bool
    met = is_held x.state && any_holds x.address pre

    before : suc (length pre) - 1 ≡ length pre
    before = omega arith

    seen : twice_of (pre ++ (x ∷ xs)) x (suc (length pre) - 1) ≡ met
    seen =
        ap (λ (i : ℕ). twice_of (pre ++ (x ∷ xs)) x i) before
        ∙ ap (λ (t : List Link). is_held x.state && any_holds x.address t) (take-append_seam pre (x ∷ xs))

    longer : suc (length pre) ≡ length (pre ++ (x ∷ []))
    longer = simp length-append (omega arith)

quiet-most : (xs : List Link) → quiet_all xs ≤ furthest_advance
quiet-most [] = omega arith
quiet-most (x ∷ xs) = let h = quiet-most xs in omega arith

quiet_is : (xs : List Link) (q : ℕ) → q ≤ furthest_advance → quiet_run xs q ≡ min q (quiet_all xs)
unfolding quiet_run
quiet_is [] q h = omega arith
quiet_is (x ∷ xs) q h =
    let e = quiet_is xs (quiet_still q x) (omega arith) in
    omega arith

quiet-whole : (xs : List Link) → quiet_run xs furthest_advance ≡ quiet_all xs
quiet-whole xs =
    let e = quiet_is xs furthest_advance (omega arith) in
    let h = quiet-most xs in
    omega arith

-- all of them
whole : (xs : List Link) (look : Look) (s : Bool) → each (passed xs look) 1 xs (record { sound = s; held = false; idle = 0; link = idle; quiet = furthest_advance }) ≡ record {
  sound = s && (are_all_sound xs && (true && different xs));
  held = any_holds look.address xs;
  idle = idle_from 1 xs;
  link = link_from look.link 1 xs;
  quiet = quiet_all xs;
}
whole xs look s =
    by_parts xs look 1 xs (record { sound = s; held = false; idle = 0; link = idle; quiet = furthest_advance })
    ∙ rw (sound-is [] xs s, apart_none xs, held-is look.address xs false, idle-is 0 xs 0, link-is look.link 1 xs, quiet-whole xs)

pub passed-all : (xs : List Link) (look : Look) → is_few (length xs) ≡ true → each (passed xs look) 1 xs (begun (length xs)) ≡ facts_of xs look
unfolding facts_of sound_table
passed-all xs look e = whole xs look (is_few (length xs)) ∙ rw e refl

pub passed_none : (xs : List Link) (look : Look) → is_few (length xs) ≡ false → begun (length xs) ≡ facts_of xs look
unfolding facts_of
passed_none xs look e = rw e refl
