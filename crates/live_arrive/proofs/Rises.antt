-- Ascending numbers, one and four a turn.
use mathlib.Core.Path.{◌≡◌, refl, sym, ◌∙◌, ap}
use mathlib.Core.Bool.{Bool, true, false, ◌&&◌, and_assoc}
use mathlib.Core.List.{List, [], ◌∷◌, Memᴰ}
use Prim.Native.Nat.{ℕ, ◌+◌, ◌-◌, ◌≤◌, ◌<◌}
use mathlib.Core.Logic.{by_cases}
use native.Mathlib.Decide.{ℕ_discrete}
use Rattle.sets.proofs.Lists.{place_of}
use Rattle.sets.proofs.Ascending.{asc-at}
use Rattle.slice_search.proofs.Ascends.{ascends-asc}
use native.Mathlib.Omega.{arith}
use lib.Dec.{ltb}
use lib.ListN.{length, get_or, drop, drop_of_length-le}
use borrow.Author.Tests.{lt-ltb, le-ltb}
use Rattle.sets.proofs.Walks.{drop-next}
use Rattle.slice_search.specs.Places.{ascends, ascends_from}
use Rattle.live_arrive.specs.Tried.{rises_four}

pub rises-none : (xs : List ℕ) → length xs ≡ 0 → true ≡ ascends xs
unfolding ascends
rises-none [] e = refl
rises-none (x ∷ xs) e = absurd (omega arith)

pub rises-start : (xs : List ℕ) → 0 < length xs → ascends xs ≡ ascends_from (get_or xs 0 0) (drop 1 xs)
unfolding ascends ascends_from
rises-start [] h = absurd (omega arith)
rises-start (x ∷ xs) h = refl

-- no element is above the last
pub below_last : (xs : List ℕ) → ascends xs ≡ true → (x : ℕ) → Memᴰ x xs → x ≤ get_or xs (length xs - 1) 0
below_last xs e x m =
    let (i, l, f) = place_of xs x m in
    by_cases (ℕ_discrete i (length xs - 1)) (λ q. rw (sym q) (omega arith)) (λ q. omega (arith, asc-at xs (ascends-asc xs e) i (length xs - 1) (omega arith) (omega arith)))

module _ (xs : List ℕ) where
  turn : (x i : ℕ) → i < length xs → ascends_from x (drop i xs) ≡ ltb x (get_or xs i 0) && ascends_from (get_or xs i 0) (drop (i + 1) xs)
  unfolding ascends_from
  turn x i l = rw (drop-next xs i l)

  -- from place i on the numbers ascend from above x if the first is above x and the others ascend from above it; i may be written j, and j + 1 k
  turn_at : (x i j k : ℕ) → i ≡ j → j + 1 ≡ k → j < length xs → ascends_from x (drop i xs) ≡ ltb x (get_or xs j 0) && ascends_from (get_or xs j 0) (drop k xs)
  turn_at x i j k e f l = ap (λ (p : ℕ). ascends_from x (drop p xs)) e ∙ turn x j l ∙ ap (λ (p : ℕ). ltb x (get_or xs j 0) && ascends_from (get_or xs j 0) (drop p xs)) f

  four : (x i : ℕ) → i + 4 ≤ length xs → ascends_from x (drop i xs) ≡ rises_four x xs i && ascends_from (get_or xs (i + 3) 0) (drop (i + 4) xs)
  unfolding rises_four
  four x i l =
      let a = get_or xs i 0 in
      let b = get_or xs (i + 1) 0 in
      let c = get_or xs (i + 2) 0 in
      let d = get_or xs (i + 3) 0 in
      let rest = ascends_from d (drop (i + 4) xs) in
      let three : ascends_from c (drop (i + 3) xs) ≡ ltb c d && rest = turn_at c (i + 3) (i + 3) (i + 4) refl (omega arith) (omega arith) in
      let two : ascends_from b (drop (i + 2) xs) ≡ (ltb b c && ltb c d) && rest =
      turn_at b (i + 2) (i + 2) (i + 3) refl (omega arith) (omega arith) ∙ ap (λ (u : Bool). ltb b c && u) three ∙ sym (and_assoc (ltb b c) (ltb c d) rest) in
      let one : ascends_from a (drop (i + 1) xs) ≡ (ltb a b && (ltb b c && ltb c d)) && rest =
      turn_at a (i + 1) (i + 1) (i + 2) refl (omega arith) (omega arith) ∙ ap (λ (u : Bool). ltb a b && u) two ∙ sym (and_assoc (ltb a b) (ltb b c && ltb c d) rest) in
      turn x i (omega arith) ∙ ap (λ (u : Bool). ltb x a && u) one ∙ sym (and_assoc (ltb x a) (ltb a b && (ltb b c && ltb c d)) rest)

  pub rises-four : (x i : ℕ) → i + 4 ≤ length xs → rises_four x xs i ≡ true → ascends xs ≡ ascends_from x (drop i xs) → ascends xs ≡ ascends_from (get_or xs (i + 3) 0) (drop (i + 4) xs)
  rises-four x i l h e = e ∙ four x i l ∙ rw h

  pub falls-four : (x i : ℕ) → i + 4 ≤ length xs → rises_four x xs i ≡ false → ascends xs ≡ ascends_from x (drop i xs) → false ≡ ascends xs
  falls-four x i l h e = sym (e ∙ four x i l ∙ rw h)

  pub rises-one : (x i : ℕ) → i < length xs → x < get_or xs i 0 → ascends xs ≡ ascends_from x (drop i xs) → ascends xs ≡ ascends_from (get_or xs i 0) (drop (i + 1) xs)
  rises-one x i l h e = e ∙ turn x i l ∙ rw (lt-ltb x (get_or xs i 0) h)

  pub falls-one : (x i : ℕ) → i < length xs → get_or xs i 0 ≤ x → ascends xs ≡ ascends_from x (drop i xs) → false ≡ ascends xs
  falls-one x i l h e = sym (e ∙ turn x i l ∙ rw (le-ltb x (get_or xs i 0) h))

  pub rises-end : (x i : ℕ) → length xs ≤ i → ascends xs ≡ ascends_from x (drop i xs) → true ≡ ascends xs
  unfolding ascends_from
  rises-end x i l e = sym (e ∙ rw (drop_of_length-le xs l))

-- ---- four numbers, one by one

module _ (x : ℕ) (xs : List ℕ) (i : ℕ) where
  pub four-first : get_or xs i 0 ≤ x → false ≡ rises_four x xs i
  unfolding rises_four
  four-first h = rw (le-ltb x (get_or xs i 0) h)

  pub four-second : x < get_or xs i 0 → get_or xs (i + 1) 0 ≤ get_or xs i 0 → false ≡ rises_four x xs i
  unfolding rises_four
  four-second a h = rw (lt-ltb x (get_or xs i 0) a, le-ltb (get_or xs i 0) (get_or xs (i + 1) 0) h)

  pub four-third : x < get_or xs i 0 → get_or xs i 0 < get_or xs (i + 1) 0 → get_or xs (i + 2) 0 ≤ get_or xs (i + 1) 0 → false ≡ rises_four x xs i
  unfolding rises_four
  four-third a b h = rw (lt-ltb x (get_or xs i 0) a, lt-ltb (get_or xs i 0) (get_or xs (i + 1) 0) b, le-ltb (get_or xs (i + 1) 0) (get_or xs (i + 2) 0) h)

  pub four-last : x < get_or xs i 0 → get_or xs i 0 < get_or xs (i + 1) 0 → get_or xs (i + 1) 0 < get_or xs (i + 2) 0 → ltb (get_or xs (i + 2) 0) (get_or xs (i + 3) 0) ≡ rises_four x xs i
  unfolding rises_four
  four-last a b h = rw (lt-ltb x (get_or xs i 0) a, lt-ltb (get_or xs i 0) (get_or xs (i + 1) 0) b, lt-ltb (get_or xs (i + 1) 0) (get_or xs (i + 2) 0) h)
