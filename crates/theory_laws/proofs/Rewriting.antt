-- Marks, the numbers that take their place, and what is made of codes and transitions by these.
use mathlib.Core.Path.{◌≡◌, refl, sym, ap, ap₂, ◌∙◌}
use mathlib.Core.Logic.{by_cases}
use mathlib.Core.Bool.{Bool, true, ◌&&◌}
use mathlib.Core.List.{List, [], ◌∷◌, Memᴰ}
use Prim.Native.Nat.{ℕ, zero, suc, ◌+◌, ◌-◌, ◌/◌, ◌%◌, ◌^◌, ◌≤◌, ◌<◌}
use native.Mathlib.Omega.{arith}
use native.Mathlib.Decide.{dec_lt, ℕ_discrete}
use native.Mathlib.Numerals.{add-one}
use lib.ListN.{length, get_or, set, length-set, get_or-eq_default}
use Rattle.sets.specs.Tests.{Set, one, count}
use Rattle.sets.proofs.Bools.{bif, clash, and_i, and_l, and_r}
use Rattle.sets.proofs.Tests.{count-max}
use Rattle.theory.specs.Run.{source_of, target_of}
use Rattle.graph_walks.proofs.Sums.{split-set}
use Rattle.trim_spec.specs.Graph.{Inside}
use Rattle.trim_spec.specs.Trimmed.{picked, is_live, new_number, is_left_lem, renumber, renumbered}
use Rattle.trim_spec.specs.Tagged.{highs, lows, tag_of, Numbered, rewrite, rewritten}
use Rattle.theory_laws.proofs.Numbers.{live-yes, live-no, live-is, picked-in, picked-not, number_up}
use Rattle.theory_laws.proofs.Renumbering.{renumbered-yes}
use Rattle.theory_laws.proofs.Tagged.{highs-at, highs-length, highs-set, lows-set}

-- ---- counting one by one

module _ (ms : List ℕ) (i : ℕ) where
  pub number-yes : 0 < get_or ms i 0 → new_number ms (i + 1) ≡ new_number ms i + 1
  unfolding new_number count
  number-yes l = rw (add-one i, live-yes ms i l) refl

  pub number-no : get_or ms i 0 ≡ 0 → new_number ms (i + 1) ≡ new_number ms i
  unfolding new_number count
  number-no e = rw (add-one i, live-no ms i e) (omega arith)

  pub tag-yes : 0 < get_or ms i 0 → tag_of ms i ≡ new_number ms i + 1
  unfolding tag_of
  tag-yes l = rw (live-yes ms i l) (sym (add-one _))

  pub tag-no : get_or ms i 0 ≡ 0 → tag_of ms i ≡ 0
  unfolding tag_of
  tag-no e = rw (live-no ms i e)

pub number-start : (ms : List ℕ) → new_number ms 0 ≡ 0
unfolding new_number count
number-start ms = refl

-- ---- the loop that numbers: codes before i carry their numbers, k of them are not out

module _ (old : List ℕ) where
  pub record NumberedTo (xs : List ℕ) (k i : ℕ) : Type 0 where
    pub inside : i ≤ length old
    pub long : length xs ≡ length old
    pub counted : k ≡ new_number (highs old) i
    pub done : (j : ℕ) → j < i → get_or (highs xs) j 0 ≡ tag_of (highs old) j
    pub rest : (j : ℕ) → i ≤ j → get_or xs j 0 ≡ get_or old j 0
    pub codes : lows xs ≡ lows old

  pub none-numbered : NumberedTo old 0 0
  none-numbered = record { inside = omega arith; long = refl; counted = sym (number-start (highs old)); done = λ j l. absurd (omega arith); rest = λ j l. refl; codes = refl }

  module _ (xs : List ℕ) (k i : ℕ) (l : i < length old) (n : NumberedTo xs k i) where
    here : get_or (highs old) i 0 ≡ get_or xs i 0 / 2 ^ 48
    here = highs-at old i ∙ ap (λ (x : ℕ). x / 2 ^ 48) (sym (n.rest i (omega arith)))

    pub number-skip : get_or xs i 0 / 2 ^ 48 ≡ 0 → NumberedTo xs k (i + 1)
    number-skip z = record {
      inside = omega arith;
      long = n.long;
      counted = n.counted ∙ sym (number-no (highs old) i (here ∙ z));
      done = λ j h. by_cases (ℕ_discrete j i) (λ e. rw e (highs-at xs i ∙ z ∙ sym (tag-no (highs old) i (here ∙ z)))) (λ e. n.done j (omega arith));
      rest = λ j h. n.rest j (omega arith);
      codes = n.codes;
    }

    pub number_put : (v : ℕ) → 0 < get_or xs i 0 / 2 ^ 48 → v / 2 ^ 48 ≡ k + 1 → v % 2 ^ 48 ≡ get_or xs i 0 % 2 ^ 48 → NumberedTo (set xs i v) (k + 1) (i + 1)
    number_put v p a b =
        let q : 0 < get_or (highs old) i 0 = rw here p in
        let long = n.long in record {
          inside = omega arith;
          long = length-set xs i v ∙ n.long;
          counted = ap (λ (x : ℕ). x + 1) n.counted ∙ sym (number-yes (highs old) i q);
          done = λ j h. ap (λ (m : List ℕ). get_or m j 0) (highs-set xs i v)
              ∙ split-set (λ j x. j < i + 1 → x ≡ tag_of (highs old) j) (highs xs) i (v / 2 ^ 48) (let e = highs-length xs in omega arith)
              (λ h. a ∙ ap (λ (x : ℕ). x + 1) n.counted ∙ sym (tag-yes (highs old) i q)) (λ j d h. n.done j (omega arith)) j h;
          rest = split-set (λ j x. i + 1 ≤ j → x ≡ get_or old j 0) xs i v (omega arith) (λ h. absurd (omega arith)) (λ j d h. n.rest j (omega arith));
          codes = lows-set xs i v b ∙ n.codes;
        }

    -- one more is left, and all of them are few
    pub number-room : 0 < get_or xs i 0 / 2 ^ 48 → new_number (highs old) (length old) < 65536 → k + 1 < 65536
    number-room p few =
        let y = number-yes (highs old) i (rw here p) in
        omega (arith, number_up (highs old) (i + 1) (length old) (omega arith), n.counted)

  pub all-numbered : (xs : List ℕ) (k i : ℕ) → length old ≤ i → NumberedTo xs k i → Numbered (highs old) (highs xs) × (lows xs ≡ lows old)
  all-numbered xs k i l n = (
    record {
      long = highs-length xs ∙ n.long ∙ sym (highs-length old);
      each = λ j. by_cases (dec_lt j (length old)) (λ h. n.done j (omega arith))
          (λ h. let a = highs-length xs in let b = highs-length old in let c = n.long in
          get_or-eq_default (highs xs) 0 {n = j} (omega arith) ∙ sym (tag-no (highs old) j (get_or-eq_default (highs old) 0 {n = j} (omega arith))));
    },
    n.codes,
  )

-- ---- by the numbers in place of the marks

module _ (ms tags : List ℕ) (N : Numbered ms tags) where
  pub same_live : (i : ℕ) → is_live tags i ≡ is_live ms i
  same_live i =
      by_cases (dec_lt 0 (get_or ms i 0))
      (λ l. live-yes tags i (rw (N.each i ∙ tag-yes ms i l) (omega arith)) ∙ sym (live-yes ms i l))
      (λ l. live-no tags i (N.each i ∙ tag-no ms i (omega arith)) ∙ sym (live-no ms i (omega arith)))

  same_left : (t : ℕ) → is_left_lem tags t ≡ is_left_lem ms t
  unfolding is_left_lem
  same_left t = ap₂ (λ (a b : Bool). a && b) (same_live (source_of t)) (same_live (target_of t))

  number_of : (i : ℕ) → is_live ms i ≡ true → get_or tags i 0 - 1 ≡ new_number ms i
  number_of i e = let k = N.each i ∙ tag-yes ms i (live-is ms i e) in omega arith

  same_number : (t : ℕ) → is_left_lem ms t ≡ true → rewrite tags t ≡ renumber ms t
  unfolding is_left_lem rewrite renumber
  same_number t e =
      rw (number_of (source_of t) (and_l (is_live ms (source_of t)) (is_live ms (target_of t)) e), number_of (target_of t) (and_r (is_live ms (source_of t)) (is_live ms (target_of t)) e)) refl

  pub rewritten-is : (ts : List ℕ) → rewritten tags ts ≡ renumbered ms ts
  unfolding rewritten renumbered
  rewritten-is [] = refl
  rewritten-is (t ∷ ts) =
      bif (is_left_lem ms t)
      (λ e. let f = same_left t ∙ e in rw (e, f, rewritten, renumbered) (ap₂ (λ (x : ℕ) (l : List ℕ). x ∷ l) (same_number t e) (rewritten-is ts)))
      (λ e. let f = same_left t ∙ e in rw (e, f, rewritten, renumbered) (rewritten-is ts))

-- what is picked depends on which marks are 0 alone
pub picked_same : (ms ns cs : List ℕ) → ((i : ℕ) → is_live ns i ≡ is_live ms i) → length ns ≡ length ms → picked ns cs ≡ picked ms cs
unfolding picked is_live
picked_same [] [] cs h e = refl
picked_same [] (n ∷ ns) cs h e = absurd (omega arith)
picked_same (m ∷ ms) [] cs h e = absurd (omega arith)
picked_same (m ∷ ms) (n ∷ ns) [] h e = refl
picked_same (m ∷ ms) (n ∷ ns) (c ∷ cs) h e =
    let ih = picked_same ms ns cs (λ i. h (suc i)) (omega arith) in
    by_cases (dec_lt 0 m)
    (λ l. picked-in n ns c cs (live-is (n ∷ ns) 0 (h 0 ∙ live-yes (m ∷ ms) 0 l)) ∙ ap (λ (k : List ℕ). c ∷ k) ih ∙ sym (picked-in m ms c cs l))
    (λ l. let z : m ≡ 0 = omega arith in
    let y : n ≡ 0 = by_cases (dec_lt 0 n) (λ k. clash (live-yes (n ∷ ns) 0 k) (h 0 ∙ live-no (m ∷ ms) 0 z)) (λ k. omega arith) in
    picked-not n ns c cs y ∙ ih ∙ sym (picked-not m ms c cs z))

-- ---- all are left

count-full : (n : ℕ) (f : Set) → count n f ≡ n → (i : ℕ) → i < n → (f i ≡ true) × (count i f ≡ i)
unfolding count
count-full zero f e i l = absurd (omega arith)
count-full (suc n) f e i l =
    let m = count-max n f in
    bif (f n)
    (λ t. let a : one (f n) ≡ 1 = ap one t in let b : count n f ≡ n = omega arith in
    by_cases (ℕ_discrete i n) (λ q. (ap f q ∙ t, rw q b)) (λ q. count-full n f b i (omega arith)))
    (λ t. let a : one (f n) ≡ 0 = ap one t in absurd (omega arith))

module _ (ms ts : List ℕ) (full : new_number ms (length ms) ≡ length ms) (I : Inside (length ms) ts) where
  all_live : (i : ℕ) → i < length ms → (is_live ms i ≡ true) × (new_number ms i ≡ i)
  unfolding new_number
  all_live i l = count-full (length ms) (is_live ms) full i l

  kept_whole : (t : ℕ) → Memᴰ t ts → (is_left_lem ms t ≡ true) × (renumber ms t ≡ t)
  unfolding is_left_lem renumber
  kept_whole t m =
      let a = all_live (source_of t) (I.sources t m) in
      let b = all_live (target_of t) (I.targets t m) in
      (and_i a.0 b.0, rw (a.1, b.1) (omega arith))

pub renumbered-whole : (ms ts : List ℕ) → new_number ms (length ms) ≡ length ms → Inside (length ms) ts → renumbered ms ts ≡ ts
unfolding renumbered
renumbered-whole ms [] full I = refl
renumbered-whole ms (t ∷ ts) full I =
    let k = kept_whole ms (t ∷ ts) full I t (Memᴰ.head refl) in
    renumbered-yes ms t ts k.0
    ∙ ap₂ (λ (x : ℕ) (l : List ℕ). x ∷ l) k.1 (renumbered-whole ms ts full (record { sources = λ u m. I.sources u (Memᴰ.tail m); targets = λ u m. I.targets u (Memᴰ.tail m) }))
