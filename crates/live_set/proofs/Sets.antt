-- The set over a table, one turn of a loop at a time.
use mathlib.Core.Path.{◌≡◌, refl, sym, ◌∙◌, ap}
use mathlib.Core.Logic.{by_cases}
use mathlib.Core.Bool.{Bool, true, false, ◌||◌, or-true, or-false}
use mathlib.Core.List.{List, [], ◌∷◌, map}
use Prim.Native.Nat.{ℕ, zero, suc, ◌+◌, ◌/◌, ◌%◌, ◌≤◌, ◌<◌}
use native.Mathlib.Decide.{ℕ_discrete}
use native.Mathlib.Numerals.{add-one}
use native.Mathlib.Omega.{arith}
use lib.Dec.{eqb, ltb}
use lib.ListN.{length, get_or, set, take, length-set, length-map, get_or-map}
use lib.Seq.{ext_get_or, get_or-set_same, get_or-set_other, take-suc, take_all}
use borrow.Author.Tests.{eq-eqb, ne_eqb, lt-ltb, le-ltb}
use Rattle.sets.specs.Tests.{Set, one}
use Rattle.sets.specs.Lists.{any_of}
use Rattle.sets.proofs.Bools.{bif}
use Rattle.sets.proofs.Lists.{any-cons, any_append}
use Rattle.sets.specs.Masks.{bit}
use Rattle.sets.proofs.Digits.{digit-num}
use Rattle.codes.specs.Bytes.{word_at}
use Rattle.theory.specs.Macrostate.{begun}
use Rattle.theory.specs.Run.{source_of, letter_of_lem, target_of}
use Rattle.live_spec.specs.Afresh.{is_in, enters, stepped, initial_set}
use Rattle.live_spec.proofs.Steps.{one-low, in_one, table_at, step-ext, stepped-length}
use Rattle.live_set.specs.Sweeps.{flag_of_lem, moved, Swept}

-- ---- loops that put f of each element of a list into another, or into its own place

map_at : (f : ℕ → ℕ) (xs : List ℕ) (i : ℕ) → i < length xs → get_or (map f xs) i 0 ≡ f (get_or xs i 0)
map_at f [] i l = absurd (omega arith)
map_at f (x ∷ xs) zero l = refl
map_at f (x ∷ xs) (suc i) l = map_at f xs i (omega arith)

pub mapped : (f : ℕ → ℕ) (before after : List ℕ) → length after ≡ length before → ((j : ℕ) → j < length before → get_or after j 0 ≡ f (get_or before j 0)) → after ≡ map f before
mapped f before after e h =
    ext_get_or 0 after (map f before) (e ∙ sym (length-map before f))
    (λ i l. let m : i < length before = omega arith in h i m ∙ sym (map_at f before i m))

-- the initial macrostates
pub initial-end : (q : ℕ) (codes after : List ℕ) → length after ≡ length codes
    → ((j : ℕ) → j < length codes → get_or after j 0 ≡ one (begun (λ d. bit d q) (get_or codes j 0))) → after ≡ initial_set q codes
unfolding initial_set
initial-end q codes after long h = mapped (λ c. one (begun (λ d. bit d q) c)) codes after long h

-- the elements before i are through f, the others as they were
pub record Through (f : ℕ → ℕ) (before after : List ℕ) (i : ℕ) : Type 0 where
  pub long : length after ≡ length before
  pub done : (j : ℕ) → j < i → get_or after j 0 ≡ f (get_or before j 0)
  pub rest : (j : ℕ) → i ≤ j → get_or after j 0 ≡ get_or before j 0

module _ (f : ℕ → ℕ) (before : List ℕ) where
  pub through-start : Through f before before 0
  through-start = record { long = refl; done = λ j l. absurd (omega arith); rest = λ j l. refl }

  pub through-next : (after : List ℕ) (i v : ℕ) → i < length before → v ≡ f (get_or after i 0) → Through f before after i → Through f before (set after i v) (i + 1)
  through-next after i v l e t = record {
    long = length-set after i v ∙ t.long;
    done = λ j k.
        by_cases (ℕ_discrete j i)
        (λ x. rw x (get_or-set_same after i v 0 (omega (arith, t.long)) ∙ e ∙ ap f (t.rest i (omega arith))))
        (λ x. get_or-set_other after i j v 0 x ∙ t.done j (omega arith));
    rest = λ j k. get_or-set_other after i j v 0 (λ x. omega arith) ∙ t.rest j (omega arith);
  }

  pub through-end : (after : List ℕ) (i : ℕ) → length before ≤ i → Through f before after i → after ≡ map f before
  through-end after i l t = mapped f before after t.long (λ j k. t.done j (omega arith))

-- ---- one transition

module _ (a t : ℕ) (bytes : List ℕ) where
  pub moved_other : (letter_of_lem t ≡ a → ⊥) → bytes ≡ moved a t bytes
  unfolding moved
  moved_other n = rw (ne_eqb (letter_of_lem t) a n)

  pub moved_none : letter_of_lem t ≡ a → get_or bytes (source_of t) 0 % 2 ≡ 0 → bytes ≡ moved a t bytes
  unfolding moved
  moved_none e z = rw (eq-eqb (letter_of_lem t) a e, z)

  pub moved-yes : letter_of_lem t ≡ a → (get_or bytes (source_of t) 0 % 2 ≡ 0 → ⊥) → set bytes (target_of t) (2 + get_or bytes (target_of t) 0 % 2) ≡ moved a t bytes
  unfolding moved
  moved-yes e n = let o : get_or bytes (source_of t) 0 % 2 ≡ 1 = omega arith in rw (eq-eqb (letter_of_lem t) a e, o)

-- the letter of the transition in eight bytes is the third of them
pub letter-byte : (bytes : List ℕ) (i : ℕ) → ((j : ℕ) → get_or bytes j 0 < 256) → letter_of_lem (word_at bytes i) ≡ get_or bytes (i + 2) 0
unfolding word_at
letter-byte bytes i h = digit-num 256 (omega arith) 8 (λ j. get_or bytes (i + j) 0) (λ j l. h (i + j)) 2 (omega arith)

-- ---- a sweep

-- one member more of a front part
module _ (f : Set) (ts : List ℕ) (i : ℕ) (l : i < length ts) where
  any_last : any_of (take (i + 1) ts) f ≡ any_of (take i ts) f || (f (get_or ts i 0) || false)
  unfolding any_of
  any_last = rw (add-one i, take-suc ts i 0 l, any_append (take i ts) (get_or ts i 0 ∷ []) f, any-cons f (get_or ts i 0) [])

  last-yes : f (get_or ts i 0) ≡ true → one (any_of (take (i + 1) ts) f) ≡ 1
  last-yes e = ap one (any_last ∙ ap (λ (u : Bool). any_of (take i ts) f || (u || false)) e ∙ or-true (any_of (take i ts) f))

  last-no : f (get_or ts i 0) ≡ false → one (any_of (take (i + 1) ts) f) ≡ one (any_of (take i ts) f)
  last-no e = ap one (any_last ∙ ap (λ (u : Bool). any_of (take i ts) f || (u || false)) e ∙ or-false (any_of (take i ts) f))

-- what a transition enters
module _ (bytes : List ℕ) (a y t : ℕ) where
  enters-other : eqb (letter_of_lem t) a ≡ false → enters bytes a y t ≡ false
  unfolding enters
  enters-other e = rw e

  enters_none : is_in bytes (source_of t) ≡ false → enters bytes a y t ≡ false
  unfolding enters
  enters_none e = bif (eqb (letter_of_lem t) a) (λ u. rw (u, e)) (λ u. rw u)

  enters-elsewhere : (target_of t ≡ y → ⊥) → enters bytes a y t ≡ false
  unfolding enters
  enters-elsewhere n = bif (eqb (letter_of_lem t) a) (λ u. rw u (bif (is_in bytes (source_of t)) (λ v. rw (v, ne_eqb (target_of t) y n)) (λ v. rw v))) (λ u. rw u)

  enters-yes : eqb (letter_of_lem t) a ≡ true → is_in bytes (source_of t) ≡ true → target_of t ≡ y → enters bytes a y t ≡ true
  unfolding enters
  enters-yes e g f = rw (e, g, eq-eqb (target_of t) y f)

module _ (a : ℕ) (ts before : List ℕ) (low : (y : ℕ) → get_or before y 0 ≤ 1) where
  pub swept-start : Swept a (take 0 ts) before before
  unfolding any_of
  swept-start = record { long = refl; at = λ y l. omega arith }

  -- bit 0 stays
  parity : (xs after : List ℕ) (x : ℕ) → x < length before → Swept a xs before after → eqb (get_or after x 0 % 2) 1 ≡ is_in before x
  parity xs after x l s =
      by_cases (ℕ_discrete (get_or before x 0) 0)
      (λ z. ne_eqb (get_or after x 0 % 2) 1 (λ e. omega (arith, s.at x l)) ∙ sym (le-ltb 0 (get_or before x 0) (omega arith)))
      (λ n. eq-eqb (get_or after x 0 % 2) 1 (omega (arith, s.at x l, low x)) ∙ sym (lt-ltb 0 (get_or before x 0) (omega arith)))

  module _ (after : List ℕ) (i : ℕ) (l : i < length ts) (source : source_of (get_or ts i 0) < length before) (target : target_of (get_or ts i 0) < length before) (s : Swept a (take i ts) before after) where
    still : ((y : ℕ) → enters before a y (get_or ts i 0) ≡ false) → Swept a (take (i + 1) ts) before after
    still none = record { long = s.long; at = λ y k. omega (arith, s.at y k, last-no (enters before a y) ts i l (none y)) }

    put : eqb (letter_of_lem (get_or ts i 0)) a ≡ true → is_in before (source_of (get_or ts i 0)) ≡ true
        → Swept a (take (i + 1) ts) before (set after (target_of (get_or ts i 0)) (2 + get_or after (target_of (get_or ts i 0)) 0 % 2))
    put e h =
        let t = get_or ts i 0 in
        let z = target_of t in
        record {
          long = length-set after z (2 + get_or after z 0 % 2) ∙ s.long;
          at = λ y k.
              by_cases (ℕ_discrete y z)
              (λ x.
              let same : get_or (set after z (2 + get_or after z 0 % 2)) z 0 ≡ 2 + get_or after z 0 % 2 = get_or-set_same after z (2 + get_or after z 0 % 2) 0 (omega (arith, s.long)) in
              let new = last-yes (enters before a z) ts i l (enters-yes before a z t e h refl) in
              rw x (omega (arith, same, new, s.at z target, low z)))
              (λ x.
              let other = get_or-set_other after z y (2 + get_or after z 0 % 2) 0 x in
              let old = last-no (enters before a y) ts i l (enters-elsewhere before a y t (λ q. x (sym q))) in
              omega (arith, other, old, s.at y k));
        }

    pub swept-next : Swept a (take (i + 1) ts) before (moved a (get_or ts i 0) after)
    unfolding moved
    swept-next =
        let t = get_or ts i 0 in
        let same = parity (take i ts) after (source_of t) source s in
        bif (eqb (letter_of_lem t) a)
        (λ u. bif (is_in before (source_of t))
        (λ v. rw (u, same ∙ v) (put u v))
        (λ v. rw (u, same ∙ v) (still (λ y. enters_none before a y t v))))
        (λ u. rw u (still (λ y. enters-other before a y t u)))

  pub swept-end : (after : List ℕ) (i : ℕ) → length ts ≤ i → Swept a (take i ts) before after → Swept a ts before after
  swept-end after i l s = rw (take_all i ts l) at s

-- ---- a letter

-- a list whose halves tell what is entered
stepped-map : (n a : ℕ) (ts xs after : List ℕ) → length after ≡ n → ((y : ℕ) → y < n → get_or after y 0 / 2 ≡ one (any_of ts (enters xs a y))) → stepped n ts a xs ≡ map (λ v. v / 2) after
unfolding stepped
stepped-map n a ts xs after e h =
    mapped (λ v. v / 2) after (stepped n ts a xs) (stepped-length n ts a xs ∙ sym e)
    (λ j l. let m : j < n = omega arith in table_at n (λ y. one (any_of ts (enters xs a y))) j m ∙ sym (h j m))

module _ (a : ℕ) (ts before : List ℕ) where
  flags-at : (y : ℕ) → get_or (map flag_of_lem before) y 0 ≡ flag_of_lem (get_or before y 0)
  flags-at y = get_or-map flag_of_lem before y 0

  pub flags-low : (y : ℕ) → get_or (map flag_of_lem before) y 0 ≤ 1
  flags-low y = rw (flags-at y) (one-low (ltb 0 (get_or before y 0)))

  same_set : (x : ℕ) → is_in (map flag_of_lem before) x ≡ is_in before x
  same_set x = ap (λ (v : ℕ). ltb 0 v) (flags-at x) ∙ in_one (ltb 0 (get_or before x 0))

  pub arrived : (after : List ℕ) → Swept a ts (map flag_of_lem before) after → map (λ v. v / 2) after ≡ stepped (length before) ts a before
  arrived after s =
      let flags = map flag_of_lem before in
      let long : length after ≡ length before = s.long ∙ length-map before flag_of_lem in
      sym (stepped-map (length before) a ts flags after long
      (λ y l.
      let e = s.at y (omega (arith, length-map before flag_of_lem)) in
      omega (arith, e, flags-low y)))
      ∙ step-ext (length before) ts a flags before (λ t m. same_set (source_of t))
