-- What a text can carry, told with no code and no rule.
use mathlib.Core.Path.{◌≡◌, refl, sym, ◌∙◌, ap, ap₂}
use mathlib.Core.Bool.{Bool, true, false, cond, ◌&&◌}
use mathlib.Core.List.Memᴰ
use mathlib.Core.List.{List, [], ◌∷◌, Memᴰ}
use mathlib.Core.Logic.{by_cases, ⊎_elim}
use Prim.Native.Nat.{ℕ, zero, suc, ◌+◌, ◌*◌, ◌/◌, ◌%◌, ◌^◌, ◌≤◌, ◌<◌}
use native.Mathlib.Omega.{arith}
use native.Mathlib.Decide.{dec_lt}
use native.Mathlib.Nat.{zero-add}
use lib.Dec.{ltb, eqb, leb}
use lib.ListN.{length, get_or}
use borrow.Author.Tests.{ltb-true, ltb-false, lt-ltb, le-ltb, le-leb, leb-true, eq-eqb, ne_eqb}
use Rattle.sets.specs.Tests.{Set, one, first}
use Rattle.sets.specs.Masks.{bit}
use Rattle.sets.specs.Lists.{Above, end, more, Ascending, none, from}
use Rattle.sets.proofs.Bools.{bif, and_r}
use Rattle.sets.proofs.Tests.{first-hits, first-le}
use Rattle.sets.proofs.Ascending.{above_in, above-asc}
use Rattle.theory.specs.Code.{component_in, classes_in}
use Rattle.theory.specs.Macrostate.{begun, is_accepting_lem}
use Rattle.listing_lines_spec.specs.Lines.{initial_at}
use Rattle.table_rows.specs.Passed.{Passed}
use Rattle.hoa_spec.specs.Lines.{propositions}
use Rattle.hoa_spec.specs.Text.{flag_of_lem, flags_of, automaton_text, text_of}
use Rattle.hoa_laws.proofs.Flags as flags
use Rattle.hoa_spec.specs.Reading.{Carries}
use Rattle.hoa_spec.specs.Shape.{flags_from, Marked, Shaped}
use Rattle.hoa_laws.proofs.Marks.{marked-length}

-- ---- the propositions

module _ (s : ℕ) (h : s ≤ 16) where
  pub few-propositions : propositions s ≤ 4
  unfolding propositions
  few-propositions = first-le 5 (λ b. leb s (2 ^ b)) 0 4 (omega arith) (le-leb s 16 h)

  pub told-apart : s ≤ 2 ^ propositions s
  unfolding propositions
  told-apart = leb-true s (2 ^ first 5 (λ b. leb s (2 ^ b)) 0) (first-hits 5 (λ b. leb s (2 ^ b)) 0 (le-leb s 32 (omega arith)))

pub all-letters : (b : ℕ) → b ≤ 4 → (propositions (2 ^ b) ≡ b) × (1 ≤ 2 ^ b) × (2 ^ b ≤ 16)
unfolding propositions first
all-letters zero h = (refl, omega arith, omega arith)
all-letters (suc zero) h = (refl, omega arith, omega arith)
all-letters (suc (suc zero)) h = (refl, omega arith, omega arith)
all-letters (suc (suc (suc zero))) h = (refl, omega arith, omega arith)
all-letters (suc (suc (suc (suc zero)))) h = (refl, omega arith, omega arith)
all-letters (suc (suc (suc (suc (suc b))))) h = absurd (omega arith)

-- ---- the flags of codes

-- an accepting code has no bit above 43, and any other one has
accepting-low : (c : ℕ) → c < 2 ^ 44 → is_accepting_lem c ≡ true
unfolding is_accepting_lem classes_in
accepting-low c h = eq-eqb (c / 2 ^ 44 % 16) 0 (omega arith)

accepting-high : (c : ℕ) → c < 2 ^ 48 → 2 ^ 44 ≤ c → is_accepting_lem c ≡ false
unfolding is_accepting_lem classes_in
accepting-high c h l = ne_eqb (c / 2 ^ 44 % 16) 0 (omega arith)

initial-accepting : (q c : ℕ) → is_accepting_lem c ≡ false → initial_at q c ≡ false
unfolding begun is_accepting_lem
initial-accepting q c e =
    bif (bit c q && (eqb (component_in c) 0 && eqb (classes_in c) 0))
    (λ t. absurd-of (and_r (eqb (component_in c) 0) (eqb (classes_in c) 0) (and_r (bit c q) (eqb (component_in c) 0 && eqb (classes_in c) 0) t)) e)
    (λ t. t)
  where
    absurd-of : {b : Bool} → eqb (classes_in c) 0 ≡ true → eqb (classes_in c) 0 ≡ false → b ≡ false
    absurd-of p r = let z : true ≡ false = sym p ∙ r in cc

-- 1 for an initial code
abbrev starts_of_lem : Set → List ℕ → List ℕ
starts_of_lem initial [] = []
starts_of_lem initial (c ∷ codes) = one (initial c) ∷ starts_of_lem initial codes

-- how many codes are accepting, where those come first
low_count : List ℕ → ℕ
low_count [] = 0
low_count (c ∷ codes) = elim (ltb c (2 ^ 44)) [ true ↦ suc (low_count codes) | false ↦ 0 ]

low-none : low_count [] ≡ 0
unfolding low_count
low-none = refl

low-yes : (c : ℕ) (codes : List ℕ) → c < 2 ^ 44 → low_count (c ∷ codes) ≡ suc (low_count codes)
unfolding low_count
low-yes c codes h = rw (lt-ltb c (2 ^ 44) h, low_count)

low-no : (c : ℕ) (codes : List ℕ) → 2 ^ 44 ≤ c → low_count (c ∷ codes) ≡ 0
unfolding low_count
low-no c codes h = rw (le-ltb c (2 ^ 44) h, low_count)

module _ (initial : Set) where
  one-small : (b : Bool) → one b ≤ 1
  one-small true = omega arith
  one-small false = omega arith

  starts-each : (codes : List ℕ) (i : ℕ) → get_or (starts_of_lem initial codes) i 0 ≤ 1
  starts-each [] i = omega arith
  starts-each (c ∷ codes) zero = one-small (initial c)
  starts-each (c ∷ codes) (suc i) = starts-each codes i

  low-enough : (codes : List ℕ) → low_count codes ≤ length (starts_of_lem initial codes)
  low-enough [] = omega (arith, low-none)
  low-enough (c ∷ codes) =
      by_cases (dec_lt c (2 ^ 44))
      (λ l. omega (arith, low-yes c codes l, low-enough codes))
      (λ n. omega (arith, low-no c codes (omega arith)))

  module _ (only : (c : ℕ) → is_accepting_lem c ≡ false → initial c ≡ false) where
    -- codes that are not accepting
    module _ (c : ℕ) (h : c < 2 ^ 48) (l : 2 ^ 44 ≤ c) where
      high-start : one (initial c) ≡ 0
      high-start = ap one (only c (accepting-high c h l))

      high-flag : flag_of_lem initial c ≡ 0
      unfolding flag_of_lem
      high-flag = rw (high-start, accepting-high c h l)

    low-flag : (c : ℕ) → c < 2 ^ 44 → flag_of_lem initial c ≡ 2 + one (initial c)
    unfolding flag_of_lem
    low-flag c h = rw (accepting-low c h) (omega arith)

    highs-none : (codes : List ℕ) → ((c : ℕ) → Memᴰ c codes → (c < 2 ^ 48) × (2 ^ 44 ≤ c)) → (i : ℕ) → get_or (starts_of_lem initial codes) i 0 ≡ 0
    highs-none [] h i = refl
    highs-none (c ∷ codes) h zero = let p = h c (Memᴰ.head refl) in high-start c p.0 p.1
    highs-none (c ∷ codes) h (suc i) = highs-none codes (λ d m. h d (Memᴰ.tail m)) i

    highs : (codes : List ℕ) → ((c : ℕ) → Memᴰ c codes → (c < 2 ^ 48) × (2 ^ 44 ≤ c)) → (a i : ℕ) → a ≤ i → flags_of initial codes ≡ flags_from a i (starts_of_lem initial codes)
    unfolding flags_of flags_from
    highs [] h a i l = refl
    highs (c ∷ codes) h a i l =
        let p = h c (Memᴰ.head refl) in
        rw (le-ltb i a l) (ap₂ (λ (f : ℕ) (fs : List ℕ). f ∷ fs) (high-flag c p.0 p.1) (highs codes (λ d m. h d (Memᴰ.tail m)) a (suc i) (omega arith)))

    module _ (c : ℕ) (codes : List ℕ) (A : Above c codes) (narrow : (d : ℕ) → Memᴰ d (c ∷ codes) → d < 2 ^ 48) (l : 2 ^ 44 ≤ c) where
      rest-high : (d : ℕ) → Memᴰ d (c ∷ codes) → (d < 2 ^ 48) × (2 ^ 44 ≤ d)
      rest-high d m =
          (narrow d m, ⊎_elim (λ e. omega (arith, e)) (λ k. let h = above_in c codes A d k in omega arith) (Memᴰ.cases_cons m))

    marks : (codes : List ℕ) → Ascending codes → ((d : ℕ) → Memᴰ d codes → d < 2 ^ 48) → (i : ℕ)
        → flags_of initial codes ≡ flags_from (i + low_count codes) i (starts_of_lem initial codes)
    unfolding flags_of flags_from
    marks [] a n i = refl
    marks (c ∷ codes) (from A) n i =
        by_cases (dec_lt c (2 ^ 44))
        (λ l. let k = low-yes c codes l in
        let e : suc i + low_count codes ≡ i + low_count (c ∷ codes) = omega arith in
        let t = lt-ltb i (i + low_count (c ∷ codes)) (omega arith) in
        ap (λ (f : ℕ). f ∷ flags_of initial codes) (low-flag c l ∙ ap (λ (b : Bool). cond b (2 + one (initial c)) 0) (sym t))
        ∙ ap (λ (fs : List ℕ). cond (ltb i (i + low_count (c ∷ codes))) (2 + one (initial c)) 0 ∷ fs)
        (marks codes (above-asc A) (λ d m. n d (Memᴰ.tail m)) (suc i) ∙ ap (λ (j : ℕ). flags_from j (suc i) (starts_of_lem initial codes)) e))
        (λ m. let l : 2 ^ 44 ≤ c = omega arith in
        highs (c ∷ codes) (rest-high c codes A n l) (i + low_count (c ∷ codes)) i (omega (arith, low-no c codes l)))

    marks_begin : (codes : List ℕ) → Ascending codes → ((d : ℕ) → Memᴰ d codes → d < 2 ^ 48) → (i : ℕ) → low_count codes ≤ i → get_or (starts_of_lem initial codes) i 0 ≡ 0
    marks_begin [] a n i h = refl
    marks_begin (c ∷ codes) (from A) n i h =
        by_cases (dec_lt c (2 ^ 44))
        (λ l. later i (omega (arith, low-yes c codes l)) (λ j g. marks_begin codes (above-asc A) (λ d m. n d (Memᴰ.tail m)) j g) (low-yes c codes l))
        (λ m. highs-none (c ∷ codes) (rest-high c codes A n (omega arith)) i)
      where
        later : (i : ℕ) → suc (low_count codes) ≤ i → ((j : ℕ) → low_count codes ≤ j → get_or (starts_of_lem initial codes) j 0 ≡ 0) → low_count (c ∷ codes) ≡ suc (low_count codes)
            → get_or (starts_of_lem initial (c ∷ codes)) i 0 ≡ 0
        later zero g ih e = absurd (omega arith)
        later (suc j) g ih e = ih j (omega arith)

    pub marked-codes : (codes : List ℕ) → Ascending codes → ((d : ℕ) → Memᴰ d codes → d < 2 ^ 48) → Marked (flags_of initial codes)
    marked-codes codes a n = record {
      accepting = low_count codes;
      starts = starts_of_lem initial codes;
      enough = low-enough codes;
      each = starts-each codes;
      begins = marks_begin codes a n;
      flags_are = marks codes a n 0 ∙ ap (λ (k : ℕ). flags_from k 0 (starts_of_lem initial codes)) (zero-add (low_count codes));
    }

-- ---- a table's flags and transitions have the shape

pub shaped : (s initial : ℕ) (codes ts : List ℕ) → s ≤ 16 → Passed s codes ts → Shaped (propositions s) (flags_of (initial_at initial) codes) ts
shaped s initial codes ts h P =
    let n = flags.flags-length (initial_at initial) codes in
    record {
      few = omega (arith, P.few, n);
      propositions = few-propositions s h;
      marked = marked-codes (initial_at initial) (initial-accepting initial) codes P.codes_ascend P.narrow;
      ascend = P.transitions_ascend;
      ranges = λ t m. record {
        source = omega (arith, P.source t m, n);
        letter = omega (arith, P.letter t m, told-apart s h);
        target = omega (arith, P.target t m, n);
      };
    }

-- what a text carries has the shape, and the text is that of these flags and transitions
pub carried : {text fs ts : List ℕ} → Carries text fs ts → (b : ℕ) × Shaped b fs ts × (text ≡ automaton_text b fs ts)
unfolding text_of
carried {text} {fs} {ts} C =
    let S : Shaped (propositions C.s) fs ts = rw C.flags_are (shaped C.s C.initial C.codes ts C.few_letters C.passes) in
    (propositions C.s, S, C.text_is ∙ ap (λ (gs : List ℕ). automaton_text (propositions C.s) gs ts) (sym C.flags_are))

-- ---- codes for any flags of the shape: 2 i + 1 for an initial number i, 2 i for another accepting one, 2 ^ 44 + i for the rest

abbrev codes_from : ℕ → ℕ → List ℕ → List ℕ
codes_from accepting i [] = []
codes_from accepting i (start ∷ starts) = cond (ltb i accepting) (2 * i + start) (2 ^ 44 + i) ∷ codes_from accepting (suc i) starts

module _ (accepting : ℕ) where
  codes-length : (i : ℕ) (starts : List ℕ) → length (codes_from accepting i starts) ≡ length starts
  codes-length i [] = refl
  codes-length i (s ∷ starts) = ap suc (codes-length (suc i) starts)

  abbrev code : ℕ → ℕ → ℕ
  code i s = cond (ltb i accepting) (2 * i + s) (2 ^ 44 + i)

  -- a code is above what those before it are below, and the next ones are above it
  code-bounds : (i s : ℕ) → s ≤ 1 → i < 65536
      → (code i s < 2 ^ 48) × (suc i < accepting → code i s < 2 * suc i) × (code i s < 2 ^ 44 + suc i) × ((x : ℕ) → (i < accepting → x < 2 * i) → x < 2 ^ 44 + i → x < code i s)
  code-bounds i s h l =
      bif (ltb i accepting)
      (λ t. rw t (omega arith, λ g. omega arith, omega arith, λ x low high. let k = low (ltb-true i accepting t) in omega arith))
      (λ t. let k = ltb-false i accepting t in rw t (omega arith, λ g. absurd (omega arith), omega arith, λ x low high. high))

  codes-above : (x i : ℕ) (starts : List ℕ) → ((j : ℕ) → get_or starts j 0 ≤ 1) → i + length starts ≤ 65536 → (i < accepting → x < 2 * i) → x < 2 ^ 44 + i → Above x (codes_from accepting i starts)
  codes-above x i [] each few low high = end
  codes-above x i (s ∷ starts) each few low high =
      let (k, p, q, r) = code-bounds i s (each 0) (omega arith) in
      more (r x low high) (codes-above (code i s) (suc i) starts (λ j. each (suc j)) (omega arith) p q)

  codes_ascend : (starts : List ℕ) → ((j : ℕ) → get_or starts j 0 ≤ 1) → length starts ≤ 65536 → Ascending (codes_from accepting 0 starts)
  codes_ascend [] each few = none
  codes_ascend (s ∷ starts) each few =
      let (k, p, q, r) = code-bounds 0 s (each 0) (omega arith) in
      from (codes-above (code 0 s) 1 starts (λ j. each (suc j)) (omega arith) p q)

  codes-narrow : (i : ℕ) (starts : List ℕ) → ((j : ℕ) → get_or starts j 0 ≤ 1) → i + length starts ≤ 65536 → (c : ℕ) → Memᴰ c (codes_from accepting i starts) → c < 2 ^ 48
  codes-narrow i [] each few c m = absurd (Memᴰ.not-nil m)
  codes-narrow i (s ∷ starts) each few c m =
      ⊎_elim (λ e. rw e (code-bounds i s (each 0) (omega arith)).0) (λ k. codes-narrow (suc i) starts (λ j. each (suc j)) (omega arith) c k) (Memᴰ.cases_cons m)

  -- the flags of these codes, where state 0 is initial
  low-initial : (i s : ℕ) → i < 65536 → s ≤ 1 → one (initial_at 0 (2 * i + s)) ≡ s
  unfolding begun bit component_in classes_in
  low-initial i zero l h =
      let a : (2 * i + 0) / 2 ^ 0 % 2 ≡ 0 = omega arith in
      let b = ne_eqb ((2 * i + 0) / 2 ^ 0 % 2) 1 (omega arith) in
      rw b
  low-initial i (suc zero) l h =
      let a = eq-eqb ((2 * i + 1) / 2 ^ 0 % 2) 1 (omega arith) in
      let b = eq-eqb ((2 * i + 1) / 2 ^ 40 % 16) 0 (omega arith) in
      let c = eq-eqb ((2 * i + 1) / 2 ^ 44 % 16) 0 (omega arith) in
      rw (a, b, c)
  low-initial i (suc (suc s)) l h = absurd (omega arith)

  code-flag : (i s : ℕ) → s ≤ 1 → i < 65536 → flag_of_lem (initial_at 0) (code i s) ≡ cond (ltb i accepting) (2 + s) 0
  code-flag i s h l =
      bif (ltb i accepting)
      (λ t. rw t (low-flag (initial_at 0) (initial-accepting 0) (2 * i + s) (omega arith) ∙ ap (λ (k : ℕ). 2 + k) (low-initial i s l h)))
      (λ t. rw t (high-flag (initial_at 0) (initial-accepting 0) (2 ^ 44 + i) (omega arith) (omega arith)))

  codes-flags : (i : ℕ) (starts : List ℕ) → ((j : ℕ) → get_or starts j 0 ≤ 1) → i + length starts ≤ 65536 → flags_of (initial_at 0) (codes_from accepting i starts) ≡ flags_from accepting i starts
  unfolding flags_of flags_from
  codes-flags i [] each few = refl
  codes-flags i (s ∷ starts) each few = ap₂ (λ (f : ℕ) (fs : List ℕ). f ∷ fs) (code-flag i s (each 0) (omega arith)) (codes-flags (suc i) starts (λ j. each (suc j)) (omega arith))

-- flags and transitions of the shape are those of a table
pub carries : {b : ℕ} {fs ts : List ℕ} → Shaped b fs ts → Carries (automaton_text b fs ts) fs ts
unfolding text_of
carries {b} {fs} {ts} S =
    let M = S.marked in
    let codes = codes_from M.accepting 0 M.starts in
    let n : length fs ≡ length M.starts = marked-length M in
    let m : length codes ≡ length M.starts = codes-length M.accepting 0 M.starts in
    let few = S.few in
    let flags_are : fs ≡ flags_of (initial_at 0) codes = M.flags_are ∙ sym (codes-flags M.accepting 0 M.starts M.each (omega arith)) in
    let a = all-letters b S.propositions in
    record {
      s = 2 ^ b;
      some_letter = a.1;
      few_letters = a.2;
      initial = 0;
      initial_state = omega arith;
      codes = codes;
      passes = record {
        few = omega arith;
        codes_ascend = codes_ascend M.accepting M.starts M.each (omega arith);
        transitions_ascend = S.ascend;
        narrow = codes-narrow M.accepting 0 M.starts M.each (omega arith);
        source = λ t k. omega (arith, (S.ranges t k).source);
        letter = λ t k. (S.ranges t k).letter;
        target = λ t k. omega (arith, (S.ranges t k).target);
      };
      flags_are = flags_are;
      text_is = ap (λ (gs : List ℕ). automaton_text b gs ts) flags_are ∙ ap (λ (c : ℕ). automaton_text c (flags_of (initial_at 0) codes) ts) (sym a.0);
    }
