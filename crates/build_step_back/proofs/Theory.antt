-- The step back on masks is the step back of the theory.
use mathlib.Core.Path.{◌≡◌, refl, ap, ap₂, sym, ◌∙◌}
use mathlib.Core.Logic.{by_cases}
use mathlib.Core.Bool.{Bool, true, false, ◌&&◌, ◌||◌, not, cond, and-true, and-false, not-not}
use mathlib.Core.List.{List}
use Prim.Native.Nat.{ℕ, suc, ◌+◌, ◌*◌, ◌≤◌, ◌<◌}
use native.Mathlib.Omega.{arith}
use native.Mathlib.Decide.{dec_lt}
use lib.Dec.{eqb, leb, ltb}
use lib.ListN.{get_or}
use lib.Bits.{bit_and, bit_or, bit_xor}
use borrow.Author.Tests.{eqb-true, eq-eqb, lt-ltb, le-ltb, le-leb, leb-true}
use Rattle.sets.specs.Tests.{Set, largest}
use Rattle.sets.specs.Masks.{bit, exclusive}
use Rattle.theory.specs.Rule.{satisfies}
use Rattle.sets.specs.Digits.{num}
use Rattle.theory.specs.Automaton.{Automaton}
use Rattle.theory.specs.Core.{is_open, mix, rejecting_settled, accepting_settled, settled, settled_up_to, open_of_lem}
use Rattle.theory.specs.CoreComputed.{level_of, taken, rank_of}
use Rattle.sets.proofs.Bools.{bif, clash, and_l, and_r, and_i, xor-twice}
use Rattle.theory_laws.proofs.Satisfies.{satisfies-ext}
use Rattle.sets.proofs.Tests.{some-ext, some-trim, count-ext, first-ext, largest-ext, largest-trim, largest-values}
use Rattle.sets.proofs.Masks.{bit_mask}
use Rattle.sets.proofs.Bits.{bit-and, bit-or, bit-xor, bit-ext}
use Rattle.theory_laws.proofs.Ranks.{settled-mono}
use Rattle.sets.proofs.Digits.{num-ext}
use Rattle.build_step_back.specs.Step.{goal, upto, level, Rising, valued, class, rank_digits}
use Rattle.build_cores.specs.Opens.{set_from, open_before_lem}
use Rattle.build_step_back.proofs.Masks.{arg-small}

arg-bit : (o k l : Bool) → exclusive o (o && k) || (l && k) ≡ cond k l o
arg-bit true true l = and-true l
arg-bit true false l = refl
arg-bit false true l = and-true l
arg-bit false false l = and-false l

and_none : (b c : Bool) → c ≡ false → b && c ≡ false
and_none b c e = ap (λ (x : Bool). b && x) e ∙ and-false b

-- ---- the component K of W, over letter a, from the core of set T and ranks r

-- the table, and the masks of T, of the component and of the lowest classes
pub record Masks (W : Automaton) (opens : List ℕ) (a opened part : ℕ) (low : List ℕ) (K : ℕ) (T : Set) (r : ℕ → ℕ) : Type 0 where
  pub few : W.n ≤ 8
  pub letters : a < 16
  pub pure : (p q : ℕ) → p < W.n → q < W.n → W.component p ≡ W.component q → W.accepting p ≡ W.accepting q
  pub table : (m : ℕ) → m < 256 → get_or opens (a * 256 + m) 0 ≡ open_before_lem W a m
  pub opened-small : opened < 256
  pub opened-bits : (p : ℕ) → p < W.n → bit opened p ≡ is_open W T p
  pub part_small : part < 256
  pub part-bits : (p : ℕ) → p < W.n → bit part p ≡ eqb (W.component p) K
  pub part-rest : (p : ℕ) → W.n ≤ p → p < 8 → bit part p ≡ false
  pub low_bits : (j p : ℕ) → j < 16 → p < W.n → bit (get_or low j 0) p ≡ is_open W T p && leb (r p) j
  pub ranks-low : (p : ℕ) → p < W.n → r p ≤ 8

module _ (W : Automaton) (opens : List ℕ) (a opened part : ℕ) (low : List ℕ) (K : ℕ) (T : Set) (r : ℕ → ℕ) (h : Masks W opens a opened part low K T r) where
  -- a place of the table, at a state
  entry-is : (m q : ℕ) → m < 256 → q < W.n → bit (get_or opens (a * 256 + m) 0) q ≡ exclusive (W.accepting q) (satisfies W.n (set_from W m) (W.entry q a))
  unfolding open_before_lem is_open
  entry-is m q l k = ap (λ (x : ℕ). bit x q) (h.table m l) ∙ bit_mask W.n (is_open W (λ q. satisfies W.n (set_from W m) (W.entry q a))) q k

  abbrev D : ℕ → Set
  D j p = is_open W T p && leb (r p) j

  abbrev arg : ℕ → ℕ
  arg j = bit_or (bit_xor opened (bit_and opened part)) (bit_and (get_or low j 0) part)

  arg_is : (j p : ℕ) → bit (arg j) p ≡ cond (bit part p) (bit (get_or low j 0) p) (bit opened p)
  arg_is j p = bit-or (bit_xor opened (bit_and opened part)) (bit_and (get_or low j 0) part) p
      ∙ ap₂ (λ (x y : Bool). x || y) (bit-xor opened (bit_and opened part) p ∙ ap (exclusive (bit opened p)) (bit-and opened part p)) (bit-and (get_or low j 0) part p)
      ∙ arg-bit (bit opened p) (bit part p) (bit (get_or low j 0) p)

  arg-in : (j p : ℕ) → j < 16 → p < W.n → bit (arg j) p ≡ cond (eqb (W.component p) K) (D j p) (is_open W T p)
  arg-in j p l m = arg_is j p ∙ rw (h.part-bits p m, h.low_bits j p l m, h.opened-bits p m)

  -- a state of another component is not there
  pub apart-goal : (q : ℕ) → bit part q ≡ false → bit (goal opens a opened part low) q ≡ false
  unfolding goal
  apart-goal q e = bit-and (get_or opens (a * 256 + opened) 0) part q ∙ and_none (bit (get_or opens (a * 256 + opened) 0) q) (bit part q) e

  apart-upto : (j q : ℕ) → bit part q ≡ false → bit (upto opens a opened part low j) q ≡ false
  unfolding upto
  apart-upto j q e = bit-and (get_or opens (a * 256 + arg j) 0) part q ∙ and_none (bit (get_or opens (a * 256 + arg j) 0) q) (bit part q) e

  acc-case : (j q : ℕ) → j < 16 → q < W.n → W.component q ≡ K → W.accepting q ≡ true → (p : ℕ) → p < W.n → set_from W (arg j) p ≡ not (mix W q (λ r. not (T r)) (D j) p)
  unfolding mix is_open set_from
  acc-case j q l m e t p k = ap (exclusive (W.accepting p)) (arg-in j p l k) ∙ rw e (bif (eqb (W.component p) K)
      (λ u. rw (u, h.pure p q k m (eqb-true _ _ u ∙ sym e) ∙ t))
      (λ u. rw u (xor-twice (W.accepting p) (T p) ∙ sym (not-not (T p)))))

  rej-case : (j q : ℕ) → j < 16 → q < W.n → W.component q ≡ K → W.accepting q ≡ false → (p : ℕ) → p < W.n → set_from W (arg j) p ≡ mix W q T (D j) p
  unfolding mix is_open set_from
  rej-case j q l m e t p k = ap (exclusive (W.accepting p)) (arg-in j p l k) ∙ rw e (bif (eqb (W.component p) K)
      (λ u. rw (u, h.pure p q k m (eqb-true _ _ u ∙ sym e) ∙ t))
      (λ u. rw u (xor-twice (W.accepting p) (T p))))

  -- the entry of the table at arg j, at a state q of K: 01's condition for a rejecting component
  pub rejecting-is : (j q : ℕ) → j < 16 → q < W.n → W.component q ≡ K → W.accepting q ≡ false
      → satisfies W.n (set_from W (arg j)) (W.entry q a) ≡ rejecting_settled W T (D j) q (W.entry q a)
  unfolding rejecting_settled
  rejecting-is j q l m e t = satisfies-ext W.n (set_from W (arg j)) (mix W q T (D j)) (rej-case j q l m e t) (W.entry q a)

  -- and for an accepting one
  pub accepting-is : (j q : ℕ) → j < 16 → q < W.n → W.component q ≡ K → W.accepting q ≡ true
      → not (satisfies W.n (set_from W (arg j)) (W.entry q a)) ≡ accepting_settled W T (D j) q (W.entry q a)
  unfolding accepting_settled
  accepting-is j q l m e t = ap not (satisfies-ext W.n (set_from W (arg j)) (λ p. not (mix W q (λ r. not (T r)) (D j) p)) (acc-case j q l m e t) (W.entry q a))

  -- both
  pub settled_is : (j q : ℕ) → j < 16 → q < W.n → W.component q ≡ K → exclusive (W.accepting q) (satisfies W.n (set_from W (arg j)) (W.entry q a)) ≡ settled W T (D j) q (W.entry q a)
  unfolding settled
  settled_is j q l m e = bif (W.accepting q) (λ t. rw t (accepting-is j q l m e t)) (λ t. rw t (rejecting-is j q l m e t))

  -- the states of level at most j
  pub test-is : (j q : ℕ) → j < 16 → q < W.n → W.component q ≡ K → bit (upto opens a opened part low j) q ≡ settled_up_to W T r q (W.entry q a) j
  unfolding upto settled_up_to
  test-is j q l m e = bit-and (get_or opens (a * 256 + arg j) 0) part q
      ∙ ap₂ (λ (x y : Bool). x && y) (entry-is (arg j) q (arg-small opened part (get_or low j 0) h.opened-small h.part_small) m) (h.part-bits q m ∙ eq-eqb (W.component q) K e)
      ∙ and-true (exclusive (W.accepting q) (satisfies W.n (set_from W (arg j)) (W.entry q a)))
      ∙ settled_is j q l m e

  -- ---- what the code needs to know of its masks

  part_of : (q : ℕ) → q < 8 → bit part q ≡ true → (q < W.n) × (W.component q ≡ K)
  part_of q l t = by_cases (dec_lt q W.n)
      (λ m. (m, eqb-true (W.component q) K (sym (h.part-bits q m) ∙ t)))
      (λ m. clash t (h.part-rest q (omega arith) l))

  mono-in : (i j q : ℕ) → q < W.n → W.component q ≡ K → i ≤ j → j < 16 → bit (upto opens a opened part low i) q ≡ true → bit (upto opens a opened part low j) q ≡ true
  unfolding settled_up_to
  mono-in i j q m e l b t = test-is j q b m e
      ∙ settled-mono W T (D i) (D j) q (W.entry q a) (λ p k c u. and_i (and_l (is_open W T p) (leb (r p) i) u)
      (le-leb (r p) j (let z = leb-true (r p) i (and_r (is_open W T p) (leb (r p) i) u) in omega arith)))
      (sym (test-is i q (omega arith) m e) ∙ t)

  mono-all : (i j q : ℕ) → q < 8 → i ≤ j → j < 16 → bit (upto opens a opened part low i) q ≡ true → bit (upto opens a opened part low j) q ≡ true
  mono-all i j q l b c t = bif (bit part q) (λ u. let z = part_of q l u in mono-in i j q z.0 z.1 b c t) (λ u. clash t (apart-upto i q u))

  arg-whole : (j : ℕ) → 8 ≤ j → j < 16 → arg j ≡ opened
  arg-whole j b l = bit-ext 8 (arg j) opened (arg-small opened part (get_or low j 0) h.opened-small h.part_small) h.opened-small (λ p k. arg_is j p ∙ bif (bit part p)
      (λ u. let z = part_of p k u in rw (u, h.low_bits j p l z.0, h.opened-bits p z.0, le-leb (r p) j (let w = h.ranks-low p z.0 in omega arith)) (and-true (is_open W T p)))
      (λ u. rw u))

  pub rises : Rising opens a opened part low
  unfolding upto goal
  rises = record {
    letters = h.letters;
    mono = mono-all;
    whole = λ j b l. ap (λ (x : ℕ). bit_and (get_or opens (a * 256 + x) 0) part) (arg-whole j b l);
  }

  -- the earlier set S
  module _ (S : Set) (exact : (q : ℕ) → q < W.n → S q ≡ satisfies W.n T (W.entry q a)) where
    from-opened : (p : ℕ) → p < W.n → set_from W opened p ≡ T p
    unfolding set_from is_open
    from-opened p k = ap (exclusive (W.accepting p)) (h.opened-bits p k) ∙ xor-twice (W.accepting p) (T p)

    pub goal-is : (q : ℕ) → q < W.n → W.component q ≡ K → bit (goal opens a opened part low) q ≡ is_open W S q
    unfolding goal is_open
    goal-is q m e = bit-and (get_or opens (a * 256 + opened) 0) part q
        ∙ ap₂ (λ (x y : Bool). x && y) (entry-is opened q h.opened-small m) (h.part-bits q m ∙ eq-eqb (W.component q) K e)
        ∙ and-true (exclusive (W.accepting q) (satisfies W.n (set_from W opened) (W.entry q a)))
        ∙ ap (exclusive (W.accepting q)) (satisfies-ext W.n (set_from W opened) T from-opened (W.entry q a) ∙ sym (exact q m))

    -- ---- levels, ranks, and the classes left

    abbrev pub lev : ℕ → ℕ
    lev q = level_of W 15 T r q (W.entry q a)

    pub level-is : (q : ℕ) → q < W.n → W.component q ≡ K → level opens a opened part low q ≡ lev q
    unfolding level level_of
    level-is q m e = first-ext 15 0 _ _ (λ j l b. test-is j q (omega arith) m e)

    abbrev G : Set
    G = bit (goal opens a opened part low)

    abbrev L : ℕ → ℕ
    L = level opens a opened part low

    rest-none : (p : ℕ) → W.n ≤ p → p < 8 → G p ≡ false
    rest-none p b l = apart-goal p (h.part-rest p b l)

    member : (j p : ℕ) → p < W.n → G p && eqb (L p) j ≡ eqb (W.component p) K && (is_open W S p && eqb (lev p) j)
    member j p m = bif (eqb (W.component p) K)
        (λ u. let e = eqb-true (W.component p) K u in rw (u, goal-is p m e, level-is p m e))
        (λ u. rw (u, apart-goal p (h.part-bits p m ∙ u)))

    valued-is : (j : ℕ) → valued G L j ≡ taken W S lev K j
    unfolding valued taken
    valued-is j = some-trim 8 W.n (λ p. G p && eqb (L p) j) h.few (λ p b l. rw (rest-none p b l))
        ∙ some-ext W.n (λ p. G p && eqb (L p) j) (λ p. eqb (W.component p) K && (is_open W S p && eqb (lev p) j)) (member j)

    class-is : (q : ℕ) → q < W.n → W.component q ≡ K → is_open W S q ≡ true → class G L q ≡ rank_of W S lev q
    unfolding class rank_of
    class-is q m e o = rw (o, level-is q m e, e) (count-ext (suc (lev q)) (valued G L) (taken W S lev K) (λ j l. valued-is j))

    shut : (q : ℕ) → is_open W S q ≡ false → rank_of W S lev q ≡ 0
    unfolding rank_of
    shut q o = rw o

    pub ranks-are : rank_digits G L ≡ num 16 8 (λ q. cond (ltb q W.n && eqb (W.component q) K) (rank_of W S lev q) 0)
    unfolding rank_digits
    ranks-are = num-ext 16 (omega arith) 8 _ _ (λ q l. by_cases (dec_lt q W.n)
        (λ m. rw (lt-ltb q W.n m) (bif (eqb (W.component q) K)
        (λ u. let e = eqb-true (W.component q) K u in rw u (bif (is_open W S q)
        (λ o. rw (goal-is q m e ∙ o) (class-is q m e o))
        (λ o. rw (goal-is q m e ∙ o) (sym (shut q o)))))
        (λ u. rw (u, apart-goal q (h.part-bits q m ∙ u)))))
        (λ m. rw (le-ltb q W.n (omega arith), rest-none q (omega arith) l)))

    pub left_is : (k : ℕ) → largest 8 (λ q. G q && leb (class G L q) k) L ≡ largest W.n (λ q. open_of_lem W S K q && leb (rank_of W S lev q) k) lev
    unfolding open_of_lem
    left_is k = largest-trim 8 W.n (λ q. G q && leb (class G L q) k) L h.few (λ p b l. rw (rest-none p b l))
        ∙ largest-ext W.n (λ q. G q && leb (class G L q) k) (λ q. (eqb (W.component q) K && is_open W S q) && leb (rank_of W S lev q) k) L (λ q m. bif (eqb (W.component q) K)
        (λ u. let e = eqb-true (W.component q) K u in rw (u, goal-is q m e) (bif (is_open W S q) (λ o. rw (o, class-is q m e o)) (λ o. rw o)))
        (λ u. rw (u, apart-goal q (h.part-bits q m ∙ u))))
        ∙ largest-values W.n (λ q. (eqb (W.component q) K && is_open W S q) && leb (rank_of W S lev q) k) L lev
        (λ q m t. level-is q m (eqb-true (W.component q) K (and_l (eqb (W.component q) K) (is_open W S q) (and_l (eqb (W.component q) K && is_open W S q) (leb (rank_of W S lev q) k) t))))
