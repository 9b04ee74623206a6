-- The vectors within the largest ranks that pass the test are the cores, and no others.
use mathlib.Core.Path.{◌≡◌, refl, ap, ap₂, sym, ◌∙◌, fun_ext}
use mathlib.Core.Logic.{by_cases, ⊎_elim}
use mathlib.Core.Bool.{Bool, true, false, ◌&&◌, cond, and-false}
use mathlib.Core.List.{List}
use Prim.Native.Nat.{ℕ, zero, suc, ◌+◌, ◌-◌, ◌^◌, ◌≤◌, ◌<◌}
use native.Mathlib.Omega.{arith}
use native.Mathlib.Decide.{dec_lt}
use lib.Dec.{eqb, ltb}
use lib.ListN.{get_or}
use borrow.Author.Tests.{eqb-true, eq-eqb, lt-ltb, le-ltb, ltb-true, ltb-false}
use Rattle.sets.specs.Tests.{Set, one, every, count, largest}
use Rattle.sets.specs.Masks.{bit, exclusive}
use Rattle.sets.specs.Digits.{num}
use Rattle.sets.proofs.Bools.{bif, and_l, and_r, and_i, or_r, or_cases, xor-twice}
use Rattle.sets.proofs.Tests.{every-at, every-all, some_at, some-get, some-ext, some-trim, count-ext, count-trim, count-max}
use Rattle.sets.proofs.Bits.{bit-mask-all}
use Rattle.sets.proofs.Digits.{num-ext, num-lt}
use Rattle.theory.specs.Automaton.{Automaton}
use Rattle.theory.specs.Core.{Core, is_open, open_of_lem}
use Rattle.theory.specs.CoreComputed as core
use Rattle.theory_laws.proofs.Cores.{core-rank-comp, core-rank-max, open-of-rank, classes-are}
use Rattle.build_cores.specs.Vectors.{rank_at, Within, visited}
use Rattle.build_cores.specs.Used.{taken, used, class_count_lem, gapless, sizes_of, caps_of}
use Rattle.build_cores.specs.Parts.{Parts, set_of, vector_of, size_at}
use Rattle.build_cores.proofs.Vectors.{rank-num, rank-high, within-rank, within_of, all-visited}
use Rattle.build_cores.proofs.Sums.{sum-ext, sum-ranks}
use Rattle.build_cores.proofs.Gaps.{count-shift, used-zero, used-suc, gapless-in, gapless-out, sizes-by}

-- the set of a vector, at a state
pub set-rank : (A : Automaton) (v q : ℕ) → q < A.n → set_of A v q ≡ exclusive (A.accepting q) (ltb 0 (rank_at v q))
unfolding set_of
set-rank A v q l = ap (λ (b : Bool). b && exclusive (A.accepting q) (ltb 0 (rank_at v q))) (lt-ltb q A.n l)

pub set_beyond : (A : Automaton) (v q : ℕ) → A.n ≤ q → set_of A v q ≡ false
unfolding set_of
set_beyond A v q l = ap (λ (b : Bool). b && exclusive (A.accepting q) (ltb 0 (rank_at v q))) (le-ltb q A.n l)

-- its open states are those with a rank
pub open-rank : (A : Automaton) (v q : ℕ) → q < A.n → is_open A (set_of A v) q ≡ ltb 0 (rank_at v q)
unfolding is_open
open-rank A v q l = ap (exclusive (A.accepting q)) (set-rank A v q l) ∙ xor-twice (A.accepting q) (ltb 0 (rank_at v q))

-- a step down the ranks in use
down : (v part : ℕ) → gapless v part ≡ true → (j i : ℕ) → j + i < 16 → used v part (j + i) ≡ true → used v part j ≡ true
down v part g j zero l t = let e : j + 0 ≡ j = omega arith in ap (used v part) (sym e) ∙ t
down v part g j (suc i) l t = let e : j + suc i ≡ suc (j + i) = omega arith in
    down v part g j i (omega arith) (gapless-out v part g (j + i) (omega arith) (ap (used v part) (sym e) ∙ t))

module _ (A : Automaton) (parts : List ℕ) (P : Parts A parts) where
  abbrev part : ℕ → ℕ
  part c = get_or parts c 0

  pub part-bit : (c q : ℕ) → c < A.components → bit (part c) q ≡ ltb q A.n && eqb (A.component q) c
  part-bit c q l = ap (λ (m : ℕ). bit m q) (P.part c l) ∙ bit-mask-all A.n (λ q. eqb (A.component q) c) q

  pub part-state : (c q : ℕ) → c < A.components → q < A.n → bit (part c) q ≡ eqb (A.component q) c
  part-state c q l m = part-bit c q l ∙ ap (λ (b : Bool). b && eqb (A.component q) c) (lt-ltb q A.n m)

  pub part_none : (c q : ℕ) → c < A.components → A.n ≤ q → bit (part c) q ≡ false
  part_none c q l m = part-bit c q l ∙ ap (λ (b : Bool). b && eqb (A.component q) c) (le-ltb q A.n m)

  pub part_in : (c q : ℕ) → c < A.components → q < A.n → A.component q ≡ c → bit (part c) q ≡ true
  part_in c q l m e = part-bit c q l ∙ and_i (lt-ltb q A.n m) (eq-eqb (A.component q) c e)

  pub part_out : (c q : ℕ) → c < A.components → bit (part c) q ≡ true → (q < A.n) × (A.component q ≡ c)
  part_out c q l t = let u = sym (part-bit c q l) ∙ t in
      (ltb-true q A.n (and_l (ltb q A.n) (eqb (A.component q) c) u), eqb-true (A.component q) c (and_r (ltb q A.n) (eqb (A.component q) c) u))

  -- ---- the largest ranks are the sizes of the components

  size_in : (c q : ℕ) → c < A.components → q < A.n → A.component q ≡ c → count 8 (bit (part c)) ≡ size_at A q
  unfolding size_at
  size_in c q l m e = count-ext 8 (bit (part c)) (λ p. ltb p A.n && eqb (A.component p) c) (λ p k. part-bit c p l)
      ∙ count-trim 8 A.n (λ p. ltb p A.n && eqb (A.component p) c) P.few_states (λ p a b. rw (le-ltb p A.n a))
      ∙ count-ext A.n (λ p. ltb p A.n && eqb (A.component p) c) (λ p. eqb (A.component p) (A.component q)) (λ p k. rw (lt-ltb p A.n k, e))

  sizes-in : (c : ℕ) → c < A.components → sizes_of (part c) ≡ num 16 8 (λ q. cond (ltb q A.n && eqb (A.component q) c) (size_at A q) 0)
  sizes-in c l = sizes-by (part c) (λ q. ltb q A.n && eqb (A.component q) c) (size_at A) (λ q. part-bit c q l)
      (λ q t. size_in c q l (ltb-true q A.n (and_l (ltb q A.n) (eqb (A.component q) c) t)) (eqb-true (A.component q) c (and_r (ltb q A.n) (eqb (A.component q) c) t)))

  pub caps-are : caps_of parts A.components ≡ num 16 8 (λ q. cond (ltb q A.n) (size_at A q) 0)
  unfolding caps_of
  caps-are =
      sum-ext A.components (λ c. sizes_of (part c)) (λ c. num 16 8 (λ q. cond (ltb q A.n && eqb (A.component q) c) (size_at A q) 0)) (λ c l. sizes-in c l)
      ∙ sum-ranks A.components A.component (λ q. ltb q A.n) (size_at A)
      ∙ num-ext 16 (omega arith) 8 _ _ (λ q k. bif (ltb q A.n) (λ t. rw (t, lt-ltb (A.component q) A.components (P.known q (ltb-true q A.n t)))) (λ t. rw t))

  size_low : (q : ℕ) → size_at A q ≤ 8
  unfolding size_at
  size_low q = omega (arith, count-max A.n (λ p. eqb (A.component p) (A.component q)), P.few_states)

  cap-low : (q : ℕ) → cond (ltb q A.n) (size_at A q) 0 < 16
  cap-low q = bif (ltb q A.n) (λ t. rw t (omega (arith, size_low q))) (λ t. rw t (omega arith))

  pub caps-fit : caps_of parts A.components < 2 ^ 32
  caps-fit = rw caps-are (num-lt 16 (omega arith) 8 _ (λ q l. cap-low q))

  pub cap-at : (q : ℕ) → q < 8 → rank_at (caps_of parts A.components) q ≡ cond (ltb q A.n) (size_at A q) 0
  cap-at q l = ap (λ (x : ℕ). rank_at x q) caps-are ∙ rank-num (λ q. cond (ltb q A.n) (size_at A q) 0) (λ q k. cap-low q) q l

  -- what is no state has rank 0, and no rank is above 8
  module _ (v : ℕ) (w : Within 8 v (caps_of parts A.components)) where
    pub rank-beyond : (q : ℕ) → A.n ≤ q → q < 8 → rank_at v q ≡ 0
    rank-beyond q l k =
        let h = within-rank 8 v (caps_of parts A.components) w q k in
        let c : rank_at (caps_of parts A.components) q ≡ 0 = cap-at q k ∙ rw (le-ltb q A.n l) in omega arith

    pub rank-eight : (q : ℕ) → q < 8 → rank_at v q ≤ 8
    rank-eight q k =
        let h = within-rank 8 v (caps_of parts A.components) w q k in
        let c = cap-at q k in
        bif (ltb q A.n) (λ t. let s = size_low q in let e : cond (ltb q A.n) (size_at A q) 0 ≡ size_at A q = rw t in omega arith)
        (λ t. let e : cond (ltb q A.n) (size_at A q) 0 ≡ 0 = rw t in omega arith)

  -- ---- a vector that passes the test is a core

  taken-get : (v c j : ℕ) → c < A.components → taken v (part c) j ≡ true → (p : ℕ) × (p < A.n) × (A.component p ≡ c) × (rank_at v p ≡ j)
  unfolding taken
  taken-get v c j l t =
      let r = some-get 8 (λ q. bit (part c) q && eqb (rank_at v q) j) t in
      let i = part_out c r.0 l (and_l (bit (part c) r.0) (eqb (rank_at v r.0) j) r.2) in
      (r.0, i.0, i.1, eqb-true _ _ (and_r (bit (part c) r.0) (eqb (rank_at v r.0) j) r.2))

  taken_at : (v c j p : ℕ) → c < A.components → p < A.n → A.component p ≡ c → rank_at v p ≡ j → taken v (part c) j ≡ true
  unfolding taken
  taken_at v c j p l m e r = some_at 8 (λ q. bit (part c) q && eqb (rank_at v q) j) p (omega (arith, P.few_states)) (and_i (part_in c p l m e) (eq-eqb (rank_at v p) j r))

  taken-used : (v c j : ℕ) → taken v (part c) j ≡ true → used v (part c) j ≡ true
  unfolding used
  taken-used v c j t = or_r (eqb j 0) (taken v (part c) j) t

  used-taken : (v c j : ℕ) → 1 ≤ j → used v (part c) j ≡ true → taken v (part c) j ≡ true
  unfolding used
  used-taken v c j h t = ⊎_elim (λ e. absurd (omega (arith, eqb-true j 0 e))) (λ e. e) (or_cases (eqb j 0) (taken v (part c) j) t)

  pub only-cores : (v : ℕ) → Within 8 v (caps_of parts A.components) → every A.components (λ c. gapless v (part c)) ≡ true → Core A (set_of A v) (rank_at v)
  only-cores v w g = record {
    closed = λ q l o. omega (arith, ltb-false 0 (rank_at v q) (sym (open-rank A v q l) ∙ o));
    ranked = λ q l o. ltb-true 0 (rank_at v q) (sym (open-rank A v q l) ∙ o);
    gapless = λ q j l o a b.
        let c = A.component q in let k = P.known q l in
        let low = rank-eight v w q (omega (arith, P.few_states)) in
        let top : used v (part c) (rank_at v q) ≡ true = taken-used v c (rank_at v q) (taken_at v c (rank_at v q) q k l refl refl) in
        let i = rank_at v q - j in let e : j + i ≡ rank_at v q = omega arith in
        let t = used-taken v c j a (down v (part c) (every-at A.components (λ c. gapless v (part c)) g c k) j i (omega arith) (ap (used v (part c)) e ∙ top)) in
        let p = taken-get v c j k t in
        (p.0, p.1, p.2, open-rank A v p.0 p.1 ∙ lt-ltb 0 (rank_at v p.0) (omega (arith, p.3)), p.3);
  }

  -- ---- every core is there

  module _ (S : Set) (r : ℕ → ℕ) (C : Core A S r) where
    abbrev v : ℕ
    v = vector_of A r

    digit-small : (q : ℕ) → q < 8 → cond (ltb q A.n) (r q) 0 < 16
    digit-small q k = bif (ltb q A.n) (λ t. rw t (omega (arith, core-rank-max A S r C q (ltb-true q A.n t), P.few_states))) (λ t. rw t (omega arith))

    vector-at : (q : ℕ) → q < 8 → rank_at v q ≡ cond (ltb q A.n) (r q) 0
    unfolding vector_of
    vector-at q k = rank-num (λ q. cond (ltb q A.n) (r q) 0) digit-small q k

    -- it has the ranks of the core
    pub vector-rank : (q : ℕ) → q < A.n → rank_at v q ≡ r q
    vector-rank q l = vector-at q (omega (arith, P.few_states)) ∙ rw (lt-ltb q A.n l)

    -- and its set
    pub vector-set : (q : ℕ) → q < A.n → set_of A v q ≡ S q
    unfolding is_open
    vector-set q l = set-rank A v q l ∙ ap (λ (x : ℕ). exclusive (A.accepting q) (ltb 0 x)) (vector-rank q l) ∙ ap (exclusive (A.accepting q)) (sym (open-of-rank A S r C q l))
        ∙ xor-twice (A.accepting q) (S q)

    comp-size : (q : ℕ) → q < A.n → r q ≤ size_at A q
    unfolding size_at
    comp-size q l = core-rank-comp A S r C q l

    digit-within : (q : ℕ) → cond (ltb q A.n) (r q) 0 ≤ cond (ltb q A.n) (size_at A q) 0
    digit-within q = bif (ltb q A.n) (λ t. rw t (comp-size q (ltb-true q A.n t))) (λ t. rw t (omega arith))

    vector-fits : v < 16 ^ 8
    unfolding vector_of
    vector-fits = num-lt 16 (omega arith) 8 _ digit-small

    pub vector-within : Within 8 v (caps_of parts A.components)
    vector-within = within_of 8 v (caps_of parts A.components) vector-fits caps-fit (λ q k. omega (arith, vector-at q k, cap-at q k, digit-within q))

    -- the rank below one that is taken is taken
    lower : (c j : ℕ) → c < A.components → taken v (part c) (suc j) ≡ true → used v (part c) j ≡ true
    lower c zero l t = used-zero v (part c)
    lower c (suc j) l t =
        let p = taken-get v c (suc (suc j)) l t in
        let e : r p.0 ≡ suc (suc j) = sym (vector-rank p.0 p.1) ∙ p.3 in
        let o : is_open A S p.0 ≡ true = open-of-rank A S r C p.0 p.1 ∙ lt-ltb 0 (r p.0) (omega arith) in
        let g = C.gapless p.0 (suc j) p.1 o (omega arith) (omega arith) in
        taken-used v c (suc j) (taken_at v c (suc j) g.0 l g.1 (g.2 ∙ p.2) (vector-rank g.0 g.1 ∙ g.4))

    gapless-at : (c : ℕ) → c < A.components → gapless v (part c) ≡ true
    gapless-at c l = gapless-in v (part c) (λ j k t. lower c j l (sym (used-suc v (part c) j) ∙ t))

    -- and passes the test
    pub vector-passes : every A.components (λ c. gapless v (part c)) ≡ true
    vector-passes = every-all A.components (λ c. gapless v (part c)) gapless-at

    -- it is one of those that are visited
    pub core-visited : (i : ℕ) × (visited (caps_of parts A.components) i ≡ v)
    core-visited = all-visited (caps_of parts A.components) v caps-fit vector-within

    -- it has the core's set and ranks at all numbers, if what is no state is not in S and has rank 0
    pub vector-set-all : ((q : ℕ) → A.n ≤ q → S q ≡ false) → set_of A v ≡ S
    vector-set-all h = fun_ext (λ q. by_cases (dec_lt q A.n) (λ l. vector-set q l) (λ l. set_beyond A v q (omega arith) ∙ sym (h q (omega arith))))

    pub vector-rank-all : ((q : ℕ) → A.n ≤ q → r q ≡ 0) → rank_at v ≡ r
    vector-rank-all h = fun_ext (λ q. by_cases (dec_lt q A.n) (λ l. vector-rank q l) (λ l. by_cases (dec_lt q 8)
        (λ k. vector-at q k ∙ rw (le-ltb q A.n (omega arith)) (sym (h q (omega arith))))
        (λ k. rank-high v q vector-fits (omega arith) ∙ sym (h q (omega arith)))))

  -- ---- the classes of a component

  module _ (S : Set) (r : ℕ → ℕ) (C : Core A S r) (w : ℕ) (same : (q : ℕ) → q < A.n → rank_at w q ≡ r q) where
    no-rank : (c : ℕ) → core.taken A S r c 0 ≡ true → ⊥
    unfolding core.taken
    no-rank c t =
        let g = some-get A.n (λ p. eqb (A.component p) c && (is_open A S p && eqb (r p) 0)) t in
        let u = and_r (eqb (A.component g.0) c) (is_open A S g.0 && eqb (r g.0) 0) g.2 in
        omega (arith, C.ranked g.0 g.1 (and_l (is_open A S g.0) (eqb (r g.0) 0) u), eqb-true (r g.0) 0 (and_r (is_open A S g.0) (eqb (r g.0) 0) u))

    none-taken : (c : ℕ) → core.taken A S r c 0 ≡ false
    none-taken c = bif (core.taken A S r c 0) (λ t. absurd (no-rank c t)) (λ t. t)

    -- a state with a rank is open
    rank-open : (j p : ℕ) → p < A.n → is_open A S p && eqb (r p) (suc j) ≡ eqb (r p) (suc j)
    rank-open j p m = bif (eqb (r p) (suc j))
        (λ t. and_i (open-of-rank A S r C p m ∙ lt-ltb 0 (r p) (omega (arith, eqb-true (r p) (suc j) t))) t ∙ sym t)
        (λ t. ap (λ (b : Bool). is_open A S p && b) t ∙ and-false (is_open A S p) ∙ sym t)

    taken-same : (c j : ℕ) → c < A.components → core.taken A S r c (suc j) ≡ taken w (part c) (suc j)
    unfolding core.taken taken
    taken-same c j l =
        some-ext A.n (λ p. eqb (A.component p) c && (is_open A S p && eqb (r p) (suc j))) (λ p. bit (part c) p && eqb (rank_at w p) (suc j))
        (λ p m. ap (λ (b : Bool). eqb (A.component p) c && b) (rank-open j p m) ∙ sym (ap₂ (λ (x : Bool) (y : ℕ). x && eqb y (suc j)) (part-state c p l m) (same p m)))
        ∙ sym (some-trim 8 A.n (λ p. bit (part c) p && eqb (rank_at w p) (suc j)) P.few_states (λ p a b. ap (λ (x : Bool). x && eqb (rank_at w p) (suc j)) (part_none c p l a)))

    -- as many as the largest rank says
    pub classes-largest : (c : ℕ) → c < A.components → class_count_lem w (part c) ≡ largest A.n (open_of_lem A S c) r
    unfolding class_count_lem
    classes-largest c l =
        let e : one (core.taken A S r c 0) ≡ 0 = rw (none-taken c) in
        let f = count-shift 15 (core.taken A S r c) in
        let g : count 15 (λ j. core.taken A S r c (suc j)) ≡ count 15 (λ j. taken w (part c) (suc j)) =
        count-ext 15 (λ j. core.taken A S r c (suc j)) (λ j. taken w (part c) (suc j)) (λ j k. taken-same c j l) in
        let h = classes-are A S r C c 15 (omega (arith, P.few_states)) in omega arith
