-- With the tables of an automaton, the step back from the core of a vector is the step back of the theory.
use mathlib.Core.Path.{◌≡◌, refl, ap, ap₂, sym, ◌∙◌}
use mathlib.Core.Logic.{by_cases}
use mathlib.Core.Bool.{Bool, true, ◌&&◌, cond, and-true}
use mathlib.Core.List.{List}
use Prim.Native.Nat.{ℕ, ◌+◌, ◌*◌, ◌/◌, ◌%◌, ◌^◌, ◌<◌}
use native.Mathlib.Omega.{arith}
use native.Mathlib.Decide.{dec_lt, ℕ_discrete}
use lib.Dec.{eqb, leb, ltb}
use lib.ListN.{get_or}
use lib.Bits.{bit_xor, xor_lt}
use lib.Pow.{pow_mono}
use borrow.Author.Tests.{lt-ltb, ltb-true, le-leb}
use Rattle.sets.specs.Tests.{every, largest}
use Rattle.sets.specs.Masks.{bit, mask, exclusive}
use Rattle.sets.specs.Digits.{num}
use Rattle.sets.proofs.Bools.{bif, and_l, xor_comm, xor-twice}
use Rattle.sets.proofs.Tests.{largest-le, largest-ext}
use Rattle.sets.proofs.Masks.{mask_lt, bit_mask}
use Rattle.sets.proofs.Bits.{bit-xor, bit_high, mask-unique}
use Rattle.sets.proofs.Digits.{num-ext, digit-num, pow16}
use Rattle.theory.specs.Rule.{satisfies}
use Rattle.theory.specs.Automaton.{Automaton}
use Rattle.theory.specs.Layered.{Layered}
use Rattle.theory.specs.Core.{Earlier, is_open, open_of_lem, next_component_lem}
use Rattle.theory.specs.CoreComputed.{rank_of}
use Rattle.theory_laws.proofs.Satisfies.{satisfies-ext}
use Rattle.theory_laws.proofs.Cores.{open-ext, earlier-of}
use Rattle.build_cores.specs.Vectors.{rank_at, Within}
use Rattle.build_cores.specs.Used.{class_count_lem, gapless, caps_of}
use Rattle.build_cores.specs.Parts.{Parts, set_of, vector_of}
use Rattle.build_cores.proofs.Sums.{sum-ext, sum-ranks}
use Rattle.build_cores.proofs.Gaps.{rank-low}
use Rattle.build_cores.proofs.Cores.{open-rank, part-state, part_none, rank-eight, only-cores, classes-largest}
use Rattle.build_step_back.specs.Step.{goal, level, class, level_digits, Rising, Back, ranks_in}
use Rattle.build_cores.specs.Onward.{next_in, onward_in}
use Rattle.build_cores.specs.Opens.{set_from, open_before_lem, Opens}
use Rattle.build_step_back.specs.Earlier.{earlier_set, earlier_level, earlier_rank, back_of, level_left, all_classes, onto_of_lem}
use Rattle.build_step_back.proofs.Codes.{earlier-set-beyond, onto-turned, onto-stayed}
use Rattle.build_step_back.proofs.Component.{level-low}
use Rattle.build_cores.proofs.Pairs.{next-lt, onward-turn, onward-stay}
use Rattle.build_step_back.proofs.Theory.{Masks, rises, ranks-are, left_is}

xor-off : (a b : Bool) → exclusive (exclusive a b) a ≡ b
xor-off a b = xor_comm (exclusive a b) a ∙ xor-twice a b

module _ (A : Automaton) (H : Layered A) (s : ℕ) (opens parts : List ℕ) (P : Parts A parts) (O : Opens A s opens)
    (a v : ℕ) (letter : a < s) (w : Within 8 v (caps_of parts A.components))
    (low : List ℕ) (lowest : (j : ℕ) → j < 16 → get_or low j 0 ≡ mask 8 (λ p. ltb 0 (rank_at v p) && leb (rank_at v p) j)) where
  -- the open states of the later core
  abbrev opened : ℕ
  opened = get_or low 15 0

  low_bit : (j p : ℕ) → j < 16 → p < A.n → bit (get_or low j 0) p ≡ is_open A (set_of A v) p && leb (rank_at v p) j
  low_bit j p l k = ap (λ (x : ℕ). bit x p) (lowest j l)
      ∙ bit_mask 8 (λ p. ltb 0 (rank_at v p) && leb (rank_at v p) j) p (omega (arith, P.few_states))
      ∙ ap (λ (b : Bool). b && leb (rank_at v p) j) (sym (open-rank A v p k))

  opened-bit : (p : ℕ) → p < A.n → bit opened p ≡ is_open A (set_of A v) p
  opened-bit p k = low_bit 15 p (omega arith) k
      ∙ ap (λ (b : Bool). is_open A (set_of A v) p && b) (le-leb (rank_at v p) 15 (let h = rank-low v p in omega arith))
      ∙ and-true (is_open A (set_of A v) p)

  pub opened-small : opened < 256
  opened-small = rw (lowest 15 (omega arith)) (mask_lt 8 (λ p. ltb 0 (rank_at v p) && leb (rank_at v p) 15))

  pub part_small : (c : ℕ) → c < A.components → get_or parts c 0 < 256
  part_small c l = rw (P.part c l) (let h = mask_lt A.n (λ q. eqb (A.component q) c) in let p = pow_mono {i = A.n} {j = 8} P.few_states in omega arith)

  pub masks-at : (c : ℕ) → c < A.components → Masks A opens a opened (get_or parts c 0) low c (set_of A v) (rank_at v)
  masks-at c l = record {
    few = P.few_states;
    letters = omega (arith, O.few_letters);
    pure = H.pure;
    table = λ m h. O.table a m letter h;
    opened-small = opened-small;
    opened-bits = opened-bit;
    part_small = part_small c l;
    part-bits = λ p k. part-state A parts P c p l k;
    part-rest = λ p k b. part_none A parts P c p l k;
    low_bits = low_bit;
    ranks-low = λ p k. rank-eight A parts P v w p (omega (arith, P.few_states));
  }

  -- what step_back asks
  pub rises-at : (c : ℕ) → c < A.components → Rising opens a opened (get_or parts c 0) low
  rises-at c l = rises A opens a opened (get_or parts c 0) low c (set_of A v) (rank_at v) (masks-at c l)

  -- ---- the earlier core

  pub earlier-exact : (q : ℕ) → q < A.n → earlier_set A a v q ≡ satisfies A.n (set_of A v) (A.entry q a)
  unfolding earlier_set
  earlier-exact q l = ap (λ (b : Bool). b && satisfies A.n (set_of A v) (A.entry q a)) (lt-ltb q A.n l)

  pub earlier-rank : (q : ℕ) → q < A.n → earlier_rank A a v q ≡ rank_of A (earlier_set A a v) (earlier_level A a v) q
  unfolding earlier_rank
  earlier-rank q l = ap (λ (b : Bool). cond b (rank_of A (earlier_set A a v) (earlier_level A a v) q) 0) (lt-ltb q A.n l)

  -- it is the core before, as 01 says
  pub earlier_is : Earlier A a (earlier_set A a v) (earlier_rank A a v) (set_of A v) (rank_at v) (earlier_level A a v)
  unfolding earlier_level
  earlier_is = earlier-of A a (set_of A v) (rank_at v) H 15 (λ p l. let h = rank-low v p in omega arith) (earlier_set A a v) (earlier_rank A a v) earlier-exact earlier-rank

  -- ---- its set

  from-opened : (p : ℕ) → p < A.n → set_from A opened p ≡ set_of A v p
  unfolding set_from is_open
  from-opened p k = ap (exclusive (A.accepting p)) (opened-bit p k) ∙ xor-twice (A.accepting p) (set_of A v p)

  entry-before : get_or opens (a * 256 + opened) 0 ≡ open_before_lem A a opened
  entry-before = O.table a opened letter opened-small

  -- the table's place for the open states of the later core holds those of the earlier one
  pub open_is : (q : ℕ) → q < A.n → bit (get_or opens (a * 256 + opened) 0) q ≡ is_open A (earlier_set A a v) q
  unfolding open_before_lem
  open_is q l = ap (λ (x : ℕ). bit x q) entry-before
      ∙ bit_mask A.n (is_open A (λ q. satisfies A.n (set_from A opened) (A.entry q a))) q l
      ∙ open-ext A (λ q. satisfies A.n (set_from A opened) (A.entry q a)) (earlier_set A a v) q
      (satisfies-ext A.n (set_from A opened) (set_of A v) from-opened (A.entry q a) ∙ sym (earlier-exact q l))

  entry-small : get_or opens (a * 256 + opened) 0 < 2 ^ A.n
  unfolding open_before_lem
  entry-small = rw entry-before (mask_lt A.n (is_open A (λ q. satisfies A.n (set_from A opened) (A.entry q a))))

  -- accepting is the mask of the accepting states
  module _ (accepting : ℕ) (fits : accepting < 2 ^ A.n) (same : (q : ℕ) → q < A.n → bit accepting q ≡ A.accepting q) where
    below-256 : (m : ℕ) → m < 2 ^ A.n → m < 256
    below-256 m h = let p = pow_mono {i = A.n} {j = 8} P.few_states in omega arith

    -- the set of the earlier core
    pub set_is : bit_xor (get_or opens (a * 256 + opened) 0) accepting ≡ mask 8 (earlier_set A a v)
    unfolding is_open
    set_is = mask-unique 8 (bit_xor (get_or opens (a * 256 + opened) 0) accepting) (earlier_set A a v) (xor_lt 8 (get_or opens (a * 256 + opened) 0) accepting (below-256 _ entry-small) (below-256 _ fits))
        (λ q k. bit-xor (get_or opens (a * 256 + opened) 0) accepting q ∙ by_cases (dec_lt q A.n)
        (λ l. ap₂ exclusive (open_is q l) (same q l) ∙ xor-off (A.accepting q) (earlier_set A a v q))
        (λ l. ap₂ exclusive (bit_high A.n (get_or opens (a * 256 + opened) 0) q entry-small (omega arith)) (bit_high A.n accepting q fits (omega arith))
        ∙ sym (earlier-set-beyond A a v q (omega arith))))

  -- ---- what step_back leaves

  module _ (ranks : ℕ) (levels : List ℕ) (B : Back opens a opened parts A.components low ranks levels) where
    pub ranks-is : ranks ≡ vector_of A (earlier_rank A a v)
    unfolding vector_of earlier_level
    ranks-is = B.ranked
        ∙ sum-ext A.components (ranks_in opens a opened parts low) (λ c. num 16 8 (λ q. cond (ltb q A.n && eqb (A.component q) c) (rank_of A (earlier_set A a v) (earlier_level A a v) q) 0))
        (λ c l. ranks-are A opens a opened (get_or parts c 0) low c (set_of A v) (rank_at v) (masks-at c l) (earlier_set A a v) earlier-exact)
        ∙ sum-ranks A.components A.component (λ q. ltb q A.n) (rank_of A (earlier_set A a v) (earlier_level A a v))
        ∙ num-ext 16 (omega arith) 8 _ _ (λ q k. bif (ltb q A.n)
        (λ t. let l = ltb-true q A.n t in rw (t, lt-ltb (A.component q) A.components (P.known q l)) (sym (earlier-rank q l)))
        (λ t. rw t))

    nibble-low : (c k : ℕ) → c < A.components → largest 8 (λ q. bit (goal opens a opened (get_or parts c 0) low) q && leb
        (class (bit (goal opens a opened (get_or parts c 0) low)) (level opens a opened (get_or parts c 0) low) q) k) (level opens a opened (get_or parts c 0) low) < 16
    nibble-low c k l =
        let h = largest-le 8 (λ q. bit (goal opens a opened (get_or parts c 0) low) q && leb (class (bit (goal opens a opened (get_or parts c 0) low)) (level opens a opened (get_or parts c 0) low) q) k)
        (level opens a opened (get_or parts c 0) low) 8
        (λ q m t. level-low (rises-at c l) q m
        (and_l (bit (goal opens a opened (get_or parts c 0) low) q) (leb (class (bit (goal opens a opened (get_or parts c 0) low)) (level opens a opened (get_or parts c 0) low) q) k) t)) in omega arith

    pub level-is : (c k : ℕ) → c < A.components → k < 16 → get_or levels c 0 / 2 ^ (4 * k) % 16 ≡ level_left A a v c k
    unfolding level_digits level_left earlier_level
    level-is c k l h = ap₂ (λ (x y : ℕ). x / y % 16) (B.levelled c l) (pow16 k)
        ∙ digit-num 16 (omega arith) 16 _ (λ j m. nibble-low c j l) k h
        ∙ left_is A opens a opened (get_or parts c 0) low c (set_of A v) (rank_at v) (masks-at c l) (earlier_set A a v) earlier-exact k
        ∙ largest-ext A.n _ _ (earlier_level A a v) (λ q m. ap (λ (x : ℕ). open_of_lem A (earlier_set A a v) c q && leb x k) (sym (earlier-rank q m)))

    -- the number of the earlier core, as core_of makes it
    pub back_is : (accepting : ℕ) → accepting < 2 ^ A.n → ((q : ℕ) → q < A.n → bit accepting q ≡ A.accepting q)
        → ranks * 2 ^ 8 + bit_xor (get_or opens (a * 256 + opened) 0) accepting ≡ back_of A a v
    unfolding back_of
    back_is accepting fits same = ap₂ (λ (x y : ℕ). x * 2 ^ 8 + y) ranks-is (set_is accepting fits same)

    -- component and classes left
    module _ (passes : every A.components (λ c. gapless v (get_or parts c 0)) ≡ true) where
      next-is : (c : ℕ) → next_in A.components c ≡ next_component_lem A c
      unfolding next_in next_component_lem
      next-is c = refl

      classes-is : (c : ℕ) → c < A.components → class_count_lem v (get_or parts c 0) ≡ all_classes A a v c
      unfolding all_classes
      classes-is c l = classes-largest A parts P (set_of A v) (rank_at v) (only-cores A parts P v w passes) v (λ q m. refl) c l

      pub onward-is : (pair : ℕ) → pair < 256 → pair % 16 < A.components → onward_in v parts A.components levels pair ≡ onto_of_lem A a v pair
      onward-is pair h l = by_cases (ℕ_discrete (pair / 16) 0)
          (λ z. onward-turn v parts A.components levels pair z
          ∙ ap₂ (λ (x y : ℕ). x + 16 * y) (next-is (pair % 16)) (classes-is (next_in A.components (pair % 16)) (next-lt A.components (pair % 16) l) ∙ ap (all_classes A a v) (next-is (pair % 16)))
          ∙ sym (onto-turned A a v pair z))
          (λ z. onward-stay v parts A.components levels pair z
          ∙ ap (λ (x : ℕ). pair % 16 + 16 * x) (level-is (pair % 16) (pair / 16) l (omega arith)) ∙ sym (onto-stayed A a v pair z))
