-- With the tables of an automaton, the step back over the rejecting components is 01's step on them alone, and so for the accepting ones.
use mathlib.Core.Path.{◌≡◌, refl, ap, ap₂, sym, ◌∙◌}
use mathlib.Core.Logic.{by_cases}
use mathlib.Core.Bool.{Bool, true, false, ◌&&◌, not, cond}
use mathlib.Core.List.{List}
use Prim.Native.Nat.{ℕ, ◌/◌, ◌%◌, ◌≤◌, ◌<◌}
use native.Mathlib.Decide.{dec_lt}
use native.Mathlib.Omega.{arith}
use lib.Dec.{eqb, leb, ltb}
use lib.ListN.{get_or}
use lib.Bits.{bit_and, and_le_l}
use borrow.Author.Tests.{eqb-true, eq-eqb, ne_eqb, lt-ltb, ltb-true}
use Rattle.sets.specs.Tests.{Set}
use Rattle.sets.specs.Masks.{bit, mask, exclusive}
use Rattle.sets.specs.Digits.{num}
use Rattle.sets.proofs.Bools.{bif, clash, and_i}
use Rattle.sets.proofs.Bits.{bit-and, bit-none, bit-ext}
use Rattle.sets.proofs.Digits.{num-ext, digit-num, pow16}
use Rattle.theory.specs.Automaton.{Automaton}
use Rattle.theory.specs.Layered.{Layered}
use Rattle.theory.specs.Core.{Core}
use Rattle.theory.specs.CoreComputed.{rank_of}
use Rattle.theory_laws.proofs.Classes.{rank-max}
use Rattle.build_cores.specs.Vectors.{rank_at, Within}
use Rattle.build_cores.specs.Used.{caps_of}
use Rattle.build_cores.specs.Parts.{Parts, set_of}
use Rattle.build_cores.proofs.Sums.{sum-ext, sum-ranks}
use Rattle.build_cores.proofs.Cores.{part-state, part_none}
use Rattle.build_cores.specs.Opens.{Opens}
use Rattle.paper_spec.specs.Definition7.{MeetsR1, MeetsR2}
use Rattle.paper_spec.specs.Halves.{EarlierRejecting, EarlierAccepting}
use Rattle.paper_laws.proofs.Definition7.{rejecting-meets, accepting-meets}
use Rattle.paper_laws.proofs.Halves.{EarlierOf, to-rejecting, to-accepting, half, half-same}
use Rattle.build_step_back.specs.Step.{rejecting_part, accepting_part, part_of, ranks_in, BackOf}
use Rattle.build_step_back.specs.Earlier.{earlier_set, earlier_level, earlier_rank}
use Rattle.build_step_back.proofs.Theory.{ranks-are}
use Rattle.build_step_back.proofs.Tables.{masks-at, earlier-exact, earlier-rank, earlier_is, part_small}

module _ (A : Automaton) (H : Layered A) (s : ℕ) (opens parts : List ℕ) (P : Parts A parts) (O : Opens A s opens)
    (a v : ℕ) (letter : a < s) (w : Within 8 v (caps_of parts A.components))
    (low : List ℕ) (lowest : (j : ℕ) → j < 16 → get_or low j 0 ≡ mask 8 (λ p. ltb 0 (rank_at v p) && leb (rank_at v p) j)) where
  abbrev S : Set
  S = earlier_set A a v

  abbrev l : ℕ → ℕ
  l = earlier_level A a v

  -- ---- the components of one kind, K by components and W by states

  module _ (K W : Set) (kind : (c q : ℕ) → c < A.components → q < A.n → A.component q ≡ c → K c ≡ W q)
      (before : List ℕ) (ranks : ℕ) (levels : List ℕ) (B : BackOf K opens a (get_or low 15 0) parts A.components low before ranks levels) where
    -- the rank of a state of the kind in component c
    abbrev rank_in : ℕ → ℕ → ℕ
    rank_in c q = cond ((ltb q A.n && W q) && eqb (A.component q) c) (rank_of A S l q) 0

    kind-rank : (c : ℕ) → c < A.components → (q : ℕ) → cond (K c) (cond (ltb q A.n && eqb (A.component q) c) (rank_of A S l q) 0) 0 ≡ rank_in c q
    kind-rank c h q = bif (ltb q A.n)
        (λ t. rw t (bif (eqb (A.component q) c)
        (λ u. rw (u, kind c q h (ltb-true q A.n t) (eqb-true (A.component q) c u)) (bif (W q) (λ x. rw x) (λ x. rw x)))
        (λ u. rw u (bif (K c) (λ x. rw x (bif (W q) (λ y. rw y) (λ y. rw y))) (λ x. rw x (bif (W q) (λ y. rw y) (λ y. rw y)))))))
        (λ t. rw t (bif (K c) (λ x. rw x) (λ x. rw x)))

    all-or-none : (b : Bool) (f : ℕ → ℕ) → cond b (num 16 8 f) 0 ≡ num 16 8 (λ q. cond b (f q) 0)
    unfolding num
    all-or-none true f = refl
    all-or-none false f = refl

    part-ranks : (c : ℕ) → c < A.components → cond (K c) (ranks_in opens a (get_or low 15 0) parts low c) 0 ≡ num 16 8 (rank_in c)
    unfolding earlier_level
    part-ranks c h =
        ap (λ (x : ℕ). cond (K c) x 0) (ranks-are A opens a (get_or low 15 0) (get_or parts c 0) low c (set_of A v) (rank_at v) (masks-at A H s opens parts P O a v letter w low lowest c h) S
        (earlier-exact A H s opens parts P O a v letter w low lowest))
        ∙ all-or-none (K c) (λ q. cond (ltb q A.n && eqb (A.component q) c) (rank_of A S l q) 0)
        ∙ num-ext 16 (omega arith) 8 _ _ (λ q m. kind-rank c h q)

    ranks-of : ranks ≡ num 16 8 (λ q. cond ((ltb q A.n && W q) && ltb (A.component q) A.components) (rank_of A S l q) 0)
    ranks-of = B.ranked
        ∙ sum-ext A.components _ (λ c. num 16 8 (rank_in c)) part-ranks
        ∙ sum-ranks A.components A.component (λ q. ltb q A.n && W q) (rank_of A S l)

    rank-small : (q : ℕ) → cond ((ltb q A.n && W q) && ltb (A.component q) A.components) (rank_of A S l q) 0 < 16
    rank-small q = bif ((ltb q A.n && W q) && ltb (A.component q) A.components) (λ t. rw t (omega (arith, rank-max A S l q, P.few_states))) (λ t. rw t (omega arith))

    -- the ranks of the kind are those of the earlier core
    rank-at : (q : ℕ) → q < A.n → W q ≡ true → earlier_rank A a v q ≡ rank_at ranks q
    unfolding rank_at
    rank-at q m x = earlier-rank A H s opens parts P O a v letter w low lowest q m
        ∙ sym (ap₂ (λ (y z : ℕ). y / z % 16) ranks-of (pow16 q) ∙ digit-num 16 (omega arith) 8 _ (λ j h. rank-small j) q (omega (arith, P.few_states))
        ∙ rw (lt-ltb q A.n m, x, lt-ltb (A.component q) A.components (P.known q m)))

  -- ---- accepting is the mask of the accepting states

  module _ (accepting : ℕ) (same : (q : ℕ) → q < A.n → bit accepting q ≡ A.accepting q) where
    both-bit : (c q : ℕ) → c < A.components → q < A.n → bit (bit_and (get_or parts c 0) accepting) q ≡ eqb (A.component q) c && A.accepting q
    both-bit c q h m = bit-and (get_or parts c 0) accepting q ∙ ap₂ (λ (x y : Bool). x && y) (part-state A parts P c q h m) (same q m)

    no-bit : (c q : ℕ) → c < A.components → A.n ≤ q → bit (bit_and (get_or parts c 0) accepting) q ≡ false
    no-bit c q h m = bit-and (get_or parts c 0) accepting q ∙ ap (λ (x : Bool). x && bit accepting q) (part_none A parts P c q h m)

    -- a component is rejecting if one of its states is
    rejecting-at : (c q : ℕ) → c < A.components → q < A.n → A.component q ≡ c → rejecting_part parts accepting c ≡ not (A.accepting q)
    unfolding rejecting_part
    rejecting-at c q h m e = bif (A.accepting q)
        (λ x. ne_eqb (bit_and (get_or parts c 0) accepting) 0 (λ z. clash (both-bit c q h m ∙ and_i (eq-eqb (A.component q) c e) x) (ap (λ (y : ℕ). bit y q) z ∙ bit-none q)) ∙ sym (ap not x))
        (λ x. eq-eqb (bit_and (get_or parts c 0) accepting) 0 (bit-ext 8 (bit_and (get_or parts c 0) accepting) 0
        (omega (arith, and_le_l (get_or parts c 0) accepting, part_small A H s opens parts P O a v letter w low lowest c h)) (omega arith)
        (λ p k. by_cases (dec_lt p A.n)
        (λ n. both-bit c p h n ∙ bif (eqb (A.component p) c) (λ u. rw u (H.pure p q n m (eqb-true (A.component p) c u ∙ sym e) ∙ x)) (λ u. rw u) ∙ sym (bit-none p))
        (λ n. no-bit c p h (omega arith) ∙ sym (bit-none p)))) ∙ sym (ap not x))

    part_at : (k : Bool) (c q : ℕ) → c < A.components → q < A.n → A.component q ≡ c → part_of parts accepting k c ≡ exclusive k (not (A.accepting q))
    unfolding rejecting_part accepting_part
    part_at true c q h m e = ap not (rejecting-at c q h m e)
    part_at false c q h m e = rejecting-at c q h m e

    kind-is : (k b : Bool) → b ≡ k → exclusive k (not b) ≡ true
    kind-is true b e = ap (λ (x : Bool). not (not x)) e
    kind-is false b e = ap not e

    -- what the step back over the components of kind k returns are the ranks of 01's step on them
    back-kind : (k : Bool) (before : List ℕ) (ranks : ℕ) (levels : List ℕ)
        → BackOf (part_of parts accepting k) opens a (get_or low 15 0) parts A.components low before ranks levels
        → EarlierOf A k a (earlier_set A a v) (rank_at ranks) (set_of A v) (rank_at v) (earlier_level A a v)
    back-kind k before ranks levels B = half-same A H a S (earlier_rank A a v) (set_of A v) (rank_at v) l k (rank_at ranks) l
        (λ q m x. (rank-at (part_of parts accepting k) (λ p. exclusive k (not (A.accepting p))) (part_at k) before ranks levels B q m (kind-is k (A.accepting q) x), refl))
        (half A H a S (earlier_rank A a v) (set_of A v) (rank_at v) l k (earlier_is A H s opens parts P O a v letter w low lowest))

    pub rejecting-back : (before : List ℕ) (ranks : ℕ) (levels : List ℕ)
        → BackOf (rejecting_part parts accepting) opens a (get_or low 15 0) parts A.components low before ranks levels
        → EarlierRejecting A a (earlier_set A a v) (rank_at ranks) (set_of A v) (rank_at v) (earlier_level A a v)
    rejecting-back before ranks levels B = to-rejecting A (back-kind false before ranks levels B)

    pub accepting-back : (before : List ℕ) (ranks : ℕ) (levels : List ℕ)
        → BackOf (accepting_part parts accepting) opens a (get_or low 15 0) parts A.components low before ranks levels
        → EarlierAccepting A a (earlier_set A a v) (rank_at ranks) (set_of A v) (rank_at v) (earlier_level A a v)
    accepting-back before ranks levels B = to-accepting A (back-kind true before ranks levels B)

    -- each half meets its rule of source 000's Definition 7 without the other, where v is a core
    module _ (C : Core A (set_of A v) (rank_at v)) where
      pub rejecting-back-r1 : (before : List ℕ) (ranks : ℕ) (levels : List ℕ)
          → BackOf (rejecting_part parts accepting) opens a (get_or low 15 0) parts A.components low before ranks levels
          → MeetsR1 A a (set_of A v) (rank_at v) (earlier_set A a v) (rank_at ranks)
      rejecting-back-r1 before ranks levels B = rejecting-meets A H a S (rank_at ranks) (set_of A v) (rank_at v) C l (rejecting-back before ranks levels B)

      pub accepting-back-r2 : (before : List ℕ) (ranks : ℕ) (levels : List ℕ)
          → BackOf (accepting_part parts accepting) opens a (get_or low 15 0) parts A.components low before ranks levels
          → MeetsR2 A a (set_of A v) (rank_at v) (earlier_set A a v) (rank_at ranks)
      accepting-back-r2 before ranks levels B = accepting-meets A H a S (rank_at ranks) (set_of A v) (rank_at v) C l (accepting-back before ranks levels B)
