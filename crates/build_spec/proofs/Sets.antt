-- The ranks of the cores with given open states: each at least 1, and at most the number of open states of the component.
use mathlib.Core.Path.{◌≡◌, refl, ap, sym, ◌∙◌}
use mathlib.Core.Logic.{by_cases}
use mathlib.Core.Bool.{Bool, true, ◌&&◌, cond}
use mathlib.Core.List.{List}
use Prim.Native.Nat.{ℕ, zero, suc, ◌+◌, ◌-◌, ◌*◌, ◌^◌, ◌≤◌, ◌<◌}
use native.Mathlib.Omega.{arith}
use native.Mathlib.Decide.{dec_lt}
use native.Mathlib.Nat.{mod-eq_of_lt}
use lib.Bits.{bit_and, bit_xor}
use lib.Dec.{eqb, leb, ltb}
use lib.ListN.{get_or}
use borrow.Author.Tests.{eqb-true, eq-eqb, lt-ltb, le-ltb, ltb-true, leb-true, le-leb, lt-leb}
use Rattle.sets.specs.Tests.{one, count}
use Rattle.sets.specs.Lists.{tabulate}
use Rattle.sets.specs.Masks.{bit, mask}
use Rattle.sets.specs.Digits.{num}
use Rattle.sets.proofs.Bools.{bif, and_l, and_r, and_i}
use Rattle.sets.proofs.Tests.{count-ext, count-lt, count-sub, count-more, count-trim}
use Rattle.sets.proofs.Lists.{tabulate-at}
use Rattle.sets.proofs.Masks.{bit_mask, mask_lt}
use Rattle.sets.proofs.Bits.{bit-and, bit_below, subset-and, subset-le}
use Rattle.sets.proofs.Digits.{num-add, num-ext, num-lt, num-digits}
use Rattle.theory.specs.Automaton.{Automaton, automaton}
use Rattle.theory.specs.Core.{Core}
use Rattle.theory.specs.Rule.{Rule}
use Rattle.build_cores.specs.Vectors.{rank_at, Within}
use Rattle.build_cores.specs.Used.{sizes_of, caps_of}
use Rattle.build_cores.specs.Parts.{Parts, set_of, size_at}
use Rattle.build_cores.proofs.Vectors.{rank-digit, rank-num, within-rank, within-lt, within_of}
use Rattle.build_cores.proofs.Gaps.{rank-low, sizes-by}
use Rattle.build_cores.proofs.Sums.{sum-ext, sum-ranks}
use Rattle.build_cores.proofs.Cores.{part-bit, cap-at, caps-fit, rank-beyond, open-rank, only-cores}
use Rattle.build_spec.specs.Chains.{Chained}
use Rattle.build_spec.specs.Keys.{Cored, LeadsAt}
use Rattle.build_spec.specs.Tables.{Shaped, RuleTables, Lowest}
use Rattle.build_spec.specs.declared.Shape.{Shape}
use Rattle.build_spec.specs.Sets.{open_in, Spans}
use Rattle.build_spec.proofs.Starting.{open-lowest}
use Rattle.build_spec.proofs.Letters.{nothing-new}

-- a vector by its ranks
ranks-num : (v : ℕ) → v < 2 ^ 32 → num 16 8 (rank_at v) ≡ v
ranks-num v h = num-ext 16 (omega arith) 8 (rank_at v) _ (λ q l. rank-digit v q) ∙ num-digits 16 (omega arith) 8 v ∙ mod-eq_of_lt h

-- vectors added rank by rank
ranks-add : (f g : ℕ → ℕ) → num 16 8 f + num 16 8 g ≡ num 16 8 (λ q. f q + g q)
ranks-add f g =
    (let z : num 16 8 f + num 16 8 g ≡ num 16 8 f + num 16 8 g * 1 = omega arith in z)
    ∙ num-add 16 8 f g 1
    ∙ num-ext 16 (omega arith) 8 _ _ (λ q l. omega arith)

module _ (A : Automaton) (parts : List ℕ) (P : Parts A parts) (x : ℕ) (states : (q : ℕ) → bit x q ≡ true → q < A.n) where
  -- the open states of component c
  abbrev open_part : ℕ → ℕ
  open_part c = bit_and (get_or parts c 0) x

  open-bit : (c q : ℕ) → c < A.components → bit (open_part c) q ≡ (ltb q A.n && eqb (A.component q) c) && bit x q
  open-bit c q l = bit-and (get_or parts c 0) x q ∙ ap (λ (b : Bool). b && bit x q) (part-bit A parts P c q l)

  -- how many open states the component of q has
  abbrev shared : ℕ → ℕ
  shared q = count 8 (bit (open_part (A.component q)))

  abbrev digit : ℕ → ℕ
  digit q = cond (ltb q A.n && bit x q) (shared q) 0

  inside_is : (c q : ℕ) → ((ltb q A.n && eqb (A.component q) c) && bit x q) ≡ ((ltb q A.n && bit x q) && eqb (A.component q) c)
  inside_is c q = bif (ltb q A.n) (λ t. rw t (bif (bit x q) (λ u. rw u (bif (eqb (A.component q) c) (λ e. rw e) (λ e. rw e))) (λ u. rw u (bif (eqb (A.component q) c) (λ e. rw e) (λ e. rw e)))))
      (λ t. rw t)

  open-sizes : (c : ℕ) → c < A.components → sizes_of (open_part c) ≡ num 16 8 (λ q. cond ((ltb q A.n && bit x q) && eqb (A.component q) c) (shared q) 0)
  open-sizes c l = sizes-by (open_part c) (λ q. (ltb q A.n && bit x q) && eqb (A.component q) c) shared (λ q. open-bit c q l ∙ inside_is c q)
      (λ q t. ap (λ (c : ℕ). count 8 (bit (open_part c))) (sym (eqb-true (A.component q) c (and_r (ltb q A.n && bit x q) (eqb (A.component q) c) t))))

  caps-open : (those : List ℕ) → ((c : ℕ) → c < 8 → get_or those c 0 ≡ open_part c) → caps_of those A.components ≡ num 16 8 digit
  unfolding caps_of
  caps-open those h =
      sum-ext A.components (λ c. sizes_of (get_or those c 0)) (λ c. num 16 8 (λ q. cond ((ltb q A.n && bit x q) && eqb (A.component q) c) (shared q) 0))
      (λ c l. ap sizes_of (h c (omega (arith, P.few_components))) ∙ open-sizes c l)
      ∙ sum-ranks A.components A.component (λ q. ltb q A.n && bit x q) shared
      ∙ num-ext 16 (omega arith) 8 _ _ (λ q k. bif (ltb q A.n && bit x q) (λ t. rw (t, lt-ltb (A.component q) A.components (P.known q (ltb-true q A.n (and_l (ltb q A.n) (bit x q) t)))))
      (λ t. rw t))

  -- ---- an open state has from one to as many ranks

  digit-open : (q : ℕ) → bit x q ≡ true → digit q ≡ shared q
  digit-open q t = rw (lt-ltb q A.n (states q t), t)

  own-bit : (q : ℕ) → bit x q ≡ true → bit (open_part (A.component q)) q ≡ true
  own-bit q t = open-bit (A.component q) q (P.known q (states q t)) ∙ rw (lt-ltb q A.n (states q t), eq-eqb (A.component q) (A.component q) refl, t)

  digit-one : (q : ℕ) → one (bit x q) ≤ digit q
  digit-one q = bif (bit x q)
      (λ t. let n = count-lt q 8 (bit (open_part (A.component q))) (let s = states q t in omega (arith, P.few_states)) (own-bit q t) in let e : one (bit x q) ≡ 1 = rw t in
      omega (arith, digit-open q t))
      (λ t. let e : one (bit x q) ≡ 0 = rw t in omega arith)

  digit-cap : (q : ℕ) → q < 8 → digit q ≤ rank_at (caps_of parts A.components) q
  unfolding size_at
  digit-cap q l = bif (ltb q A.n && bit x q)
      (λ t. let h = ltb-true q A.n (and_l (ltb q A.n) (bit x q) t) in
      let k = P.known q h in
      let a = count-sub 8 (bit (open_part (A.component q))) (λ p. ltb p A.n && eqb (A.component p) (A.component q))
      (λ p m b. and_l (ltb p A.n && eqb (A.component p) (A.component q)) (bit x p) (sym (open-bit (A.component q) p k) ∙ b)) in
      let b = count-trim 8 A.n (λ p. ltb p A.n && eqb (A.component p) (A.component q)) P.few_states (λ p m n. rw (le-ltb p A.n m)) in
      let c = count-ext A.n (λ p. ltb p A.n && eqb (A.component p) (A.component q)) (λ p. eqb (A.component p) (A.component q)) (λ p m. rw (lt-ltb p A.n m)) in
      let d : cond (ltb q A.n) (count A.n (λ p. eqb (A.component p) (A.component q))) 0 ≡ count A.n (λ p. eqb (A.component p) (A.component q)) = rw (lt-ltb q A.n h) in
      let e : digit q ≡ shared q = rw t in omega (arith, cap-at A parts P q l))
      (λ t. let e : digit q ≡ 0 = rw t in omega arith)

  module _ (v : ℕ) (w : Cored parts A.components v) (o : open_in v ≡ x) where
    ranked : (q : ℕ) → q < 8 → bit x q ≡ ltb 0 (rank_at v q)
    ranked q l = ap (λ (m : ℕ). bit m q) (sym o) ∙ bit_mask 8 (λ q. ltb 0 (rank_at v q)) q l

    core : Core A (set_of A v) (rank_at v)
    core = only-cores A parts P v w.within w.passes

    -- j states of the component have ranks up to j
    filled : (q : ℕ) → q < A.n → bit x q ≡ true → (j : ℕ) → j ≤ rank_at v q → j ≤ count 8 (λ p. bit (open_part (A.component q)) p && leb (rank_at v p) j)
    filled q l t zero h = omega arith
    filled q l t (suc j) h =
        let ih = filled q l t j (omega arith) in
        let g = core.gapless q (suc j) l (open-rank A v q l ∙ sym (ranked q (omega (arith, P.few_states))) ∙ t) (omega arith) h in
        let p = g.0 in let m : p < 8 = omega (arith, g.1, P.few_states) in
        let b : bit x p ≡ true = ranked p m ∙ lt-ltb 0 (rank_at v p) (omega (arith, g.4)) in
        let c : bit (open_part (A.component q)) p ≡ true = ap (λ (k : ℕ). bit (open_part k) p) (sym g.2) ∙ own-bit p b in
        let z = count-more 8 (λ p. bit (open_part (A.component q)) p && leb (rank_at v p) j) (λ p. bit (open_part (A.component q)) p && leb (rank_at v p) (suc j))
        (λ k n e. and_i (and_l (bit (open_part (A.component q)) k) (leb (rank_at v k) j) e)
        (le-leb (rank_at v k) (suc j) (let u : rank_at v k ≤ j = leb-true (rank_at v k) j (and_r (bit (open_part (A.component q)) k) (leb (rank_at v k) j) e) in omega arith))) p m
        (rw (c, lt-leb (rank_at v p) j (omega (arith, g.4)))) (rw (c, le-leb (rank_at v p) (suc j) (omega (arith, g.4)))) in
        omega arith

    rank-digit-le : (q : ℕ) → q < 8 → rank_at v q ≤ digit q
    rank-digit-le q l = by_cases (dec_lt 0 (rank_at v q))
        (λ h. let t = ranked q l ∙ lt-ltb 0 (rank_at v q) h in
        let a = filled q (states q t) t (rank_at v q) (omega arith) in
        let b = count-sub 8 (λ p. bit (open_part (A.component q)) p && leb (rank_at v p) (rank_at v q)) (bit (open_part (A.component q)))
        (λ p m e. and_l (bit (open_part (A.component q)) p) (leb (rank_at v p) (rank_at v q)) e) in
        omega (arith, digit-open q t))
        (λ h. omega arith)

  -- ---- the span of the set

  digit_low : (q : ℕ) → q < 8 → digit q < 16
  digit_low q l = omega (arith, digit-cap q l, rank-low (caps_of parts A.components) q)

  abbrev base : ℕ
  base = num 16 8 (λ q. one (bit x q))

  abbrev spare : ℕ → ℕ
  spare q = digit q - one (bit x q)

  spare_low : (q : ℕ) → q < 8 → spare q < 16
  spare_low q l = omega (arith, digit_low q l)

  pub spare-is : (those : List ℕ) → ((c : ℕ) → c < 8 → get_or those c 0 ≡ open_part c) → caps_of those A.components ≡ base + num 16 8 spare
  spare-is those h = caps-open those h ∙ sym (ranks-add (λ q. one (bit x q)) spare ∙ num-ext 16 (omega arith) 8 _ _ (λ q l. omega (arith, digit-one q)))

  pub span : Spans parts A.components x base (num 16 8 spare)
  span = record {
    low = num-lt 16 (omega arith) 8 spare spare_low;
    inside = λ d W.
        let d-low = within-lt 8 d (num 16 8 spare) W in
        let rank : (q : ℕ) → q < 8 → rank_at d q ≤ spare q = λ q l. let a = within-rank 8 d (num 16 8 spare) W q l in omega (arith, rank-num spare spare_low q l) in
        let sum : (q : ℕ) → q < 8 → one (bit x q) + rank_at d q ≤ digit q = λ q l. omega (arith, rank q l, digit-one q) in
        let is : base + d ≡ num 16 8 (λ q. one (bit x q) + rank_at d q) = ap (λ (k : ℕ). base + k) (sym (ranks-num d d-low)) ∙ ranks-add (λ q. one (bit x q)) (rank_at d) in
        rw is (within_of 8 (num 16 8 (λ q. one (bit x q) + rank_at d q)) (caps_of parts A.components) (num-lt 16 (omega arith) 8 _ (λ q l. omega (arith, sum q l, digit_low q l))) (caps-fit A parts P)
        (λ q l. omega (arith, rank-num (λ q. one (bit x q) + rank_at d q) (λ p k. omega (arith, sum p k, digit_low p k)) q l, sum q l, digit-cap q l)));
    covers = λ v w o.
        let step : ℕ → ℕ = λ q. rank_at v q - one (bit x q) in
        let under : (q : ℕ) → q < 8 → one (bit x q) ≤ rank_at v q = λ q l. bif (bit x q) (λ t. let e : one (bit x q) ≡ 1 = rw t in omega (arith, ltb-true 0 (rank_at v q) (sym (ranked v w o q l) ∙ t)))
        (λ t. let e : one (bit x q) ≡ 0 = rw t in omega arith) in
        let few : (q : ℕ) → q < 8 → step q ≤ spare q = λ q l. omega (arith, rank-digit-le v w o q l) in
        let small : (q : ℕ) → q < 8 → step q < 16 = λ q l. omega (arith, few q l, spare_low q l) in (
          num 16 8 step,
          within_of 8 (num 16 8 step) (num 16 8 spare) (num-lt 16 (omega arith) 8 step small) (num-lt 16 (omega arith) 8 spare spare_low)
              (λ q l. omega (arith, rank-num step small q l, rank-num spare spare_low q l, few q l)),
          sym (ranks-num v (within-lt 8 v (caps_of parts A.components) w.within)) ∙ sym (ranks-add (λ q. one (bit x q)) step ∙ num-ext 16 (omega arith) 8 _ _ (λ q l. omega (arith, under q l))),
        );
  }

-- ---- of a rule

module _ {r : Rule} {parts : List ℕ} {shape : Shape} (S : Shaped r parts shape) where
  abbrev largest : ℕ
  largest = caps_of parts shape.components

  -- open states have a largest rank
  open-bits : (v : ℕ) → Within 8 v largest → (q : ℕ) → q < 8 → bit (open_in v) q ≡ true → bit (open_in largest) q ≡ true
  open-bits v w q l t = let a = ltb-true 0 (rank_at v q) (sym (bit_mask 8 (λ q. ltb 0 (rank_at v q)) q l) ∙ t) in
      bit_mask 8 (λ q. ltb 0 (rank_at largest q)) q l ∙ lt-ltb 0 (rank_at largest q) (omega (arith, within-rank 8 v largest w q l))

  pub open-within : (v : ℕ) → Within 8 v largest → open_in v ≤ open_in largest
  open-within v w = subset-le 8 (open_in v) (open_in largest) (mask_lt 8 (λ q. ltb 0 (rank_at v q))) (open-bits v w)

  pub open-and : (v : ℕ) → Within 8 v largest → bit_and (open_in v) (open_in largest) ≡ open_in v
  open-and v w = (subset-and 8 (open_in v) (open_in largest) (mask_lt 8 (λ q. ltb 0 (rank_at v q)))).0 (open-bits v w)

  largest-within : Within 8 largest (caps_of parts (automaton r).components)
  largest-within = rw S.components_are (within_of 8 (caps_of parts (automaton r).components) (caps_of parts (automaton r).components) (caps-fit (automaton r) parts S.masks)
      (caps-fit (automaton r) parts S.masks) (λ q l. omega arith))

  module _ (x : ℕ) (sub : bit_and x (open_in largest) ≡ x) where
    states-of : (q : ℕ) → bit x q ≡ true → q < (automaton r).n
    states-of q t =
        let b : bit (open_in largest) q ≡ true = and_r (bit x q) (bit (open_in largest) q) (sym (bit-and x (open_in largest) q) ∙ ap (λ (m : ℕ). bit m q) sub ∙ t) in
        let l = bit_below 8 (open_in largest) q (mask_lt 8 (λ q. ltb 0 (rank_at largest q))) b in
        by_cases (dec_lt q (automaton r).n) (λ h. h)
        (λ h. absurd (let a = ltb-true 0 (rank_at largest q) (sym (bit_mask 8 (λ q. ltb 0 (rank_at largest q)) q l) ∙ b) in
        let z = rank-beyond (automaton r) parts S.masks largest largest-within q (omega arith) l in omega arith))

    -- the span that the code takes
    module _ (those : List ℕ) (h : (c : ℕ) → c < 8 → get_or those c 0 ≡ bit_and (get_or parts c 0) x) where
      spare-there : caps_of those shape.components ≡ num 16 8 (λ q. one (bit x q)) + num 16 8 (spare (automaton r) parts S.masks x states-of)
      spare-there = rw S.components_are (spare-is (automaton r) parts S.masks x states-of those h)

      pub base-le : num 16 8 (λ q. one (bit x q)) ≤ caps_of those shape.components
      base-le = omega (arith, spare-there)

      pub span_of : Spans parts shape.components x (num 16 8 (λ q. one (bit x q))) (caps_of those shape.components - num 16 8 (λ q. one (bit x q)))
      span_of =
          let e : caps_of those shape.components - num 16 8 (λ q. one (bit x q)) ≡ num 16 8 (spare (automaton r) parts S.masks x states-of) = omega (arith, spare-there) in
          rw (e, S.components_are) (span (automaton r) parts S.masks x states-of)

-- where no key of an earlier set stands from place `from` on, nothing leads to the cores with the open states x
pub nothing-fresh : {r : Rule} {opens parts : List ℕ} {shape : Shape} → RuleTables r opens parts shape → {xs heads last : List ℕ} {n : ℕ} (from x : ℕ) → Chained xs heads last n
    → ((a : ℕ) → a < shape.s → get_or last (bit_xor (get_or opens (a * 256 + x) 0) shape.accepting) 0 ≤ from)
    → (v : ℕ) → open_in v ≡ x → (y : ℕ) → LeadsAt (automaton r) parts shape.components shape.s from n xs v y → ⊥
nothing-fresh T from x C h v o y l =
    let a = l.1.3.0 in let known = l.1.3.1 in
    let L : Lowest v low = λ j k. tabulate-at 16 level 0 j k ∙ ap level (let z : 0 + j ≡ j = omega arith in z) in
    let e : get_or low 15 0 ≡ x = open-lowest v low L ∙ o in
    nothing-new T a known l.0 low L from C (rw e (h a known)) y (l.1.0, l.1.1, l.1.2, l.1.3.2)
  where
    level : ℕ → ℕ
    level j = mask 8 (λ p. ltb 0 (rank_at v p) && leb (rank_at v p) j)

    low : List ℕ
    low = tabulate 16 level 0
