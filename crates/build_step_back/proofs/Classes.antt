-- Classes of a set by the values of its members, taken one value after the other.
use mathlib.Core.Path.{◌≡◌, refl, ap, ap₂, sym, ◌∙◌}
use mathlib.Core.Logic.{by_cases}
use mathlib.Core.Bool.{Bool, true, false, ◌&&◌, not, cond}
use Prim.Native.Nat.{ℕ, suc, ◌+◌, ◌*◌, ◌%◌, ◌^◌, ◌≤◌, ◌<◌}
use native.Mathlib.Omega.{arith}
use native.Mathlib.Decide.{dec_lt, ℕ_discrete}
use native.Mathlib.Nat.{le_trans, le_antisymm}
use native.Mathlib.Numerals.{add-one}
use lib.Dec.{eqb, leb, ltb}
use borrow.Author.Tests.{eqb-true, eq-eqb, lt-ltb, le-ltb, ltb-true, leb-true, leb-false, le-leb, lt-leb}
use Rattle.sets.specs.Tests.{Set, some_below, count, largest, one}
use Rattle.sets.specs.Masks.{bit}
use Rattle.sets.specs.Digits.{num}
use Rattle.sets.proofs.Bools.{bif, clash, and_l, and_r, and_i}
use Rattle.sets.proofs.Tests.{some_at, some-get, count-le, count-max, largest-ge, largest-le, largest-ext}
use Rattle.sets.proofs.Digits.{num-lt, num-ext, num-add}
use Rattle.sets.proofs.Bits.{bit-none, bit-ext}
use Rattle.build_step_back.specs.Step.{valued, class, rank_digits, level_digits}
use Rattle.build_step_back.proofs.Masks.{ones-from, ones-first, ones-next, one-le}

-- two members with the levels 0 and 2: the second has rank 2, "closed up", and not 3
closed-up : class (λ q. ltb q 2) (λ q. q * 2) 1 ≡ 2
unfolding class valued count some_below
closed-up = refl

module _ (P : Set) (l : ℕ → ℕ) (low : (q : ℕ) → q < 8 → P q ≡ true → l q ≤ 8) where
  -- members of a value below j
  abbrev pub below : ℕ → Set
  below j q = P q && ltb (l q) j

  pub ranks_at : ℕ → ℕ
  ranks_at j = num 16 8 (λ q. cond (P q && ltb (l q) j) (class P l q) 0)

  largest_upto : ℕ → ℕ → ℕ
  largest_upto j k = largest 8 (λ q. below j q && leb (class P l q) k) l

  V-at : (j q : ℕ) → q < 8 → P q ≡ true → l q ≡ j → valued P l j ≡ true
  unfolding valued
  V-at j q h t e = some_at 8 (λ p. P p && eqb (l p) j) q h (and_i t (eq-eqb (l q) j e))

  V-get : (j : ℕ) → valued P l j ≡ true → (q : ℕ) × (q < 8) × (P q ≡ true) × (l q ≡ j)
  unfolding valued
  V-get j e = let r = some-get 8 (λ p. P p && eqb (l p) j) e in (r.0, r.1, and_l (P r.0) (eqb (l r.0) j) r.2, eqb-true _ _ (and_r (P r.0) (eqb (l r.0) j) r.2))

  -- the value of q is below j, is j, or is above
  beside : {X : Type 0} (j q : ℕ) → (ltb (l q) (suc j) ≡ true → ltb (l q) j ≡ true → X) → (l q ≡ j → ltb (l q) (suc j) ≡ true → ltb (l q) j ≡ false → X)
      → (ltb (l q) (suc j) ≡ false → ltb (l q) j ≡ false → X) → X
  beside j q f g h = by_cases (dec_lt (l q) j) (λ a. f (lt-ltb (l q) (suc j) (omega arith)) (lt-ltb (l q) j a)) (λ a. by_cases (ℕ_discrete (l q) j)
      (λ b. g b (lt-ltb (l q) (suc j) (omega arith)) (le-ltb (l q) j (omega arith)))
      (λ b. h (le-ltb (l q) (suc j) (omega arith)) (le-ltb (l q) j (omega arith))))

  -- no member has the value j
  below_none : (j : ℕ) → valued P l j ≡ false → (q : ℕ) → q < 8 → below (suc j) q ≡ below j q
  below_none j e q h = bif (P q) (λ t. rw t (beside j q (λ a b. a ∙ sym b) (λ i a b. clash (V-at j q h t i) e) (λ a b. a ∙ sym b))) (λ t. rw t)

  class-max : (q : ℕ) → q < 8 → P q ≡ true → class P l q < 16
  unfolding class
  class-max q h t = omega (arith, count-max (suc (l q)) (valued P l), low q h t)

  class-below : (j q : ℕ) → l q < j → class P l q ≤ count j (valued P l)
  unfolding class
  class-below j q h = count-le (suc (l q)) j (valued P l) (omega arith)

  class-new : (j q : ℕ) → l q ≡ j → class P l q ≡ count (suc j) (valued P l)
  unfolding class
  class-new j q e = rw e

  pub ranks-none : (j : ℕ) → valued P l j ≡ false → ranks_at j ≡ ranks_at (suc j)
  unfolding ranks_at
  ranks-none j e = num-ext 16 (omega arith) 8 _ _ (λ q h. ap (λ (b : Bool). cond b (class P l q) 0) (sym (below_none j e q h)))

  -- ---- the largest value in the k lowest classes

  top-none : (j : ℕ) → valued P l j ≡ false → (k : ℕ) → largest_upto (suc j) k ≡ largest_upto j k
  unfolding largest_upto
  top-none j e k = largest-ext 8 _ _ l (λ q h. ap (λ (b : Bool). b && leb (class P l q) k) (below_none j e q h))

  -- a class above k comes in: nothing changes
  top-keep : (j k : ℕ) → k < count (suc j) (valued P l) → largest_upto (suc j) k ≡ largest_upto j k
  unfolding largest_upto
  top-keep j k m = largest-ext 8 _ _ l (λ q h. bif (P q)
      (λ t. rw t (beside j q (λ a b. rw (a, b)) (λ i a b. rw (a, b, lt-leb (class P l q) k (omega (arith, class-new j q i)))) (λ a b. rw (a, b))))
      (λ t. rw t))

  below-lt : (j q : ℕ) → below j q ≡ true → l q < j
  below-lt j q t = ltb-true (l q) j (and_r (P q) (ltb (l q) j) t)

  below-is : (j q : ℕ) → P q ≡ true → l q < j → below j q ≡ true
  below-is j q t h = and_i t (lt-ltb (l q) j h)

  -- a class up to k comes in: it has the largest value
  top-new : (j k : ℕ) → valued P l j ≡ true → count (suc j) (valued P l) ≤ k → largest_upto (suc j) k ≡ j
  unfolding largest_upto
  top-new j k e m =
      let p = V-get j e in
      le_antisymm
      (largest-le 8 _ l j (λ q h t. let u = below-lt (suc j) q (and_l (below (suc j) q) (leb (class P l q) k) t) in omega arith))
      (let u : below (suc j) p.0 && leb (class P l p.0) k ≡ true =
      and_i (below-is (suc j) p.0 p.2 (omega (arith, p.3))) (le-leb (class P l p.0) k (omega (arith, class-new j p.0 p.3))) in
      let z = largest-ge 8 (λ q. below (suc j) q && leb (class P l q) k) l p.0 p.1 u in omega (arith, p.3))

  -- all members so far are in the k lowest classes
  top-all : (j k : ℕ) → count j (valued P l) ≤ k → largest_upto j k ≡ largest 8 (below j) l
  unfolding largest_upto
  top-all j k m =
      largest-ext 8 _ _ l (λ q h. bif (below j q) (λ t. rw t (le-leb (class P l q) k (le_trans (class-below j q (below-lt j q t)) m))) (λ t. rw t))

  top-le : (j k : ℕ) → largest_upto j k ≤ 8
  unfolding largest_upto
  top-le j k = largest-le 8 _ l 8 (λ q h t. low q h (and_l (P q) (ltb (l q) j) (and_l (below j q) (leb (class P l q) k) t)))

  pub all-le : (j : ℕ) → largest 8 (below j) l ≤ j
  all-le j = largest-le 8 _ l j (λ q h t. let u = below-lt j q t in omega arith)

  all_new : (j : ℕ) → valued P l j ≡ true → largest 8 (below (suc j)) l ≡ j
  all_new j e = sym (top-all (suc j) (count (suc j) (valued P l)) (omega arith)) ∙ top-new j (count (suc j) (valued P l)) e (omega arith)

  -- ---- the loop

  -- members that have not come in
  abbrev late : ℕ → Set
  late j q = P q && not (ltb (l q) j)

  -- their rank is at least the number m of classes so far
  pub ranks_so_far : ℕ → ℕ → ℕ
  ranks_so_far m j = ranks_at j + num 16 8 (λ q. one (late j q)) * m

  -- nibble k for the k lowest classes: one more than their largest value if there are so many (0 for none), else j
  abbrev level_so_far : ℕ → ℕ → ℕ → ℕ
  level_so_far m j k = cond (ltb m k) j (one (leb 1 k) + largest_upto j k)

  pub levels_so_far : ℕ → ℕ → ℕ
  levels_so_far m j = num 16 16 (level_so_far m j)

  pub record State (prev ones ranks levels j : ℕ) : Type 0 where
    pub m : ℕ
    pub bits : (q : ℕ) → q < 8 → bit prev q ≡ P q && ltb (l q) j
    pub small : prev < 256
    pub found : m ≡ count j (valued P l)
    pub from : ones ≡ ones-from (suc m)
    pub ranked : ranks ≡ ranks_so_far m j
    pub levelled : levels ≡ levels_so_far m j
    -- once all have come in, the last came in with the value before j
    pub latest : ((q : ℕ) → q < 8 → bit prev q ≡ P q) → (i : ℕ) × (j ≡ suc i) × (valued P l i ≡ true)

  none_below : (q : ℕ) → P q && ltb (l q) 0 ≡ false
  none_below q = bif (P q) (λ t. rw t (le-ltb (l q) 0 (omega arith))) (λ t. rw t)

  none-top : (k : ℕ) → largest_upto 0 k ≡ 0
  unfolding largest_upto largest
  none-top k = largest-ext 8 _ (λ q. false) l (λ q g. ap (λ (b : Bool). b && leb (class P l q) k) (none_below q))

  start-level : (k : ℕ) → level_so_far 0 0 k ≡ 0
  start-level k = by_cases (dec_lt 0 k) (λ h. rw (lt-ltb 0 k h)) (λ h. rw (le-ltb 0 k (omega arith)) (omega (arith, none-top k)))

  start-levels : levels_so_far 0 0 ≡ 0
  unfolding levels_so_far num
  start-levels = num-ext 16 (omega arith) 16 (level_so_far 0 0) (λ k. 0) (λ k h. start-level k)

  start-ranks : ranks_at 0 ≡ 0
  unfolding ranks_at num
  start-ranks = num-ext 16 (omega arith) 8 _ (λ q. 0) (λ q h. ap (λ (b : Bool). cond b (class P l q) 0) (none_below q))

  -- before the first turn, with members to come in
  pub start : (((q : ℕ) → q < 8 → bit 0 q ≡ P q) → ⊥) → State 0 1229782938247303440 0 0 0
  unfolding count ranks_so_far
  start more = record {
    m = 0;
    bits = λ q h. bit-none q ∙ sym (none_below q);
    small = omega arith;
    found = refl;
    from = ones-first;
    ranked = omega (arith, start-ranks);
    levelled = sym start-levels;
    latest = λ h. absurd (more h);
  }

  -- ---- digits that fit

  -- a member's rank so far
  abbrev rank_so_far : ℕ → ℕ → ℕ → ℕ
  rank_so_far m j q = cond (below j q) (class P l q) 0 + one (late j q) * m

  ranks-digits : (m j : ℕ) → ranks_so_far m j ≡ num 16 8 (rank_so_far m j)
  unfolding ranks_so_far ranks_at
  ranks-digits m j = num-add 16 8 (λ q. cond (below j q) (class P l q) 0) (λ q. one (late j q)) m

  rank-fits : (m j q : ℕ) → m < 16 → q < 8 → rank_so_far m j q < 16
  rank-fits m j q h k = bif (P q)
      (λ t. rw t (bif (ltb (l q) j) (λ u. rw u (omega (arith, class-max q k t))) (λ u. rw u (omega arith))))
      (λ t. rw t (omega arith))

  pub ranks-fit : (m j : ℕ) → m < 16 → ranks_so_far m j < 2 ^ 32
  ranks-fit m j h = rw (ranks-digits m j) (num-lt 16 (omega arith) 8 _ (λ q k. rank-fits m j q h k))

  -- ---- a turn

  -- the nibbles of classes that are still to come go up
  abbrev level_raised : ℕ → ℕ → ℕ → ℕ
  level_raised m j k = cond (ltb m k) (suc j) (one (leb 1 k) + largest_upto j k)

  raise : (m j k : ℕ) → level_so_far m j k + one (leb (suc m) k) * 1 ≡ level_raised m j k
  raise m j k = by_cases (dec_lt m k) (λ h. rw (lt-ltb m k h) (omega arith)) (λ h. rw (le-ltb m k (omega arith)) (omega arith))

  raised : (m j : ℕ) → levels_so_far m j + ones-from (suc m) ≡ num 16 16 (level_raised m j)
  unfolding levels_so_far ones-from
  raised m j =
      (let e : num 16 16 (level_so_far m j) + num 16 16 (λ k. one (leb (suc m) k)) ≡ num 16 16 (level_so_far m j) + num 16 16 (λ k. one (leb (suc m) k)) * 1 = omega arith in e)
      ∙ num-add 16 16 (level_so_far m j) (λ k. one (leb (suc m) k)) 1
      ∙ num-ext 16 (omega arith) 16 _ _ (λ k h. raise m j k)

  raised-digit : (m j k : ℕ) → j ≤ 8 → level_raised m j k < 16
  raised-digit m j k h = by_cases (dec_lt m k)
      (λ a. rw (lt-ltb m k a) (omega arith))
      (λ a. rw (le-ltb m k (omega arith)) (omega (arith, top-le j k, one-le (leb 1 k))))

  -- ranks of members that come in or are still to come
  rank_up : (m j q : ℕ) → suc m ≡ count (suc j) (valued P l) → rank_so_far m j q + one (late j q) * 1 ≡ rank_so_far (suc m) (suc j) q
  rank_up m j q c = bif (P q)
      (λ t. rw t (beside j q (λ a b. rw (a, b) (omega arith)) (λ i a b. rw (a, b) (omega (arith, class-new j q i))) (λ a b. rw (a, b) (omega arith))))
      (λ t. rw t (omega arith))

  late-none : (j : ℕ) → valued P l j ≡ false → (q : ℕ) → q < 8 → late (suc j) q ≡ late j q
  late-none j e q h = bif (P q)
      (λ t. let z = below_none j e q h in rw t (ap not (sym (ap (λ (b : Bool). b && ltb (l q) (suc j)) t) ∙ z ∙ ap (λ (b : Bool). b && ltb (l q) j) t)))
      (λ t. rw t)

  level-stay : (m j k : ℕ) → valued P l j ≡ false → level_raised m j k ≡ level_so_far m (suc j) k
  level-stay m j k e = ap (λ (x : ℕ). cond (ltb m k) (suc j) (one (leb 1 k) + x)) (sym (top-none j e k))

  level-go : (m j k : ℕ) → suc m ≡ count (suc j) (valued P l) → valued P l j ≡ true → level_raised m j k ≡ level_so_far (suc m) (suc j) k
  level-go m j k c e = by_cases (dec_lt m k)
      (λ a. by_cases (dec_lt (suc m) k)
      (λ b. rw (lt-ltb m k a, lt-ltb (suc m) k b))
      (λ b. rw (lt-ltb m k a, le-ltb (suc m) k (omega arith), le-leb 1 k (omega arith)) (omega (arith, top-new j k e (omega arith)))))
      (λ a. rw (le-ltb m k (omega arith), le-ltb (suc m) k (omega arith)) (omega (arith, top-keep j k (omega arith))))

  module _ (x : ℕ) {prev ones ranks levels j : ℕ} (hx : x < 256) (bx : (q : ℕ) → q < 8 → bit x q ≡ P q && leb (l q) j) (s : State prev ones ranks levels j) where
    leb-suc : (q : ℕ) → P q && leb (l q) j ≡ P q && ltb (l q) (suc j)
    leb-suc q = bif (leb (l q) j)
        (λ t. rw (t, lt-ltb (l q) (suc j) (omega (arith, leb-true (l q) j t))))
        (λ t. rw (t, le-ltb (l q) (suc j) (omega (arith, leb-false (l q) j t))))

    pub same_none : x ≡ prev → valued P l j ≡ false
    same_none e = bif (valued P l j)
        (λ t. let p = V-get j t in
        let yes : bit x p.0 ≡ true = bx p.0 p.1 ∙ and_i p.2 (le-leb (l p.0) j (omega (arith, p.3))) in
        let no : bit prev p.0 ≡ false = s.bits p.0 p.1 ∙ rw (p.2, le-ltb (l p.0) j (omega (arith, p.3))) in
        clash yes (ap (λ (y : ℕ). bit y p.0) e ∙ no))
        (λ t. t)

    pub other-new : (x ≡ prev → ⊥) → valued P l j ≡ true
    other-new ne = bif (valued P l j)
        (λ t. t)
        (λ t. absurd (ne (bit-ext 8 x prev hx s.small (λ q h. bx q h ∙ leb-suc q ∙ below_none j t q h ∙ sym (s.bits q h)))))

    count_none : valued P l j ≡ false → count (suc j) (valued P l) ≡ count j (valued P l)
    unfolding count
    count_none e = rw e (omega arith)

    count-new : valued P l j ≡ true → count (suc j) (valued P l) ≡ suc (count j (valued P l))
    unfolding count
    count-new e = rw e (omega arith)

    levels-raised : levels + ones ≡ num 16 16 (level_raised s.m j)
    levels-raised = omega (arith, s.levelled, s.from, raised s.m j)

    pub levels-room : j ≤ 8 → levels + ones < 2 ^ 64
    levels-room h = rw levels-raised (num-lt 16 (omega arith) 16 _ (λ k b. raised-digit s.m j k h))

    pub stay : x ≡ prev → (((q : ℕ) → q < 8 → bit prev q ≡ P q) → ⊥) → State prev ones ranks (levels + ones) (j + 1)
    unfolding levels_so_far ranks_so_far
    stay e more = let v = same_none e in
        rw (add-one j) record {
          m = s.m;
          bits = λ q h. s.bits q h ∙ sym (below_none j v q h);
          small = s.small;
          found = s.found ∙ sym (count_none v);
          from = s.from;
          ranked = s.ranked ∙ ap₂ (λ (a b : ℕ). a + b * s.m) (ranks-none j v) (num-ext 16 (omega arith) 8 _ _ (λ q h. ap one (sym (late-none j v q h))));
          levelled = levels-raised ∙ num-ext 16 (omega arith) 16 _ _ (λ k h. level-stay s.m j k v);
          latest = λ h. absurd (more h);
        }

    -- d are the members that have not come in before x
    module _ (d : ℕ) (bd : (q : ℕ) → q < 8 → bit d q ≡ late j q) (ne : x ≡ prev → ⊥) where
      counted : suc s.m ≡ count (suc j) (valued P l)
      counted = ap suc s.found ∙ sym (count-new (other-new ne))

      ranks-up : ranks + num 16 8 (λ q. one (bit d q)) ≡ ranks_so_far (suc s.m) (suc j)
      ranks-up =
          (let e : ranks + num 16 8 (λ q. one (bit d q)) ≡ num 16 8 (rank_so_far s.m j) + num 16 8 (λ q. one (late j q)) * 1
          = omega (arith, s.ranked, ranks-digits s.m j, num-ext 16 (omega arith) 8 (λ q. one (bit d q)) (λ q. one (late j q)) (λ q h. ap one (bd q h))) in e)
          ∙ num-add 16 8 (rank_so_far s.m j) (λ q. one (late j q)) 1
          ∙ num-ext 16 (omega arith) 8 _ _ (λ q h. rank_up s.m j q counted)
          ∙ sym (ranks-digits (suc s.m) (suc j))

      few : j ≤ 8 → suc s.m < 16
      few h = omega (arith, s.found, count-max j (valued P l))

      pub ranks-room : j ≤ 8 → ranks + num 16 8 (λ q. one (bit d q)) < 2 ^ 32
      ranks-room h = rw ranks-up (ranks-fit (suc s.m) (suc j) (few h))

      pub go : j ≤ 8 → State x (ones * 2 ^ 4 % 2 ^ 64) (ranks + num 16 8 (λ q. one (bit d q))) (levels + ones) (j + 1)
      unfolding levels_so_far
      go h = let v = other-new ne in
          rw (add-one j) record {
            m = suc s.m;
            bits = λ q k. bx q k ∙ leb-suc q;
            small = hx;
            found = counted;
            from = ap (λ (y : ℕ). y * 2 ^ 4 % 2 ^ 64) s.from ∙ ones-next (suc s.m) (few h);
            ranked = ranks-up;
            levelled = levels-raised ∙ num-ext 16 (omega arith) 16 _ _ (λ k b. level-go s.m j k counted v);
            latest = λ y. (j, refl, v);
          }

  -- ---- after the last turn

  module _ {prev ones ranks levels j : ℕ} (s : State prev ones ranks levels j) (e : (q : ℕ) → q < 8 → bit prev q ≡ P q) where
    all_in : (q : ℕ) → q < 8 → P q && ltb (l q) j ≡ P q
    all_in q h = sym (s.bits q h) ∙ e q h

    none-late : (q : ℕ) → q < 8 → late j q ≡ false
    none-late q h = bif (P q) (λ t. rw t (ap not (sym (ap (λ (b : Bool). b && ltb (l q) j) t) ∙ all_in q h ∙ t))) (λ t. rw t)

    done-rank : (q : ℕ) → q < 8 → rank_so_far s.m j q ≡ cond (P q) (class P l q) 0
    done-rank q h = rw (none-late q h, all_in q h) (omega arith)

    pub done-ranks : ranks ≡ rank_digits P l
    unfolding rank_digits
    done-ranks = s.ranked ∙ ranks-digits s.m j ∙ num-ext 16 (omega arith) 8 _ _ (λ q h. done-rank q h)

    top-done : (k : ℕ) → largest_upto j k ≡ largest 8 (λ q. P q && leb (class P l q) k) l
    unfolding largest_upto
    top-done k = largest-ext 8 _ _ l (λ q g. ap (λ (t : Bool). t && leb (class P l q) k) (all_in q g))

    -- above the last class: its value
    top-last : (k : ℕ) → s.m < k → j ≡ suc (largest_upto j k)
    top-last k h = let y = s.latest e in
        omega (arith, y.1, top-all j k (omega (arith, s.found)), ap (λ (z : ℕ). largest 8 (below z) l) y.1, all_new y.0 y.2)

    done-level : (k : ℕ) → level_so_far s.m j k ≡ largest 8 (λ q. P q && leb (class P l q) k) l + one (leb 1 k) * 1
    done-level k = by_cases (dec_lt s.m k)
        (λ h. rw (lt-ltb s.m k h, le-leb 1 k (omega arith)) (omega (arith, top-last k h, top-done k)))
        (λ h. rw (le-ltb s.m k (omega arith)) (omega (arith, top-done k)))

    pub done-levels : levels ≡ level_digits P l + 1229782938247303440
    unfolding level_digits levels_so_far ones-from
    done-levels = s.levelled
        ∙ num-ext 16 (omega arith) 16 _ _ (λ k h. done-level k)
        ∙ sym (num-add 16 16 (λ k. largest 8 (λ q. P q && leb (class P l q) k) l) (λ k. one (leb 1 k)) 1)
        ∙ (let y = ones-first in omega arith)

  -- ---- no members at all

  module _ (none : (q : ℕ) → q < 8 → P q ≡ false) where
    pub none-ranks : 0 ≡ rank_digits P l
    unfolding rank_digits num
    none-ranks = sym (num-ext 16 (omega arith) 8 _ (λ q. 0) (λ q h. ap (λ (b : Bool). cond b (class P l q) 0) (none q h)))

    none-level : (k : ℕ) → largest 8 (λ q. P q && leb (class P l q) k) l ≡ 0
    unfolding largest
    none-level k = largest-ext 8 _ (λ q. false) l (λ q g. ap (λ (b : Bool). b && leb (class P l q) k) (none q g))

    pub none-levels : 0 ≡ level_digits P l
    unfolding level_digits num
    none-levels = sym (num-ext 16 (omega arith) 16 _ (λ k. 0) (λ k h. none-level k))
