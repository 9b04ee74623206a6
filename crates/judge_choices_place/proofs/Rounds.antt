-- Laws of the rounds that count the distance.
use mathlib.Core.Path.{◌≡◌, refl, sym, ◌∙◌, ap}
use mathlib.Core.Logic.{◌⊎◌, inl, inr, by_cases}
use mathlib.Core.Bool.{Bool, true, false, ◌&&◌, ◌||◌, not, cond, or-false, and_comm, and_assoc, not-and_self}
use mathlib.Core.List.{List}
use Prim.Native.Nat.{ℕ, zero, suc, ◌+◌, ◌-◌, ◌*◌, ◌^◌, ◌≤◌, ◌<◌}
use native.Mathlib.Omega.{arith}
use native.Mathlib.Decide.{ℕ_discrete, dec_lt}
use native.Mathlib.Nat.{add-zero, add-suc, mul-le-mul_right}
use lib.Arith.{digits_lt}
use lib.Bits.{bit_or, or_lt}
use lib.Dec.{eqb}
use lib.ListN.{length, get_or, set}
use lib.Pow.{pow_pos}
use lib.Seq.{get_or-set_same, get_or-set_other}
use borrow.Author.Tests.{eq-eqb, ne_eqb, eqb-true}
use Rattle.sets.specs.Tests.{Set}
use Rattle.sets.specs.Masks.{bit}
use Rattle.sets.proofs.Bools.{bif, clash, not_f, or-fl, or-fr, iff, and-fl}
use Rattle.sets.proofs.Bits.{bit-or, bit-none, bit-ext}
use Rattle.sets.proofs.Masks.{bit_mask, mask_lt}
use Rattle.theory.specs.Rule.{Rule, entry, satisfies}
use Rattle.theory.specs.Passing.{Passing}
use Rattle.theory.specs.Word.{places, next_place_lem, letter_at_lem, WordOver}
use Rattle.theory.specs.Truth.{truth_masks}
use Rattle.theory_laws.proofs.Places.{next-place-low}
use Rattle.judge_choices_spec.specs.ChoicesComputed.{aim_of, nearer, near_at, choice_at}
use Rattle.judge_choices_spec.specs.Rounds.{round_number, fresh, Tried, Place, Round, Rounds, Ended}
use Rattle.judge_choices_place.proofs.Meaning.{near-grows, choice-now, near-all}

-- of Booleans
grow-once : (a b : Bool) → (a ≡ true → b ≡ true) → (a || (not a && b)) ≡ b
grow-once true b h = sym (h refl)
grow-once false b h = refl

module _ (r : Rule) (lead cycle masks : List ℕ) where
  abbrev L : ℕ
  L = places lead cycle

  abbrev next : ℕ → ℕ
  next = next_place_lem lead cycle

  -- the bit of q among the states that are near a round later
  pub nearer-bit : (near p q : ℕ) → q < r.n → bit (nearer r lead cycle masks near p) q
      ≡ (bit (get_or masks p 0) q && (not (bit r.accepting q) && satisfies r.n (bit (aim_of r (get_or masks (next p) 0) near q)) (entry r q (letter_at_lem lead cycle p))))
  unfolding nearer
  nearer-bit near p q l = bit_mask r.n _ q l

  -- the rejecting states tried at a place of a round are the new ones
  pub place-of-tried : (near : List ℕ) (p states : ℕ) (old new : List ℕ) (found : ℕ)
      → ((q : ℕ) → q < r.n → bit states q ≡ ((bit (get_or masks p 0) q && not (bit r.accepting q)) && not (bit (get_or near p 0) q)))
      → Tried r (letter_at_lem lead cycle p) (get_or masks (next p) 0) (get_or near (next p) 0) states (p * r.n) old new found → Place r lead cycle masks near p old new found
  unfolding fresh
  place-of-tried near p states old new found h t =
      let those : (q : ℕ) → q < r.n → bit found q ≡ fresh r lead cycle masks near p q
      = λ q l. t.those q ∙ rw (h q l, nearer-bit (get_or near (next p) 0) p q l) (turned (bit (get_or masks p 0) q) (bit r.accepting q) (bit (get_or near p 0) q) _) in
      record {
        long = t.long;
        low = t.low;
        those = those;
        here = λ q l. t.here q l ∙ ap (λ (b : Bool). cond b (round_number r lead cycle masks near p q) (get_or old (p * r.n + q) 0)) (those q l);
        others = t.others;
      }
    where
      turned : (a b c d : Bool) → (((a && not b) && not c) && d) ≡ (not c && (a && (not b && d)))
      turned a b c d = rw (and_comm (a && not b) (not c), and_assoc (not c) (a && not b) d, and_assoc a (not b) d)

  -- the index of a pair tells the place
  pub apart : (p x q : ℕ) → q < r.n → (x ≡ p → ⊥) → (x * r.n + q < p * r.n) ⊎ (p * r.n + r.n ≤ x * r.n + q)
  apart p x q l n =
      by_cases (dec_lt x p) (λ k. inl (digits_lt k l))
      (λ k. let h : suc p ≤ x = omega arith in let j : suc p * r.n ≤ x * r.n = mul-le-mul_right r.n h in inr (omega arith))

  -- ---- one place more of a round
  module _ (near : List ℕ) (done done' : Set) (old mid new after : List ℕ) (changed changed' p found : ℕ) (l : p < L) (long : length after ≡ 64) (few : L ≤ 64)
      (last : done p ≡ false) (more : (x : ℕ) → x < L → done' x ≡ (done x || eqb x p))
      (low : get_or near p 0 < 2 ^ r.n)
      (marked : (x : ℕ) → bit changed' x ≡ (bit changed x || (eqb x p && not (eqb found 0)))) (fits : changed' < 2 ^ L)
      (R : Round r lead cycle masks near done old mid after changed) (P : Place r lead cycle masks near p mid new found) where
    abbrev v : ℕ
    v = bit_or (get_or near p 0) found

    here-done : done' p ≡ true
    here-done = more p l ∙ rw (last, eq-eqb p p refl)

    other-done : (x : ℕ) → x < L → (x ≡ p → ⊥) → done' x ≡ done x
    other-done x k n = more x k ∙ rw (ne_eqb x p n) (or-false (done x))

    pub round-step : Round r lead cycle masks near done' old new (set after p v) changed'
    round-step = record {
      long = P.long ∙ R.long;
      few = fits;
      low = λ x k. by_cases (ℕ_discrete x p)
          (λ e. rw (e, get_or-set_same after p v 0 (omega arith)) (or_lt r.n (get_or near p 0) found low P.low))
          (λ n. rw (get_or-set_other after p x v 0 n) (R.low x k));
      grown = λ x q k j. by_cases (ℕ_discrete x p)
          (λ e. rw (e, get_or-set_same after p v 0 (omega arith), here-done, bit-or (get_or near p 0) found q) (ap (λ (b : Bool). bit (get_or near p 0) q || b) (P.those q j)))
          (λ n. rw (get_or-set_other after p x v 0 n, other-done x k n) (R.grown x q k j));
      at = λ x q k j. by_cases (ℕ_discrete x p)
          (λ e. rw (e, here-done) (P.here q j ∙ ap (cond (fresh r lead cycle masks near p q) (round_number r lead cycle masks near p q)) (before q j)))
          (λ n. rw (other-done x k n) (P.others (x * r.n + q) (apart p x q j n) ∙ R.at x q k j));
      rest = λ i k. P.others i (inr (past i k)) ∙ R.rest i k;
      still = λ x q k j c. by_cases (ℕ_discrete x p)
          (λ e. rw (e, here-done) (sym (P.those q j) ∙ quiet q (rw e at c)))
          (λ n. rw (other-done x k n) (R.still x q k j (or-fl (bit changed x) _ (sym (marked x) ∙ c))));
    }
      where
        before : (q : ℕ) → q < r.n → get_or mid (p * r.n + q) 0 ≡ get_or old (p * r.n + q) 0
        before q j = R.at p q l j ∙ ap (λ (b : Bool). cond (b && fresh r lead cycle masks near p q) (round_number r lead cycle masks near p q) (get_or old (p * r.n + q) 0)) last

        past : (i : ℕ) → L * r.n ≤ i → p * r.n + r.n ≤ i
        past i k = let h : suc p * r.n ≤ L * r.n = mul-le-mul_right r.n l in omega arith

        quiet : (q : ℕ) → bit changed' p ≡ false → bit found q ≡ false
        quiet q c =
            let z : not (eqb found 0) ≡ false = sym (ap (λ (b : Bool). b && not (eqb found 0)) (eq-eqb p p refl)) ∙ or-fr (bit changed p) _ (sym (marked p) ∙ c) in
            ap (λ (m : ℕ). bit m q) (eqb-true found 0 (not_f (eqb found 0) z)) ∙ bit-none q

  -- a round begins
  pub round-start : (near : List ℕ) (done : Set) (old : List ℕ) → ((p : ℕ) → p < L → done p ≡ false) → ((p : ℕ) → p < L → get_or near p 0 < 2 ^ r.n) → Round r lead cycle masks near done old old near 0
  round-start near done old h low = record {
    long = refl;
    few = pow_pos L;
    low = low;
    grown = λ p q l k. rw (h p l) (sym (or-false (bit (get_or near p 0) q)));
    at = λ p q l k. rw (h p l);
    rest = λ i k. refl;
    still = λ p q l k c. rw (h p l);
  }

  -- a round is one for any test of the places done that agrees with `done` on the places of the word
  pub round-ext : (near : List ℕ) (done done' : Set) (old new after : List ℕ) (changed : ℕ) → ((p : ℕ) → p < L → done' p ≡ done p)
      → Round r lead cycle masks near done old new after changed → Round r lead cycle masks near done' old new after changed
  round-ext near done done' old new after changed h R = record {
    long = R.long;
    few = R.few;
    low = R.low;
    grown = λ p q l k. rw (h p l) (R.grown p q l k);
    at = λ p q l k. rw (h p l) (R.at p q l k);
    rest = R.rest;
    still = λ p q l k c. rw (h p l) (R.still p q l k c);
  }

-- ---- rounds on the truth masks
module _ (r : Rule) (P : Passing r) (lead cycle : List ℕ) (W : WordOver r.s lead cycle) where
  abbrev T : List ℕ
  T = truth_masks r lead cycle

  abbrev near_of : ℕ → ℕ → ℕ
  near_of = near_at r lead cycle T

  pub near-low : (d p : ℕ) → near_of d p < 2 ^ r.n
  unfolding near_at nearer
  near-low zero p = pow_pos r.n
  near-low (suc d) p = mask_lt r.n _

  pub rounds-start : (near old : List ℕ) (work : ℕ) → ((p : ℕ) → p < L r lead cycle T → get_or near p 0 ≡ 0) → work < 2 ^ L r lead cycle T
      → ((p : ℕ) → p < L r lead cycle T → bit work p ≡ true) → Rounds r lead cycle T 0 near work old old
  unfolding near_at
  rounds-start near old work h few all = record {
    long = refl;
    few = few;
    within = h;
    at = λ p q l k. rw (bit-none q);
    rest = λ i k. refl;
    quiet = λ p l e. clash (all p l) e;
  }

  module _ (d : ℕ) (near after old mid new : List ℕ) (work work' changed : ℕ) (R : Rounds r lead cycle T d near work old mid)
      (S : Round r lead cycle T near (bit work) mid new after changed) (few : work' < 2 ^ L r lead cycle T)
      (news : (p : ℕ) → p < L r lead cycle T → bit work' p ≡ false → bit changed (next_place_lem lead cycle p) ≡ false) where
    abbrev low : (p : ℕ) → p < L r lead cycle T → next_place_lem lead cycle p < L r lead cycle T
    low = next-place-low lead cycle W.repeats

    -- what is new at a place
    fresh-is : (p q : ℕ) → p < L r lead cycle T → q < r.n → fresh r lead cycle T near p q ≡ (not (bit (near_of d p) q) && bit (near_of (suc d) p) q)
    unfolding fresh near_at
    fresh-is p q l k = rw (R.within p l, R.within (next_place_lem lead cycle p) (low p l))

    -- outside work nothing is
    none-new : (p q : ℕ) → p < L r lead cycle T → bit work p ≡ false → (not (bit (near_of d p) q) && bit (near_of (suc d) p) q) ≡ false
    none-new p q l e = rw (R.quiet p l e) (not-and_self (bit (near_of d p) q))

    done-is : (p q : ℕ) → p < L r lead cycle T → q < r.n → (bit work p && fresh r lead cycle T near p q) ≡ (not (bit (near_of d p) q) && bit (near_of (suc d) p) q)
    done-is p q l k = bif (bit work p) (λ t. rw t (fresh-is p q l k)) (λ t. rw t (sym (none-new p q l t)))

    after_is : (p : ℕ) → p < L r lead cycle T → get_or after p 0 ≡ near_of (suc d) p
    after_is p l =
        bit-ext r.n _ _ (S.low p l) (near-low (suc d) p)
        (λ q k. S.grown p q l k ∙ rw (done-is p q l k, R.within p l) (grow-once (bit (near_of d p) q) (bit (near_of (suc d) p) q) (near-grows r P lead cycle W d p q l k)))

    -- a place whose next place did not change has no new state in the round after
    still-next : (p : ℕ) → p < L r lead cycle T → bit changed p ≡ false → near_of (suc d) p ≡ near_of d p
    still-next p l c =
        bit-ext r.n _ _ (near-low (suc d) p) (near-low d p)
        (λ q k. iff _ _ (λ t. not_f (bit (near_of d p) q) (and-fl (not (bit (near_of d p) q)) (bit (near_of (suc d) p) q) (sym (done-is p q l k) ∙ S.still p q l k c) t))
        (near-grows r P lead cycle W d p q l k))

    at-is : (p q : ℕ) → p < L r lead cycle T → q < r.n → get_or new (p * r.n + q) 0 ≡ cond (bit (near_of (suc d) p) q) (choice_at r lead cycle T p q) (get_or old (p * r.n + q) 0)
    at-is p q l k =
        S.at p q l k ∙ rw (done-is p q l k, R.at p q l k, R.within (next_place_lem lead cycle p) (low p l))
        (bif (bit (near_of d p) q) (λ t. rw (t, near-grows r P lead cycle W d p q l k t))
        (λ t. bif (bit (near_of (suc d) p) q) (λ v. rw (t, v) (sym (choice-now r P lead cycle W d p q l k t v)))
        (λ v. rw (t, v))))

    pub rounds-step : Rounds r lead cycle T (suc d) after work' old new
    unfolding near_at
    rounds-step = record {
      long = S.long ∙ R.long;
      few = few;
      within = after_is;
      at = at-is;
      rest = λ i k. S.rest i k ∙ R.rest i k;
      quiet = λ p l e. ap (λ (m : ℕ). nearer r lead cycle T m p) (still-next (next_place_lem lead cycle p) (low p l) (news p l e));
    }

  -- nothing new in a round: nothing new in any later one
  steady : (d : ℕ) → ((p : ℕ) → p < L r lead cycle T → near_of (suc d) p ≡ near_of d p) → (e p : ℕ) → p < L r lead cycle T → near_of (d + e) p ≡ near_of d p
  unfolding near_at
  steady d h zero p l = ap (λ (x : ℕ). near_of x p) (add-zero d)
  steady d h (suc e) p l =
      ap (λ (x : ℕ). near_of x p) (add-suc d e) ∙ ap (λ (m : ℕ). nearer r lead cycle T m p) (steady d h e (next_place_lem lead cycle p) (next-place-low lead cycle W.repeats p l)) ∙ h p l

  pub rounds-stop : (d : ℕ) (near old new : List ℕ) → Rounds r lead cycle T d near 0 old new → d ≤ L r lead cycle T * r.n
      → (p : ℕ) → p < L r lead cycle T → near_of d p ≡ near_of (L r lead cycle T * r.n) p
  rounds-stop d near old new R h p l =
      let e : d + (L r lead cycle T * r.n - d) ≡ L r lead cycle T * r.n = omega arith in
      sym (steady d (λ x k. R.quiet x k (bit-none x)) (L r lead cycle T * r.n - d) p l) ∙ ap (λ (x : ℕ). near_of x p) e

  -- all rounds
  pub rounds-end : (d : ℕ) (near : List ℕ) (work : ℕ) (old new : List ℕ) → Rounds r lead cycle T d near work old new
      → ((p : ℕ) → p < L r lead cycle T → near_of d p ≡ near_of (L r lead cycle T * r.n) p) → Ended r lead cycle T old new
  rounds-end d near work old new R h = record {
    long = R.long;
    at = λ p q l k. R.at p q l k
        ∙ ap (λ (b : Bool). cond b (choice_at r lead cycle T p q) (get_or old (p * r.n + q) 0)) (ap (λ (m : ℕ). bit m q) (h p l) ∙ near-all r P lead cycle W p q l k);
    rest = R.rest;
  }
