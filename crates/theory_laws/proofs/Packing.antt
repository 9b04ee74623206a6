-- A packed macrostate has the parts that were packed, so a run is a run of codes.
use mathlib.Core.Path.{◌≡◌, sym, ◌∙◌, ap, ap₂, fun_ext}
use mathlib.Core.Logic.{by_cases}
use mathlib.Core.Bool.{Bool, true, false, ◌&&◌, cond}
use Prim.Native.Nat.{ℕ, zero, suc, ◌+◌, ◌*◌, ◌/◌, ◌%◌, ◌^◌, ◌≤◌, ◌<◌}
use native.Mathlib.Omega.{arith}
use native.Mathlib.Decide.{dec_lt, ℕ_discrete}
use lib.Dec.{eqb, leb, ltb}
use lib.Arith.{digits_div}
use lib.Pow.{shr-shr}
use borrow.Author.Tests.{eq-eqb, ne_eqb, lt-ltb, le-ltb}
use Rattle.sets.specs.Digits.{num}
use Rattle.sets.specs.Masks.{bit, mask}
use Rattle.sets.specs.Tests.{Set}
use Rattle.sets.proofs.Bools.{bif, and_i, beq_same}
use Rattle.sets.proofs.Digits.{digit-num, pow16}
use Rattle.sets.proofs.Masks.{bit_mask, mask_lt, above}
use Rattle.sets.proofs.Tests.{every-all, largest-le, first-max}
use Rattle.theory.specs.Automaton.{Automaton}
use Rattle.theory.specs.Layered.{Layered}
use Rattle.theory.specs.Code.{set_in, rank_in, component_in, classes_in, fields, pack, well_coded}
use Rattle.theory.specs.Core.{open_of_lem}
use Rattle.theory.specs.CoreComputed.{level_of}
use Rattle.theory.specs.Macrostate.{is_accepting_lem, Goes}
use Rattle.theory.specs.MacrostateComputed.{before, onward}
use Rattle.theory.specs.CodeRuns.{CodeRun}
use Rattle.theory_laws.proofs.Breakpoint.{comp-below}
use Rattle.theory_laws.proofs.Certified.{Run}
use Rattle.theory_laws.proofs.Goes.{is-goes, goes-iff}

pub fields-small : (r : ℕ → ℕ) (K k : ℕ) → ((q : ℕ) → r q < 16) → K < 16 → k < 16 → (j : ℕ) → fields r K k j < 16
unfolding fields
fields-small r K k a b c j = bif (ltb j 8) (λ t. rw t (a j)) (λ t. rw t (bif (eqb j 8) (λ u. rw u b) (λ u. rw u c)))

module _ (A : Automaton) (small : A.n ≤ 8) (S : Set) (r : ℕ → ℕ) (K k : ℕ)
    (trim-S : (q : ℕ) → A.n ≤ q → S q ≡ false) (trim-r : (q : ℕ) → A.n ≤ q → r q ≡ 0)
    (r_small : (q : ℕ) → r q < 16) (K-small : K < 16) (k-small : k < 16) where
  abbrev c : ℕ
  c = pack S r K k

  high : c / 2 ^ 8 ≡ num 16 10 (fields r K k)
  unfolding pack
  high = digits_div (num 16 10 (fields r K k)) (mask_lt 8 S)

  hex : (j : ℕ) → j < 10 → c / 2 ^ (8 + 4 * j) % 16 ≡ fields r K k j
  hex j l =
      ap (λ (x : ℕ). x % 16) (sym (shr-shr c 8 (4 * j)) ∙ ap (λ (x : ℕ). x / 2 ^ (4 * j)) high ∙ ap (λ (x : ℕ). num 16 10 (fields r K k) / x) (pow16 j))
      ∙ digit-num 16 (omega arith) 10 (fields r K k) (λ j l. fields-small r K k r_small K-small k-small j) j l

  pub set_is : set_in A c ≡ S
  unfolding set_in pack bit
  set_is = fun_ext (λ q. by_cases (dec_lt q A.n)
      (λ l. ap (λ (b : Bool). b && bit c q) (lt-ltb q A.n l) ∙ ap (λ (x : ℕ). eqb x 1) (above (num 16 10 (fields r K k)) (mask 8 S) 8 q (omega arith)) ∙ bit_mask 8 S q (omega arith))
      (λ l. ap (λ (b : Bool). b && bit c q) (le-ltb q A.n (omega arith)) ∙ sym (trim-S q (omega arith))))

  pub rank_is : rank_in A c ≡ r
  unfolding rank_in fields
  rank_is = fun_ext (λ q. by_cases (dec_lt q A.n)
      (λ l. ap (λ (b : Bool). cond b (c / 2 ^ (8 + 4 * q) % 16) 0) (lt-ltb q A.n l) ∙ hex q (omega arith) ∙ ap (λ (b : Bool). cond b (r q) (cond (eqb q 8) K k)) (lt-ltb q 8 (omega arith)))
      (λ l. ap (λ (b : Bool). cond b (c / 2 ^ (8 + 4 * q) % 16) 0) (le-ltb q A.n (omega arith)) ∙ sym (trim-r q (omega arith))))

  pub comp-is : component_in c ≡ K
  unfolding component_in fields
  comp-is = hex 8 (omega arith)

  pub left_is : classes_in c ≡ k
  unfolding classes_in fields
  left_is = hex 9 (omega arith)

  pub well-coded-is : well_coded A c ≡ true
  unfolding well_coded
  well-coded-is = eq-eqb _ c (ap₂ (λ (f : Set) (g : ℕ → ℕ). pack f g (component_in c) (classes_in c)) set_is rank_is ∙ ap₂ (pack S r) comp-is left_is)

module _ (A : Automaton) (H : Layered A) (small : A.n ≤ 8) (few : A.components ≤ 16) (some-comp : 0 < A.components) (w : ℕ → ℕ) (S : ℕ → Set) (r : ℕ → ℕ → ℕ) (K k : ℕ → ℕ)
    (run : Run A 15 w S r K k) where
  r_small : (i q : ℕ) → r i q < 16
  r_small i q = by_cases (dec_lt q A.n) (λ l. let h = run.backed.bound i q l in omega arith) (λ l. let h = run.trim-r i q (omega arith) in omega arith)

  K-small : (i : ℕ) → K i < 16
  K-small i = let h = comp-below A H 15 w S r K k run i some-comp in omega arith

  level-small : (T : Set) (g : ℕ → ℕ) (p a : ℕ) → level_of A 15 T g p (A.entry p a) ≤ 15
  unfolding level_of
  level-small T g p a = let h = first-max 15 _ 0 in h

  k-small : (i : ℕ) → k i < 16
  k-small zero = let h = run.start-k in omega arith
  k-small (suc i) =
      by_cases (ℕ_discrete (k i) 0)
      (λ z. let h = run.turn-k i z in
      let g = largest-le A.n (open_of_lem A (S (suc i)) (K (suc i))) (r (suc i)) 15 (λ q l t. run.backed.bound (suc i) q l) in omega arith)
      (λ z. let h = run.stay-k i z in
      let g = largest-le A.n (λ q. open_of_lem A (S i) (K i) q && leb (r i q) (k i)) (λ p. level_of A 15 (S (suc i)) (r (suc i)) p (A.entry p (w i))) 15
      (λ q l t. level-small (S (suc i)) (r (suc i)) q (w i)) in omega arith)

  pub code : ℕ → ℕ
  code i = pack (S i) (r i) (K i) (k i)

  -- its sets are the run's
  pub code-set : (i : ℕ) → set_in A (code i) ≡ S i
  unfolding code
  code-set i = set_is A small (S i) (r i) (K i) (k i) (run.trim-S i) (run.trim-r i) (r_small i) (K-small i) (k-small i)

  e_r : (i : ℕ) → rank_in A (code i) ≡ r i
  unfolding code
  e_r i = rank_is A small (S i) (r i) (K i) (k i) (run.trim-S i) (run.trim-r i) (r_small i) (K-small i) (k-small i)

  e_k : (i : ℕ) → component_in (code i) ≡ K i
  unfolding code
  e_k i = comp-is A small (S i) (r i) (K i) (k i) (run.trim-S i) (run.trim-r i) (r_small i) (K-small i) (k-small i)

  ek : (i : ℕ) → classes_in (code i) ≡ k i
  unfolding code
  ek i = left_is A small (S i) (r i) (K i) (k i) (run.trim-S i) (run.trim-r i) (r_small i) (K-small i) (k-small i)

  clean : (i : ℕ) → well_coded A (code i) ≡ true
  unfolding code
  clean i = well-coded-is A small (S i) (r i) (K i) (k i) (run.trim-S i) (run.trim-r i) (r_small i) (K-small i) (k-small i)

  before-is : (i : ℕ) → before A (code i) (w i) (code (suc i)) ≡ true
  unfolding before
  before-is i = rw (before, code-set i, code-set (suc i), e_r i, e_r (suc i))
      (and_i (every-all A.n _ (λ q l. beq_same _ _ (run.backed.exact i q l))) (every-all A.n _ (λ q l. eq-eqb _ _ (run.backed.ranked i q l))))

  onward-is : (i : ℕ) → onward A (code i) (w i) (code (suc i)) ≡ true
  unfolding onward
  onward-is i = rw (onward, code-set i, code-set (suc i), e_r i, e_r (suc i), e_k i, e_k (suc i), ek i, ek (suc i))
      (by_cases (ℕ_discrete (k i) 0)
      (λ z. rw (eq-eqb (k i) 0 z) (and_i (eq-eqb _ _ (run.turn-K i z)) (eq-eqb _ _ (run.turn-k i z))))
      (λ z. rw (ne_eqb (k i) 0 z) (and_i (eq-eqb _ _ (run.stay-K i z)) (eq-eqb _ _ (run.stay-k i z)))))

  moves : (i : ℕ) → Goes A (code i) (w i) (code (suc i))
  moves i = (goes-iff A H (code i) (w i) (code (suc i))).0 (is-goes A (code i) (w i) (code (suc i)) (before-is i) (onward-is i))

  pub code-run : CodeRun A w code
  unfolding is_accepting_lem
  code-run = record {
    macrostate = λ i. record { coded = clean i; core = (moves i).earlier.core; component = rw (e_k i) (comp-below A H 15 w S r K k run i some-comp) };
    component = e_k 0 ∙ run.start-K;
    classes = ek 0 ∙ run.start-k;
    steps = moves;
    again = λ i. let a = run.accepts i in (a.0, a.1, eq-eqb _ _ (ek a.0 ∙ a.2));
  }
