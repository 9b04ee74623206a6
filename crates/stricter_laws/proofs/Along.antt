-- Along a sequence of cores a run goes on from every macrostate of the first, whatever its K and k.
use mathlib.Core.Path.{◌≡◌, refl, sym, ◌∙◌, ap, subst₂, fun_ext}
use mathlib.Core.Logic.{◌↔◌, by_cases}
use mathlib.Core.Bool.{Bool, true, ◌&&◌, cond}
use Prim.Native.Nat.{ℕ, zero, suc, ◌≤◌, ◌<◌}
use native.Mathlib.Omega.{arith}
use native.Mathlib.Decide.{dec_lt, ℕ_discrete}
use lib.Dec.{eqb, leb}
use borrow.Author.Tests.{eq-eqb, ne_eqb}
use Rattle.sets.specs.Tests.{Set, largest}
use Rattle.sets.proofs.Tests.{largest-le}
use Rattle.theory.specs.Automaton.{Automaton}
use Rattle.theory.specs.Layered.{Layered}
use Rattle.theory.specs.Code.{set_in, rank_in, component_in, classes_in, pack}
use Rattle.theory.specs.Core.{Core, Earlier, open_of_lem, next_component_lem}
use Rattle.theory.specs.Macrostate.{is_accepting_lem, Macrostate, Goes}
use Rattle.theory_laws.proofs.Cores.{next_low}
use Rattle.theory_laws.proofs.Goes.{set-trim, rank-trim, rank-small}
use Rattle.theory_laws.proofs.Packing as packing
use Rattle.spare_spec.specs.Spare.{SparesIn, EarlierIn, Steps, CoreSteps, SparesAgain, SameCore}
use Rattle.stricter_laws.proofs.Again.{accepts-iff}
use Rattle.stricter_laws.proofs.Steps.{classes_at, left-low}

-- ---- codes of the same core

module _ {A : Automaton} where
  pub same_set : {c d : ℕ} → SameCore A c d → set_in A c ≡ set_in A d
  same_set {c = c} {d = d} s = fun_ext (λ q. by_cases (dec_lt q A.n)
      (λ l. s.sets q l)
      (λ l. set-trim A c q (omega arith) ∙ sym (set-trim A d q (omega arith))))

  pub same-ranks : {c d : ℕ} → SameCore A c d → rank_in A c ≡ rank_in A d
  same-ranks {c = c} {d = d} s = fun_ext (λ q. by_cases (dec_lt q A.n)
      (λ l. s.ranks q l)
      (λ l. rank-trim A c q (omega arith) ∙ sym (rank-trim A d q (omega arith))))

  pub same_self : (c : ℕ) → SameCore A c c
  same_self c = record { sets = λ q l. refl; ranks = λ q l. refl }

  pub same-sym : {c d : ℕ} → SameCore A c d → SameCore A d c
  same-sym s = record { sets = λ q l. sym (s.sets q l); ranks = λ q l. sym (s.ranks q l) }

  pub earlier-same : (a : ℕ) {c d c' d' : ℕ} (l : ℕ → ℕ) → SameCore A c c' → SameCore A d d' → EarlierIn A a c d l → EarlierIn A a c' d' l
  earlier-same a {c = c} {d' = d'} l s t E =
      subst₂ (λ (S : Set) (r : ℕ → ℕ). Earlier A a S r (set_in A d') (rank_in A d') l) (same_set s) (same-ranks s)
      (subst₂ (λ (T : Set) (r : ℕ → ℕ). Earlier A a (set_in A c) (rank_in A c) T r l) (same_set t) (same-ranks t) E)

  pub spares-same : (a : ℕ) {c d c' d' : ℕ} (K : ℕ) → SameCore A c c' → SameCore A d d' → SparesIn A a c d K → SparesIn A a c' d' K
  spares-same a K s t h = rw (← same_set s, ← same_set t, ← same-ranks t) h

  pub again-same : (w c d : ℕ → ℕ) → ((i : ℕ) → SameCore A (c i) (d i)) → SparesAgain A w c → SparesAgain A w d
  again-same w c d s h K b i =
      let (j, l, t) = h K b i in
      (j, l, spares-same (w j) K (s j) (s (suc j)) t)

  -- two runs over the same cores accept together
  pub accepts-same : Layered A → (w c d : ℕ → ℕ) → Steps A w c → Steps A w d → ((i : ℕ) → SameCore A (c i) (d i))
      → ((i : ℕ) → (j : ℕ) × (i < j) × (is_accepting_lem (c j) ≡ true)) ↔ ((i : ℕ) → (j : ℕ) × (i < j) × (is_accepting_lem (d j) ≡ true))
  accepts-same H w c d R T s =
      let x = accepts-iff H R in
      let y = accepts-iff H T in (λ h. y.1 (again-same w c d s (x.0 h)), λ h. x.1 (again-same w d c (λ i. same-sym (s i)) (y.0 h)))

-- ---- one step

-- K and k after a step from the code e, with the levels l, to the core of d
unfoldable pub component_after : Automaton → ℕ → ℕ
component_after A e = cond (eqb (classes_in e) 0) (next_component_lem A (component_in e)) (component_in e)

unfoldable pub classes_after : Automaton → ℕ → (ℕ → ℕ) → ℕ → ℕ
classes_after A d l e =
    cond (eqb (classes_in e) 0) (classes_at A d (component_after A e))
    (largest A.n (λ q. open_of_lem A (set_in A e) (component_in e) q && leb (rank_in A e q) (classes_in e)) l)

unfoldable pub code_after : Automaton → ℕ → (ℕ → ℕ) → ℕ → ℕ
code_after A d l e = pack (set_in A d) (rank_in A d) (component_after A e) (classes_after A d l e)

module _ {A : Automaton} (H : Layered A) (small : A.n ≤ 8) (few : A.components ≤ 16) where
  module _ (a e d : ℕ) (l : ℕ → ℕ) (E : EarlierIn A a e d l) (known : component_in e < A.components) where
    abbrev C : ℕ
    C = component_after A e

    abbrev k : ℕ
    k = classes_after A d l e

    turned : classes_in e ≡ 0 → C ≡ next_component_lem A (component_in e)
    unfolding component_after
    turned z = ap (λ (b : Bool). cond b (next_component_lem A (component_in e)) (component_in e)) (eq-eqb (classes_in e) 0 z)

    stayed : (classes_in e ≡ 0 → ⊥) → C ≡ component_in e
    unfolding component_after
    stayed z = ap (λ (b : Bool). cond b (next_component_lem A (component_in e)) (component_in e)) (ne_eqb (classes_in e) 0 z)

    abbrev kept : ℕ
    kept = largest A.n (λ q. open_of_lem A (set_in A e) (component_in e) q && leb (rank_in A e q) (classes_in e)) l

    all_left : classes_in e ≡ 0 → k ≡ classes_at A d C
    unfolding classes_after
    all_left z = ap (λ (b : Bool). cond b (classes_at A d C) kept) (eq-eqb (classes_in e) 0 z)

    some_left : (classes_in e ≡ 0 → ⊥) → k ≡ kept
    unfolding classes_after
    some_left z = ap (λ (b : Bool). cond b (classes_at A d C) kept) (ne_eqb (classes_in e) 0 z)

    known-after : C < A.components
    known-after = by_cases (ℕ_discrete (classes_in e) 0) (λ z. rw (turned z) (next_low A (component_in e) known)) (λ z. rw (stayed z) known)

    classes-small : (K : ℕ) → classes_at A d K ≤ 15
    classes-small K = largest-le A.n (open_of_lem A (set_in A d) K) (rank_in A d) 15 (λ q m o. rank-small A d q)

    C-small : C < 16
    C-small = let h = known-after in omega arith

    k-small : k < 16
    k-small =
        by_cases (ℕ_discrete (classes_in e) 0)
        (λ z. let x = all_left z in let h = classes-small C in omega arith)
        (λ z.
        let x = some_left z in
        let y = left-low H a e d l E (component_in e) (classes_in e) in
        let h = classes-small (component_in e) in omega arith)

    r_small : (q : ℕ) → rank_in A d q < 16
    r_small q = let h = rank-small A d q in omega arith

    abbrev next : ℕ
    next = code_after A d l e

    set_is : set_in A next ≡ set_in A d
    unfolding code_after
    set_is = packing.set_is A small (set_in A d) (rank_in A d) C k (set-trim A d) (rank-trim A d) r_small C-small k-small

    rank_is : rank_in A next ≡ rank_in A d
    unfolding code_after
    rank_is = packing.rank_is A small (set_in A d) (rank_in A d) C k (set-trim A d) (rank-trim A d) r_small C-small k-small

    component-is : component_in next ≡ C
    unfolding code_after
    component-is = packing.comp-is A small (set_in A d) (rank_in A d) C k (set-trim A d) (rank-trim A d) r_small C-small k-small

    classes-is : classes_in next ≡ k
    unfolding code_after
    classes-is = packing.left_is A small (set_in A d) (rank_in A d) C k (set-trim A d) (rank-trim A d) r_small C-small k-small

    pub after-core : SameCore A d next
    after-core = record { sets = λ q m. ap (λ (S : Set). S q) (sym set_is); ranks = λ q m. ap (λ (r : ℕ → ℕ). r q) (sym rank_is) }

    pub after-macrostate : Core A (set_in A d) (rank_in A d) → Macrostate A next
    unfolding code_after
    after-macrostate c = record {
      coded = packing.well-coded-is A small (set_in A d) (rank_in A d) C k (set-trim A d) (rank-trim A d) r_small C-small k-small;
      core = subst₂ (λ (S : Set) (r : ℕ → ℕ). Core A S r) (sym set_is) (sym rank_is) c;
      component = rw component-is known-after;
    }

    pub after-goes : Goes A e a next
    after-goes = record {
      level = l;
      earlier = subst₂ (λ (T : Set) (t : ℕ → ℕ). Earlier A a (set_in A e) (rank_in A e) T t l) (sym set_is) (sym rank_is) E;
      next = λ z. component-is ∙ turned z;
      all = λ z. rw (set_is, rank_is, component-is) (classes-is ∙ all_left z);
      stays = λ z. component-is ∙ stayed z;
      left = λ z. classes-is ∙ some_left z;
    }

  -- ---- all steps

  module _ {w c : ℕ → ℕ} (R : CoreSteps A w c) {start : ℕ} (begins : SameCore A (c 0) start) (M : Macrostate A start) where
    unfoldable pub along : ℕ → ℕ
    along zero = start
    along (suc i) = code_after A (c (suc i)) (R.level i) (along i)

    record At (i : ℕ) : Type 0 where
      macrostate : Macrostate A (along i)
      same : SameCore A (c i) (along i)

    step-at : {i : ℕ} → At i → EarlierIn A (w i) (along i) (c (suc i)) (R.level i)
    step-at {i = i} x = earlier-same (w i) (R.level i) x.same (same_self (c (suc i))) (R.earlier i)

    at : (i : ℕ) → At i
    unfolding along
    at zero = record { macrostate = M; same = begins }
    at (suc i) =
        let x = at i in
        let k = x.macrostate.component in record {
          macrostate = after-macrostate (w i) (along i) (c (suc i)) (R.level i) (step-at x) k (R.earlier (suc i)).core;
          same = after-core (w i) (along i) (c (suc i)) (R.level i) (step-at x) k;
        }

    pub along-cores : (i : ℕ) → SameCore A (c i) (along i)
    along-cores i = (at i).same

    pub along-steps : Steps A w along
    unfolding along
    along-steps = record {
      macrostate = λ i. (at i).macrostate;
      steps = λ i. after-goes (w i) (along i) (c (suc i)) (R.level i) (step-at (at i)) (at i).macrostate.component;
    }
