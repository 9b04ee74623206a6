-- The computed step between macrostates is the defined one.
use mathlib.Core.Path.{◌≡◌, sym, ◌∙◌, ap}
use mathlib.Core.Logic.{◌↔◌, by_cases}
use mathlib.Core.Bool.{Bool, true, false, ◌&&◌, cond, beq}
use Prim.Native.Nat.{ℕ, ◌+◌, ◌*◌, ◌/◌, ◌^◌, ◌≤◌, ◌<◌}
use native.Mathlib.Omega.{arith}
use native.Mathlib.Nat.{mod-lt}
use native.Mathlib.Decide.{ℕ_discrete}
use lib.Dec.{eqb, leb, ltb}
use borrow.Author.Tests.{eqb-true, eq-eqb, ne_eqb, le-ltb}
use Rattle.sets.specs.Tests.{Set, every, largest}
use Rattle.sets.proofs.Bools.{bif, and_l, and_r, and_i, beq-true, beq_same}
use Rattle.sets.proofs.Tests.{every-at, every-all, largest-values}
use Rattle.theory.specs.Automaton.{Automaton}
use Rattle.theory.specs.Layered.{Layered}
use Rattle.theory.specs.Code.{set_in, rank_in, component_in, classes_in}
use Rattle.theory.specs.Core.{is_open, Earlier, open_of_lem, next_component_lem}
use Rattle.theory.specs.CoreComputed.{level_of, rank_of}
use Rattle.theory.specs.Macrostate.{Goes}
use Rattle.theory.specs.MacrostateComputed.{before, onward, goes}
use Rattle.theory.specs.Rule.{satisfies}
use Rattle.theory_laws.proofs.Classes.{open-state}
use Rattle.theory_laws.proofs.Cores.{earlier-of, rank-unique}
use Rattle.theory_laws.proofs.Levels.{least-unique, level-least}

-- ---- the parts of a code

pub component-small : (c : ℕ) → component_in c < 16
unfolding component_in
component-small c = mod-lt (c / 2 ^ 40) {m = 16} (omega arith)

pub classes-small : (c : ℕ) → classes_in c < 16
unfolding classes_in
classes-small c = mod-lt (c / 2 ^ 44) {m = 16} (omega arith)

module _ (A : Automaton) where
  pub rank-small : (c q : ℕ) → rank_in A c q ≤ 15
  unfolding rank_in
  rank-small c q = bif (ltb q A.n) (λ t. rw t (let h = mod-lt (c / 2 ^ (8 + 4 * q)) {m = 16} (omega arith) in omega arith)) (λ t. rw t (omega arith))

  pub set-trim : (c q : ℕ) → A.n ≤ q → set_in A c q ≡ false
  unfolding set_in
  set-trim c q l = rw (le-ltb q A.n l)

  pub rank-trim : (c q : ℕ) → A.n ≤ q → rank_in A c q ≡ 0
  unfolding rank_in
  rank-trim c q l = rw (le-ltb q A.n l)

  -- the computed levels of the core before d
  abbrev pub levels : ℕ → ℕ → ℕ → ℕ
  levels a d p = level_of A 15 (set_in A d) (rank_in A d) p (A.entry p a)

  -- the open states of the classes that are left in c
  abbrev pub among-left : ℕ → Set
  among-left c q = open_of_lem A (set_in A c) (component_in c) q && leb (rank_in A c q) (classes_in c)

  module _ (c a d : ℕ) where
    -- the largest rank of d's component, and the largest level of what is left in c
    abbrev pub turned : ℕ
    turned = largest A.n (open_of_lem A (set_in A d) (component_in d)) (rank_in A d)

    abbrev pub stayed : ℕ
    stayed = largest A.n (among-left c) (levels a d)

    abbrev set-test : Set
    set-test q = beq (set_in A c q) (satisfies A.n (set_in A d) (A.entry q a))

    abbrev rank-test : Set
    rank-test q = eqb (rank_in A c q) (rank_of A (set_in A c) (levels a d) q)

    abbrev turn-test : Bool
    turn-test = eqb (component_in d) (next_component_lem A (component_in c)) && eqb (classes_in d) turned

    abbrev stay-test : Bool
    stay-test = eqb (component_in d) (component_in c) && eqb (classes_in d) stayed

    -- ---- what the tests say

    pub before-set : before A c a d ≡ true → (q : ℕ) → q < A.n → set_in A c q ≡ satisfies A.n (set_in A d) (A.entry q a)
    unfolding before
    before-set e q l = beq-true _ _ (every-at A.n set-test (and_l (every A.n set-test) (every A.n rank-test) e) q l)

    pub before-rank : before A c a d ≡ true → (q : ℕ) → q < A.n → rank_in A c q ≡ rank_of A (set_in A c) (levels a d) q
    unfolding before
    before-rank e q l = eqb-true _ _ (every-at A.n rank-test (and_r (every A.n set-test) (every A.n rank-test) e) q l)

    pub is-before : ((q : ℕ) → q < A.n → set_in A c q ≡ satisfies A.n (set_in A d) (A.entry q a)) → ((q : ℕ) → q < A.n → rank_in A c q ≡ rank_of A (set_in A c) (levels a d) q) → before A c a d ≡ true
    unfolding before
    is-before f g = and_i (every-all A.n set-test (λ q l. beq_same _ _ (f q l))) (every-all A.n rank-test (λ q l. eq-eqb _ _ (g q l)))

    turn_at : classes_in c ≡ 0 → onward A c a d ≡ turn-test
    unfolding onward
    turn_at z = ap (λ (b : Bool). cond b turn-test stay-test) (eq-eqb (classes_in c) 0 z)

    stay-at : (classes_in c ≡ 0 → ⊥) → onward A c a d ≡ stay-test
    unfolding onward
    stay-at z = ap (λ (b : Bool). cond b turn-test stay-test) (ne_eqb (classes_in c) 0 z)

    module _ (e : onward A c a d ≡ true) where
      pub turn-component : classes_in c ≡ 0 → component_in d ≡ next_component_lem A (component_in c)
      turn-component z = eqb-true _ _ (and_l (eqb (component_in d) (next_component_lem A (component_in c))) (eqb (classes_in d) turned) (sym (turn_at z) ∙ e))

      pub turn-classes : classes_in c ≡ 0 → classes_in d ≡ turned
      turn-classes z = eqb-true _ _ (and_r (eqb (component_in d) (next_component_lem A (component_in c))) (eqb (classes_in d) turned) (sym (turn_at z) ∙ e))

      pub stay-component : (classes_in c ≡ 0 → ⊥) → component_in d ≡ component_in c
      stay-component z = eqb-true _ _ (and_l (eqb (component_in d) (component_in c)) (eqb (classes_in d) stayed) (sym (stay-at z) ∙ e))

      pub stay-classes : (classes_in c ≡ 0 → ⊥) → classes_in d ≡ stayed
      stay-classes z = eqb-true _ _ (and_r (eqb (component_in d) (component_in c)) (eqb (classes_in d) stayed) (sym (stay-at z) ∙ e))

    pub is_turned : classes_in c ≡ 0 → component_in d ≡ next_component_lem A (component_in c) → classes_in d ≡ turned → onward A c a d ≡ true
    is_turned z x y = turn_at z ∙ and_i (eq-eqb _ _ x) (eq-eqb _ _ y)

    pub is-stayed : (classes_in c ≡ 0 → ⊥) → component_in d ≡ component_in c → classes_in d ≡ stayed → onward A c a d ≡ true
    is-stayed z x y = stay-at z ∙ and_i (eq-eqb _ _ x) (eq-eqb _ _ y)

    pub goes_before : goes A c a d ≡ true → before A c a d ≡ true
    unfolding goes
    goes_before e = and_l (before A c a d) (onward A c a d) e

    pub goes-onward : goes A c a d ≡ true → onward A c a d ≡ true
    unfolding goes
    goes-onward e = and_r (before A c a d) (onward A c a d) e

    pub is-goes : before A c a d ≡ true → onward A c a d ≡ true → goes A c a d ≡ true
    unfolding goes
    is-goes e f = and_i e f

  -- ---- the same as the definition

  module _ (H : Layered A) (c a d : ℕ) where
    pub earlier-in : before A c a d ≡ true → Earlier A a (set_in A c) (rank_in A c) (set_in A d) (rank_in A d) (levels a d)
    earlier-in e = earlier-of A a (set_in A d) (rank_in A d) H 15 (λ p l. rank-small d p) (set_in A c) (rank_in A c) (before-set c a d e) (before-rank c a d e)

    computed-level : (l : ℕ → ℕ) → Earlier A a (set_in A c) (rank_in A c) (set_in A d) (rank_in A d) l → (q : ℕ) → q < A.n → is_open A (set_in A c) q ≡ true → l q ≡ levels a d q
    computed-level l E q m o = least-unique _ (l q) (levels a d q) (E.level q m o) (level-least A H a (set_in A c) (set_in A d) E.exact (rank_in A d) 15 (λ p k. rank-small d p) q m o)

    pub earlier-out : (l : ℕ → ℕ) → Earlier A a (set_in A c) (rank_in A c) (set_in A d) (rank_in A d) l → before A c a d ≡ true
    earlier-out l E = is-before c a d E.exact (rank-unique A (set_in A c) (rank_in A c) E.core (levels a d)
        (λ q p m n x o u. let y = computed-level l E q m o in let z = computed-level l E p n u in let w = E.ordered q p m n x o u in (
          λ h. rw (← y, ← z) (w.0 h),
          λ h. w.1 (rw (← y, ← z) at h),
        )))

    goes_in : goes A c a d ≡ true → Goes A c a d
    goes_in e = record {
      level = levels a d;
      earlier = earlier-in (goes_before c a d e);
      next = turn-component c a d (goes-onward c a d e);
      all = turn-classes c a d (goes-onward c a d e);
      stays = stay-component c a d (goes-onward c a d e);
      left = stay-classes c a d (goes-onward c a d e);
    }

    left_open : (q : ℕ) → among-left c q ≡ true → is_open A (set_in A c) q ≡ true
    left_open q t = open-state A (set_in A c) (component_in c) q (and_l (open_of_lem A (set_in A c) (component_in c) q) (leb (rank_in A c q) (classes_in c)) t)

    goes-out : Goes A c a d → goes A c a d ≡ true
    goes-out G = is-goes c a d (earlier-out G.level G.earlier) (by_cases (ℕ_discrete (classes_in c) 0)
        (λ z. is_turned c a d z (G.next z) (G.all z))
        (λ z. is-stayed c a d z (G.stays z) (G.left z ∙ largest-values A.n (among-left c) G.level (levels a d) (λ q m t. computed-level G.level G.earlier q m (left_open q t)))))

    pub goes-iff : (goes A c a d ≡ true) ↔ Goes A c a d
    goes-iff = (goes_in, goes-out)
