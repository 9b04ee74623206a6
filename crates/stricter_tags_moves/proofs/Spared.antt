-- A step spares a component exactly if it has no class in the later core or the largest level, of all its classes in the earlier one, is below their number.
use mathlib.Core.Path.{◌≡◌, sym, ◌∙◌, ap, ap₂}
use mathlib.Core.Logic.{by_cases}
use mathlib.Core.Bool.{Bool, true, false, ◌&&◌, ◌||◌}
use mathlib.Core.List.{List}
use Prim.Native.Nat.{ℕ, ◌+◌, ◌*◌, ◌/◌, ◌%◌, ◌^◌, ◌≤◌, ◌<◌}
use native.Mathlib.Nat.{add_comm}
use native.Mathlib.Numerals.{add-one}
use native.Mathlib.Omega.{arith}
use native.Mathlib.Decide.{ℕ_discrete}
use lib.Dec.{eqb, leb, ltb}
use lib.ListN.{get_or}
use lib.Pow.{pow_mono, shl_exact}
use borrow.Author.Tests.{eq-eqb, ne_eqb, lt-ltb, le-ltb, le-leb}
use Rattle.sets.specs.Tests.{Set, one}
use Rattle.sets.specs.Masks.{mask}
use Rattle.sets.proofs.Bools.{bif, and_l}
use Rattle.sets.proofs.Masks.{mask_lt, mask-ext, mask-trim}
use Rattle.sets.proofs.Tests.{largest-le, largest-ext, largest-values, largest-hit}
use Rattle.theory.specs.Automaton.{Automaton}
use Rattle.theory.specs.Code.{set_in, rank_in}
use Rattle.theory.specs.Core.{is_open, open_of_lem}
use Rattle.theory.specs.CoreComputed.{level_of}
use Rattle.theory.specs.Layered.{Layered}
use Rattle.theory.specs.Macrostate.{Macrostate, Goes}
use Rattle.theory.specs.Rule.{satisfies}
use Rattle.theory_laws.proofs.Classes.{open-state}
use Rattle.theory_laws.proofs.Cores.{open-ext}
use Rattle.theory_laws.proofs.Goes.{rank-small, set-trim, rank-trim}
use Rattle.theory_laws.proofs.Levels.{least-unique, level-least}
use Rattle.build_cores.specs.Parts.{Parts, set_of, vector_of}
use Rattle.build_cores.specs.Used.{class_count_lem}
use Rattle.build_cores.specs.Vectors.{rank_at}
use Rattle.build_cores.proofs.Cores.{vector-set-all, vector-rank-all, classes-largest}
use Rattle.build_step_back.specs.Earlier.{earlier_set, earlier_level, earlier_rank, level_left}
use Rattle.build_step_back.proofs.Codes.{earlier-rank-low}
use Rattle.spare_spec.specs.SpareComputed.{spares}
use Rattle.stricter_tags_moves.specs.Spared.{spared_by_lem, spared_in_lem}
use Rattle.stricter_laws.proofs.Steps.{classes_at, left_of, spared-level, unspared-some, left-low, full-stays}

pub spared-none : (classes left : ℕ) → classes ≡ 0 → spared_by_lem classes left ≡ true
spared-none classes left e = ap (λ (b : Bool). b || ltb left classes) (eq-eqb classes 0 e)

pub spared-less : (classes left : ℕ) → left < classes → spared_by_lem classes left ≡ true
spared-less classes left l = ap₂ ◌||◌ (ne_eqb classes 0 (λ e. omega arith)) (lt-ltb left classes l)

pub spared-not : (classes left : ℕ) → 0 < classes → classes ≤ left → spared_by_lem classes left ≡ false
spared-not classes left h l = ap₂ ◌||◌ (ne_eqb classes 0 (λ e. omega arith)) (le-ltb left classes l)

-- one more component of the mask
pub mask-put : (k acc x : ℕ) (f : Set) → k < 8 → acc ≡ mask k f → x ≡ one (f k) → acc + x * 2 ^ k % 2 ^ 64 ≡ mask (k + 1) f
unfolding mask
mask-put k acc x f l e h =
    let small : x < 2 ^ 1 = bif (f k) (λ t. let z : one (f k) ≡ 1 = rw t in omega arith) (λ t. let z : one (f k) ≡ 0 = rw t in omega arith) in
    rw (shl_exact {a = x} 1 k 64 small (omega arith), add-one k, e, h) (add_comm (mask k f) (one (f k) * 2 ^ k))

pub mask-small : (k : ℕ) (f : Set) → k ≤ 8 → mask k f < 256
mask-small k f l = let h = mask_lt k f in let p = pow_mono {i = k} {j = 8} l in omega arith

module _ {A : Automaton} (H : Layered A) {parts : List ℕ} (P : Parts A parts) {a c d : ℕ} (N : Macrostate A d) (G : Goes A c a d) where
  -- the vector of d's ranks
  abbrev v : ℕ
  v = vector_of A (rank_in A d)

  same_set : set_of A v ≡ set_in A d
  same_set = vector-set-all A parts P (set_in A d) (rank_in A d) N.core (set-trim A d)

  same_rank : rank_at v ≡ rank_in A d
  same_rank = vector-rank-all A parts P (set_in A d) (rank_in A d) N.core (rank-trim A d)

  classes-are : (K : ℕ) → K < A.components → class_count_lem v (get_or parts K 0) ≡ classes_at A d K
  classes-are K l = classes-largest A parts P (set_in A d) (rank_in A d) N.core v (λ q m. ap (λ (f : ℕ → ℕ). f q) same_rank) K l

  -- ---- the earlier core of the vector is that of c

  earlier-set : (q : ℕ) → q < A.n → earlier_set A a v q ≡ set_in A c q
  unfolding earlier_set
  earlier-set q l = ap₂ (λ (b : Bool) (T : Set). b && satisfies A.n T (A.entry q a)) (lt-ltb q A.n l) same_set ∙ sym (G.earlier.exact q l)

  earlier-level : (q : ℕ) → q < A.n → is_open A (set_in A c) q ≡ true → earlier_level A a v q ≡ G.level q
  unfolding earlier_level
  earlier-level q m o =
      ap₂ (λ (T : Set) (t : ℕ → ℕ). level_of A 15 T t q (A.entry q a)) same_set same_rank
      ∙ least-unique _ _ _ (level-least A H a (set_in A c) (set_in A d) G.earlier.exact (rank_in A d) 15 (λ p k. rank-small A d p) q m o) (G.earlier.level q m o)

  module _ (K : ℕ) where
    abbrev left : ℕ
    left = left_of H a c d G.level G.earlier K 15

    member : (q : ℕ) → q < A.n → open_of_lem A (earlier_set A a v) K q && leb (earlier_rank A a v q) 15 ≡ open_of_lem A (set_in A c) K q && leb (rank_in A c q) 15
    unfolding open_of_lem
    member q m =
        ap₂ (λ (x y : Bool). (eqb (A.component q) K && x) && y)
        (open-ext A (earlier_set A a v) (set_in A c) q (earlier-set q m))
        (le-leb (earlier_rank A a v q) 15 (let h = earlier-rank-low A P.few_states a v q in omega arith) ∙ sym (le-leb (rank_in A c q) 15 (rank-small A c q)))

    left-same : level_left A a v K 15 ≡ left
    unfolding level_left
    left-same =
        largest-ext A.n (λ q. open_of_lem A (earlier_set A a v) K q && leb (earlier_rank A a v q) 15) (λ q. open_of_lem A (set_in A c) K q && leb (rank_in A c q) 15) (earlier_level A a v) member
        ∙ largest-values A.n (λ q. open_of_lem A (set_in A c) K q && leb (rank_in A c q) 15) (earlier_level A a v) G.level
        (λ q m t. earlier-level q m (open-state A (set_in A c) K q (and_l (open_of_lem A (set_in A c) K q) (leb (rank_in A c q) 15) t)))

    classes-low : classes_at A c K ≤ 15
    classes-low = largest-le A.n (open_of_lem A (set_in A c) K) (rank_in A c) 15 (λ q m t. rank-small A c q)

    -- where the largest level is the number of classes, there is no class
    top-none : spares A a c d K ≡ true → left ≡ classes_at A d K → classes_at A d K ≡ 0
    top-none t e =
        by_cases (ℕ_discrete (classes_at A d K) 0)
        (λ z. z)
        (λ z. let g = largest-hit A.n (λ q. open_of_lem A (set_in A c) K q && leb (rank_in A c q) 15) G.level (omega arith) in
        spared-level H a c d G.level G.earlier K t g.0 g.1 (and_l (open_of_lem A (set_in A c) K g.0) (leb (rank_in A c g.0) 15) g.2) (g.3 ∙ e))

    spares-are : spares A a c d K ≡ spared_by_lem (classes_at A d K) left
    spares-are =
        bif (spares A a c d K)
        (λ t. let low = left-low H a c d G.level G.earlier K 15 in
        t ∙ by_cases (ℕ_discrete left (classes_at A d K))
        (λ e. sym (spared-none (classes_at A d K) left (top-none t e)))
        (λ e. sym (spared-less (classes_at A d K) left (omega arith))))
        (λ t. t ∙ sym (spared-not (classes_at A d K) left (unspared-some H a c d G.level G.earlier K t) (full-stays H a c d G.level G.earlier K t 15 classes-low)))

    spares-is : K < A.components → (level : ℕ) → level ≡ level_left A a v K 15 → spared_by_lem (class_count_lem v (get_or parts K 0)) level ≡ spares A a c d K
    spares-is l level e = ap₂ spared_by_lem (classes-are K l) (e ∙ left-same) ∙ sym spares-are

  -- all of them
  pub mask_is : (levels : List ℕ) → ((K : ℕ) → K < A.components → get_or levels K 0 / 2 ^ 60 % 16 ≡ level_left A a v K 15)
      → mask A.components (spared_in_lem v parts levels) ≡ mask 8 (λ K. ltb K A.components && spares A a c d K)
  mask_is levels e =
      mask-ext A.components (spared_in_lem v parts levels) (λ K. ltb K A.components && spares A a c d K)
      (λ K l. spares-is K l (get_or levels K 0 / 2 ^ 60 % 16) (e K l) ∙ sym (ap (λ (b : Bool). b && spares A a c d K) (lt-ltb K A.components l)))
      ∙ sym (mask-trim 8 A.components (λ K. ltb K A.components && spares A a c d K) P.few_components (λ K h l. ap (λ (b : Bool). b && spares A a c d K) (le-ltb K A.components h)))
