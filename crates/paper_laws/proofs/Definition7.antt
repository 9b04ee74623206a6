-- One step of Definition 7 of source 000, with the local consistency of its Definition 11, is 01's step.
use mathlib.Core.Path.{◌≡◌, refl, sym, ◌∙◌}
use mathlib.Core.Logic.Iff
use mathlib.Core.Logic.{◌↔◌, by_cases}
use mathlib.Core.Bool.{Bool, true, false}
use Prim.Native.Nat.{ℕ, ◌≤◌, ◌<◌}
use native.Mathlib.Omega.{arith}
use native.Mathlib.Decide.{dec_le}
use Rattle.sets.specs.Tests.{Set}
use Rattle.sets.specs.Masks.{exclusive}
use Rattle.theory.specs.Automaton.{Automaton}
use Rattle.theory.specs.Layered.{Layered}
use Rattle.theory.specs.Rule.{satisfies}
use Rattle.theory.specs.Core.{Core, Earlier}
use Rattle.theory.specs.CoreComputed.{level_of, rank_of}
use Rattle.theory_laws.proofs.Pursuit.{open_at, open_of}
use Rattle.theory_laws.proofs.Cores.{core-rank-max, earlier-of}
use Rattle.theory_laws.proofs.Levels.{least-unique}
use Rattle.paper_spec.specs.Definition7.{MeetsR1, MeetsR2, Consistent, LocallyConsistent}
use Rattle.paper_spec.specs.Halves.{EarlierRejecting, EarlierAccepting}
use Rattle.paper_laws.proofs.Halves.{EarlierOf, of-rejecting, of-accepting, least-ext, test-kind, half}
use Rattle.paper_laws.proofs.Dual.{local-iff}
use Rattle.paper_laws.proofs.Levels.{witness_of, witness-levels}

-- two orders that agree agree strictly, the other way round
strict : (x y u v : ℕ) → (x ≤ y) ↔ (u ≤ v) → (y < x) ↔ (v < u)
strict x y u v h = (
  λ l. by_cases (dec_le u v) (λ k. let z = h.1 k in absurd (omega arith)) (λ k. omega arith),
  λ l. by_cases (dec_le x y) (λ k. let z = h.0 k in absurd (omega arith)) (λ k. omega arith),
)

-- and orders that agree strictly agree
weak : (x y u v : ℕ) → (y < x) ↔ (v < u) → (x ≤ y) ↔ (u ≤ v)
weak x y u v h = (
  λ l. by_cases (dec_le u v) (λ k. k) (λ k. let z = h.1 (omega arith) in absurd (omega arith)),
  λ l. by_cases (dec_le x y) (λ k. k) (λ k. let z = h.0 (omega arith) in absurd (omega arith)),
)

module _ (A : Automaton) (H : Layered A) (a : ℕ) (S : Set) (r : ℕ → ℕ) (T : Set) (t : ℕ → ℕ) (C : Core A T t) where
  -- the levels, computed
  abbrev pub levels : ℕ → ℕ
  levels p = level_of A A.n T t p (A.entry p a)

  counted : (X : Set) → ((q : ℕ) → q < A.n → X q ≡ satisfies A.n T (A.entry q a)) → Earlier A a X (rank_of A X levels) T t levels
  counted X exact = earlier-of A a T t H A.n (core-rank-max A T t C) X (rank_of A X levels) exact (λ q m. refl)

  -- ---- a half alone: its levels are those of the whole earlier core, which T and the letter fix

  abbrev held : Set
  held q = satisfies A.n T (A.entry q a)

  whole : Earlier A a held (rank_of A held levels) T t levels
  whole = counted held (λ q m. refl)

  module _ (l : ℕ → ℕ) where
    module _ (k : Bool) (E : EarlierOf A k a S r T t l) where
      held-kind : (q : ℕ) → q < A.n → A.accepting q ≡ k → S q ≡ exclusive k true → held q ≡ exclusive k true
      held-kind q m x o = sym (E.exact q m x) ∙ o

      level-kind : (q : ℕ) → q < A.n → A.accepting q ≡ k → S q ≡ exclusive k true → l q ≡ levels q
      level-kind q m x o =
          least-unique _ (l q) (levels q) (E.level q m x o)
          (least-ext _ _ (test-kind A H k T t q (A.entry q a) m x) (levels q) (whole.level q m (open_at A k true held q x (held-kind q m x o))))

      -- the half of the kind meets its rule, whatever S and r are elsewhere
      half_meets : (q q' : ℕ) → q < A.n → q' < A.n → A.component q ≡ A.component q' → A.accepting q ≡ k → S q ≡ exclusive k true → S q' ≡ exclusive k true
          → (r q < r q') ↔ (witness_of A a T t k q q' ≡ true)
      half_meets q q' m n c x o u =
          let y = H.pure q' q n m (sym c) ∙ x in
          Iff.trans
          (strict (r q') (r q) (l q') (l q) (E.ordered q' q n m (sym c) y u o))
          (rw (level-kind q m x o, level-kind q' n y u)
          (witness-levels A H a held (rank_of A held levels) T t levels whole C k q m x q' n c (held-kind q m x o) (held-kind q' n y u)))

    pub rejecting-meets : EarlierRejecting A a S r T t l → MeetsR1 A a T t S r
    rejecting-meets E = half_meets false (of-rejecting A E)

    pub accepting-meets : EarlierAccepting A a S r T t l → MeetsR2 A a T t S r
    accepting-meets E = half_meets true (of-accepting A E)

    -- 01's step satisfies R1' and R2'
    pub step-consistent : Earlier A a S r T t l → Consistent A a T t S r
    step-consistent E = record { R1' = half_meets false (half A H a S r T t l false E); R2' = half_meets true (half A H a S r T t l true E) }

  -- ---- and back

  module _ (exact : (q : ℕ) → q < A.n → S q ≡ satisfies A.n T (A.entry q a)) where
    -- a core that satisfies R1' and R2' is 01's earlier core
    pub consistent-step : Core A S r → Consistent A a T t S r → Earlier A a S r T t levels
    consistent-step D P = record {
      exact = exact;
      level = (counted S exact).level;
      ordered = λ q p m n c o u. let k = A.accepting q in
          let y = H.pure p q n m (sym c) in
          let b = open_of A k true S q refl o in
          let d = open_of A k true S p y u in
          weak (r q) (r p) (levels q) (levels p)
          (Iff.trans (meets-kind k p q n m (sym c) y d b) (Iff.symm (witness-levels A H a S (rank_of A S levels) T t levels (counted S exact) C k p n y q m (sym c) d b)));
      core = D;
    }
      where
        meets-kind : (k : Bool) (q q' : ℕ) → q < A.n → q' < A.n → A.component q ≡ A.component q' → A.accepting q ≡ k → S q ≡ exclusive k true → S q' ≡ exclusive k true
            → (r q < r q') ↔ (witness_of A a T t k q q' ≡ true)
        meets-kind true = P.R2'
        meets-kind false = P.R1'

  -- a core S before a core T: the paper's step and 01's are the same
  pub definition7-iff : Core A S r → (LocallyConsistent A a T S × Consistent A a T t S r) ↔ ((l : ℕ → ℕ) × Earlier A a S r T t l)
  definition7-iff D = (
    λ h. (levels, consistent-step ((local-iff A a T S).0 h.0) D h.1),
    λ h. ((local-iff A a T S).1 h.1.exact, step-consistent h.0 h.1),
  )
