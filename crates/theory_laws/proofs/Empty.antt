-- "A rule that accepts no word gives an empty table", and no other rule does.
use mathlib.Core.Path.{◌≡◌, refl, ap, ◌∙◌}
use mathlib.Core.Logic.{◌↔◌}
use mathlib.Core.Bool.{true}
use mathlib.Core.List.Memᴰ
use mathlib.Core.List.{List, [], ◌∷◌, Memᴰ}
use mathlib.Core.Logic.{⊎_elim}
use Prim.Native.Nat.{ℕ, zero, suc, ◌≤◌, ◌<◌}
use native.Mathlib.Omega.{arith}
use lib.ListN.{length}
use Rattle.theory.specs.Automaton.{automaton}
use Rattle.theory.specs.Demand.{Demand3}
use Rattle.theory.specs.Macrostate.{begun, holds_initial, Macrostate, Goes, Reachable, begins, goes_to}
use Rattle.theory.specs.Passing.{Passing}
use Rattle.theory.specs.Plan.{AcceptsWord}
use Rattle.theory.specs.Rule.{Rule}
use Rattle.theory.specs.Table.{ListsReachable}
use Rattle.theory.specs.Word.{WordOver, letters}
use Rattle.theory_laws.proofs.Demand.{letters-low}
use Rattle.theory_laws.proofs.Layers.{layered}
use Rattle.theory_laws.proofs.Places.{letter-first, letter-behind}
use Rattle.theory_laws.proofs.Tables.{few_states, components-there, reachable-macrostate, numbered, numbered-run}
use Rattle.trim_spec.specs.Matters.{Matters, ListsMattering}

-- ---- a macrostate before one that matters does

module _ (r : Rule) (c a d : ℕ) (known : a < r.s) (M : Macrostate (automaton r) c) (G : Goes (automaton r) c a d) (D : Matters r d) where
  abbrev in-front : ℕ → ℕ
  in-front zero = c
  in-front (suc i) = D.run i

  front-macrostate : (i : ℕ) → Macrostate (automaton r) (in-front i)
  front-macrostate zero = M
  front-macrostate (suc i) = D.goes_on.macrostate i

  front-steps : (i : ℕ) → Goes (automaton r) (in-front i) (letters (a ∷ D.lead) D.cycle i) (in-front (suc i))
  front-steps zero = rw (letter-first a D.lead D.cycle, D.begins) G
  front-steps (suc i) = rw (letter-behind a D.lead D.cycle D.word.repeats i) (D.goes_on.steps i)

  pub matters-before : Matters r c
  matters-before = record {
    lead = a ∷ D.lead;
    cycle = D.cycle;
    word = record {
      repeats = D.word.repeats;
      lead_letters = λ x m. ⊎_elim (λ e. rw e known) (λ k. D.word.lead_letters x k) (Memᴰ.cases_cons m);
      cycle_letters = D.word.cycle_letters;
    };
    run = in-front;
    begins = refl;
    goes_on = record { macrostate = front-macrostate; steps = front-steps; again = λ i. let (j, l, e) = D.goes_on.again i in (suc j, omega arith, e) };
  }

  pub before-lead : matters-before.lead ≡ a ∷ D.lead
  unfolding matters-before
  before-lead = refl

  pub before-cycle : matters-before.cycle ≡ D.cycle
  unfolding matters-before
  before-cycle = refl

module _ (r : Rule) (P : Passing r) where
  -- so does the initial macrostate that it is reached from
  from-initial : {c : ℕ} → Reachable (automaton r) r.s (holds_initial r) c → Matters r c → (d : ℕ) × (begun (holds_initial r) d ≡ true) × Macrostate (automaton r) d × Matters r d
  from-initial (begins {c = c} M e) K = (c, e, M, K)
  from-initial (goes_to {c = c} {d = d} a R l M G) K =
      from-initial R (matters-before r c a d l (reachable-macrostate (automaton r) (layered r P) (few_states r P) (components-there r P) r.s (holds_initial r) R) G K)

  module _ (codes ts : List ℕ) (L : ListsReachable r codes ts) (room : length codes ≤ 65536) (D : Demand3 r codes ts) where
    -- a word over which an initial macrostate goes on for ever is accepted
    pub accepted : (d : ℕ) → begun (holds_initial r) d ≡ true → Macrostate (automaton r) d → (K : Matters r d) → AcceptsWord r K.lead K.cycle
    accepted d e M K =
        let first : Reachable (automaton r) r.s (holds_initial r) (K.run 0) = rw K.begins (begins M e) in
        let known = letters-low r.s K.lead K.cycle K.word in
        let G = K.goes_on in
        let N = numbered r P L room (letters K.lead K.cycle) K.run first known G.macrostate G.steps in
        (D.exact K.lead K.cycle K.word).1 (N.number, numbered-run N G.again (holds_initial r) (ap (begun (holds_initial r)) K.begins ∙ e))

    -- a rule with a macrostate that matters accepts a word
    pub some_word : {c : ℕ} → Reachable (automaton r) r.s (holds_initial r) c → Matters r c → (lead cycle : List ℕ) × WordOver r.s lead cycle × AcceptsWord r lead cycle
    some_word R K = let (d, e, M, J) = from-initial R K in (J.lead, J.cycle, J.word, accepted d e M J)

    pub empty-iff : (kept moves : List ℕ) → ListsMattering r kept moves → Demand3 r kept moves → (kept ≡ []) ↔ ((lead cycle : List ℕ) → WordOver r.s lead cycle → AcceptsWord r lead cycle → ⊥)
    empty-iff kept moves K E = (
      λ e lead cycle W a. let (x, R) = (E.exact lead cycle W).0 a in let l : x 0 < length kept = R.run.within 0 in absurd (omega (arith, l, ap length e)),
      λ none. nothing kept (λ c m. let (R, J) = (K.codes_are c).0 m in let (lead, cycle, W, a) = some_word R J in none lead cycle W a),
    )
      where
        nothing : (l : List ℕ) → ((c : ℕ) → Memᴰ c l → ⊥) → l ≡ []
        nothing [] n = refl
        nothing (c ∷ cs) n = absurd (n c (Memᴰ.head refl))
