-- The runs of a table tell the truth of every endless sequence, and of a sequence that is told there is exactly one run of codes.
use mathlib.Core.Path.{◌≡◌, sym, ap, ◌∙◌}
use mathlib.Core.Logic.{◌↔◌, ◌⊎◌}
use mathlib.Core.Bool.{Bool, true, false, ◌&&◌, not}
use mathlib.Core.List.{List}
use Prim.Native.Nat.{ℕ, suc, ◌≤◌, ◌<◌}
use native.Mathlib.Omega.{arith}
use lib.ListN.{length, get_or}
use borrow.Author.Tests.{lt-ltb}
use Rattle.sets.specs.Masks.{bit}
use Rattle.sets.specs.Tests.{Set}
use Rattle.sets.proofs.Bools.{bif, not_t}
use Rattle.theory.specs.Automaton.{Automaton, automaton}
use Rattle.theory.specs.Code.{set_in}
use Rattle.theory.specs.CodeRuns.{CodeRun}
use Rattle.theory.specs.Layered.{Layered}
use Rattle.theory.specs.Macrostate.{holds_initial}
use Rattle.theory.specs.Passing.{Passing}
use Rattle.theory.specs.Plan.{AcceptsFrom}
use Rattle.theory.specs.Rule.{Rule}
use Rattle.theory.specs.Run.{AcceptingRun}
use Rattle.theory.specs.Sequence.{AcceptsAt, RejectsAt, AcceptsSequence, RejectsSequence, Determined}
use Rattle.theory.specs.Table.{ListsFrom}
use Rattle.theory.specs.Word.{next_place_lem, place, letters}
use Rattle.theory_laws.proofs.Breakpoint.{certified}
use Rattle.theory_laws.proofs.Certified.{Certified}
use Rattle.theory_laws.proofs.Codes.{run_of}
use Rattle.theory_laws.proofs.Demand.{few_components, one-run, word-run}
use Rattle.theory_laws.proofs.Existence.{run}
use Rattle.theory_laws.proofs.Layers.{layered}
use Rattle.theory_laws.proofs.Packing.{code, code-run}
use Rattle.theory_laws.proofs.Tables.{few_states, components-there, codes-of, codes-start, table_of}
use Rattle.rejecting_spec.specs.Rejecting.{lacks_initial}
use Rattle.endless_spec.specs.Endless.{TruthFrom, TellsTruth}
use Rattle.endless_spec.proofs.Graphs.{never_both}
use Rattle.endless_spec.proofs.Plans.{in-iff, out-iff}
use Rattle.endless_spec.proofs.Determined.{accepted_set, accepted-trim, told-certified}

module _ (r : Rule) (P : Passing r) where
  abbrev A : Automaton
  A = automaton r

  abbrev H : Layered (automaton r)
  H = layered r P

  -- ---- runs of codes

  -- the bits of a code are its set
  bit-set : (c q : ℕ) → q < r.n → set_in A c q ≡ bit c q
  unfolding automaton set_in
  bit-set c q l = ap (λ (b : Bool). b && bit c q) (lt-ltb q r.n l)

  module _ (w c : ℕ → ℕ) (C : CodeRun (automaton r) w c) where
    sets-certified : Certified A suc w (λ i. set_in A (c i))
    sets-certified = certified A H 15 w _ _ _ _ (run_of A H w c C)

    -- the set holds a state exactly if the rule accepts from there
    pub code_holds : (q i : ℕ) → q < r.n → (bit (c i) q ≡ true) ↔ AcceptsAt (automaton r) w q i
    unfolding automaton
    code_holds q i l = rw (bit-set (c i) q l) at (in-iff A H w _ sets-certified q i l)

    -- and lacks it exactly if the rule rejects
    pub code-lacks : (q i : ℕ) → q < r.n → (bit (c i) q ≡ false) ↔ RejectsAt (automaton r) w q i
    unfolding automaton
    code-lacks q i l = rw (bit-set (c i) q l) at (out-iff A H w _ sets-certified q i l)

  pub sequence-never-both : (w : ℕ → ℕ) (q i : ℕ) → q < r.n → AcceptsAt (automaton r) w q i → RejectsAt (automaton r) w q i → ⊥
  unfolding automaton
  sequence-never-both w q i l a b = never_both A H w q i a b l

  -- ---- a word with a cycle

  -- acceptance by plans over steps is 01's by plans over places, both ways
  pub word-iff : (lead cycle : List ℕ) → 0 < length cycle → (q i : ℕ) → q < r.n
      → AcceptsAt (automaton r) (letters lead cycle) q i ↔ AcceptsFrom r lead cycle q (place (next_place_lem lead cycle) i)
  word-iff lead cycle some q i l =
      let (c, W) = word-run r P lead cycle some in
      let h = code_holds (letters lead cycle) c W.run q i l in
      let t = W.truth i q l in
      (λ a. t.0 (bit-set (c i) q l ∙ h.1 a), λ a. h.0 (sym (bit-set (c i) q l) ∙ t.1 a))

  -- and rejection is that there is no plan
  pub word-rejects-iff : (lead cycle : List ℕ) → 0 < length cycle → (q i : ℕ) → q < r.n
      → RejectsAt (automaton r) (letters lead cycle) q i ↔ (AcceptsFrom r lead cycle q (place (next_place_lem lead cycle) i) → ⊥)
  word-rejects-iff lead cycle some q i l =
      let (c, W) = word-run r P lead cycle some in
      let h = code-lacks (letters lead cycle) c W.run q i l in
      let t = word-iff lead cycle some q i l in (
        λ b a. sequence-never-both (letters lead cycle) q i l (t.1 a) b,
        λ n. h.0 (bif (bit (c i) q) (λ e. absurd (n (t.0 ((code_holds (letters lead cycle) c W.run q i l).0 e)))) (λ e. e)),
      )

  -- ---- a sequence that is told

  module _ (w : ℕ → ℕ) (told : Determined r w) where
    each : (q i : ℕ) → q < A.n → AcceptsAt A w q i ⊎ RejectsAt A w q i
    unfolding automaton
    each = told

    abbrev S : ℕ → Set
    S = accepted_set A H w each

    -- along the states from which the rule accepts goes a run
    told-run : (c : ℕ → ℕ) × CodeRun (automaton r) w c
    told-run =
        let C = told-certified A H w each in
        let few = few_states r P in
        let R = run A H 15 (omega arith) w S C (accepted-trim A H w each) in
        (code A H few (few_components r P) (components-there r P) w _ _ _ _ R, code-run A H few (few_components r P) (components-there r P) w _ _ _ _ R)

    -- exactly one, and its sets are the truth
    pub told-one : (c : ℕ → ℕ) × CodeRun (automaton r) w c × ((d : ℕ → ℕ) → CodeRun (automaton r) w d → (i : ℕ) → d i ≡ c i)
    told-one = let (c, C) = told-run in (c, C, λ d D. one-run r P w d c D C)

  -- ---- the runs of a table

  module _ (start : Set) (codes ts : List ℕ) (L : ListsFrom r start codes ts) (room : length codes ≤ 65536) (sequences : (ℕ → ℕ) → Type 0)
      (tells : (w : ℕ → ℕ) (c : ℕ) → (bit c r.initial ≡ true) ↔ AcceptsSequence r w → (bit c r.initial ≡ false) ↔ RejectsSequence r w → (start c ≡ true) ↔ sequences w) where
    -- the start condition tells the sequences by the first set
    first : (w c : ℕ → ℕ) → CodeRun (automaton r) w c → (start (c 0) ≡ true) ↔ sequences w
    first w c C = let l = P.formed.initial_state in tells w (c 0) (code_holds w c C r.initial 0 l) (code-lacks w c C r.initial 0 l)

    pub table-truth : TruthFrom r start sequences codes ts
    table-truth = record {
      holds = λ w x R. code_holds w _ (codes-of r P L room w x R);
      lacks = λ w x R. code-lacks w _ (codes-of r P L room w x R);
      sound = λ w x R. (first w _ (codes-of r P L room w x R)).0 (codes-start r P L room w x R);
      complete = λ w known told s. let (c, C, u) = told-one w told in table_of r P L room w c C known ((first w c C).1 s);
      never_both = λ w. sequence-never-both w r.initial 0 P.formed.initial_state;
    }

  -- the table of the build, and the table of the words that a rule rejects
  pub accepting-truth : (codes ts : List ℕ) → ListsFrom r (holds_initial r) codes ts → length codes ≤ 65536 → TellsTruth r codes ts
  accepting-truth codes ts L room = table-truth (holds_initial r) codes ts L room (AcceptsSequence r) (λ w c a b. a)

  pub rejecting-truth : (codes ts : List ℕ) → ListsFrom r (lacks_initial r) codes ts → length codes ≤ 65536 → TruthFrom r (lacks_initial r) (RejectsSequence r) codes ts
  rejecting-truth codes ts L room = table-truth (lacks_initial r) codes ts L room (RejectsSequence r) (λ w c a b. (λ e. b.0 (not_t _ e), λ s. ap not (b.1 s)))

  -- a table with the same runs, by other numbers
  pub same_truth : (start : Set) (sequences : (ℕ → ℕ) → Type 0) (codes ts left kept : List ℕ)
      → ((w x : ℕ → ℕ) → AcceptingRun codes ts start w x → (y : ℕ → ℕ) × AcceptingRun left kept start w y × ((i : ℕ) → get_or left (y i) 0 ≡ get_or codes (x i) 0))
      → ((w y : ℕ → ℕ) → AcceptingRun left kept start w y → (x : ℕ → ℕ) × AcceptingRun codes ts start w x × ((i : ℕ) → get_or left (y i) 0 ≡ get_or codes (x i) 0))
      → TruthFrom r start sequences codes ts → TruthFrom r start sequences left kept
  same_truth start sequences codes ts left kept there back T = record {
    holds = λ w y R q i l. let (x, U, e) = back w y R in rw (e i) (T.holds w x U q i l);
    lacks = λ w y R q i l. let (x, U, e) = back w y R in rw (e i) (T.lacks w x U q i l);
    sound = λ w y R. let (x, U, e) = back w y R in T.sound w x U;
    complete = λ w known told s. let (x, R) = T.complete w known told s in let (y, U, e) = there w x R in (y, U);
    never_both = T.never_both;
  }
