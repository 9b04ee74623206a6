-- Demand 3, and what it follows from: over each word with a cycle exactly one accepting run of codes exists, and its first set is the truth at place 0.
use mathlib.Core.Path.{◌≡◌, sym, ◌∙◌, ap}
use mathlib.Core.Logic.{◌↔◌}
use mathlib.Core.Bool.{Bool, true, ◌&&◌}
use mathlib.Core.List.Memᴰ
use mathlib.Core.List.{List, ◌++◌}
use mathlib.Core.Logic.{⊎_elim}
use Prim.Native.Nat.{ℕ, ◌≤◌, ◌<◌}
use native.Mathlib.Omega.{arith}
use lib.ListN.{length, get_or, length-append}
use borrow.Author.Tests.{lt-ltb}
use Rattle.sets.specs.Masks.{bit}
use Rattle.sets.specs.Tests.{Set}
use Rattle.sets.proofs.Lists.{mem-at}
use Rattle.theory.specs.Automaton.{automaton}
use Rattle.theory.specs.Code.{set_in}
use Rattle.theory.specs.Demand.{DemandFrom, Demand3}
use Rattle.theory.specs.CodeRuns.{WordRun}
use Rattle.theory.specs.Macrostate.{holds_initial}
use Rattle.theory.specs.Passing.{Passing}
use Rattle.theory.specs.Plan.{AcceptsWord}
use Rattle.theory.specs.Rule.{Rule}
use Rattle.theory.specs.Run.{AcceptingRun}
use Rattle.theory.specs.CodeRuns.{CodeRun}
use Rattle.theory.specs.TableComputed.{macrostates_from, transitions_from, macrostates, transitions}
use Rattle.theory.specs.Word.{WordOver, places, next_place_lem, letter_at_lem, place, letters}
use Rattle.theory_laws.proofs.Acceptance.{Truthful, truthful}
use Rattle.theory_laws.proofs.Codes.{code-unique}
use Rattle.theory_laws.proofs.Layers.{layered, few-in-all}
use Rattle.theory_laws.proofs.Packing.{code, code-run, code-set}
use Rattle.theory_laws.proofs.Places.{next-place-low, places-low}
use Rattle.theory_laws.proofs.Tables.{few_states, components-there, lists-from, codes-of, codes-start, table-unique, table_of}

-- the letters of a word over s letters are below s
pub letters-low : (s : ℕ) (lead cycle : List ℕ) → WordOver s lead cycle → (i : ℕ) → letters lead cycle i < s
unfolding letter_at_lem
letters-low s lead cycle W i =
    ⊎_elim (W.lead_letters _) (W.cycle_letters _)
    (Memᴰ.append_cases lead (mem-at (lead ++ cycle) (place (next_place_lem lead cycle) i) (rw length-append (places-low lead cycle W.repeats i))))

-- ---- runs of codes

module _ (r : Rule) (P : Passing r) where
  -- over any endless sequence of letters there is at most one
  pub one-run : (w c d : ℕ → ℕ) → CodeRun (automaton r) w c → CodeRun (automaton r) w d → (i : ℕ) → c i ≡ d i
  one-run = code-unique (automaton r) (layered r P)

  pub few_components : (automaton r).components ≤ 16
  unfolding automaton
  few_components = let h = few-in-all r P in omega arith

  -- over a word with a cycle there is one
  pub word-run : (lead cycle : List ℕ) → 0 < length cycle → (c : ℕ → ℕ) × WordRun r lead cycle c
  unfolding automaton
  word-run lead cycle h =
      let t = truthful (automaton r) (layered r P) 15 (omega (arith, few_states r P)) (places lead cycle) (next_place_lem lead cycle) (letter_at_lem lead cycle) (next-place-low lead cycle h) (omega arith) in
      of-truth t
    where
      of-truth : Truthful (automaton r) 15 (next_place_lem lead cycle) (letter_at_lem lead cycle) → (c : ℕ → ℕ) × WordRun r lead cycle c
      of-truth t = (
        code (automaton r) (layered r P) (few_states r P) few_components (components-there r P) (letters lead cycle) t.S t.r t.K t.k t.run,
        record {
          run = code-run (automaton r) (layered r P) (few_states r P) few_components (components-there r P) (letters lead cycle) t.S t.r t.K t.k t.run;
          truth = λ i q l. rw (code-set (automaton r) (layered r P) (few_states r P) few_components (components-there r P) (letters lead cycle) t.S t.r t.K t.k t.run i)
              (t.truth i q l);
        },
      )

  -- and no other
  pub exactly-one : (lead cycle : List ℕ) → 0 < length cycle → (c : ℕ → ℕ) × WordRun r lead cycle c × ((d : ℕ → ℕ) → CodeRun (automaton r) (letters lead cycle) d → (i : ℕ) → d i ≡ c i)
  exactly-one lead cycle h = let c = word-run lead cycle h in (c.0, c.1, λ d D. one-run (letters lead cycle) d c.0 D c.1.run)

  -- ---- runs of the table, from any start condition

  module _ (start : Set) (room : length (macrostates_from r start) ≤ 65536) where
    -- two accepting runs over the same letters are the same
    pub table-one-run : (w x y : ℕ → ℕ) → AcceptingRun (macrostates_from r start) (transitions_from r start) start w x → AcceptingRun (macrostates_from r start) (transitions_from r start) start w y
        → (i : ℕ) → x i ≡ y i
    table-one-run = table-unique r P (lists-from r P start room) room

    -- an accepting run has the codes of the one run of codes
    pub table-codes : (w x c : ℕ → ℕ) → AcceptingRun (macrostates_from r start) (transitions_from r start) start w x → CodeRun (automaton r) w c → (i : ℕ) → get_or (macrostates_from r start) (x i) 0 ≡ c i
    table-codes w x c R C = one-run w (λ i. get_or (macrostates_from r start) (x i) 0) c (codes-of r P (lists-from r P start room) room w x R) C

    -- there is one exactly if the start condition holds of the first code of that run
    pub table-run-iff : (w c : ℕ → ℕ) → CodeRun (automaton r) w c → ((i : ℕ) → w i < r.s) → ((x : ℕ → ℕ) × AcceptingRun (macrostates_from r start) (transitions_from r start) start w x) ↔
        (start (c 0) ≡ true)
    table-run-iff w c C known = (
      λ x. ap start (sym (table-codes w x.0 c x.1 C 0)) ∙ codes-start r P (lists-from r P start room) room w x.0 x.1,
      table_of r P (lists-from r P start room) room w c C known,
    )

  -- ---- demand 3

  -- the set of a code holds the initial state exactly if its bit is set
  pub holds-is : (c : ℕ) → set_in (automaton r) c r.initial ≡ holds_initial r c
  unfolding automaton set_in
  holds-is c = ap (λ (b : Bool). b && bit c r.initial) (lt-ltb r.initial r.n P.formed.initial_state)

  -- over each word with a cycle exactly one accepting run of codes begins with K and k 0, and its first set is the truth at place 0: the table has the
  -- words that its start condition tells by whether that set holds the initial state
  pub demand-from : (start : Set) (words : List ℕ → List ℕ → Type 0)
      → ((lead cycle : List ℕ) (c : ℕ) → (holds_initial r c ≡ true) ↔ AcceptsWord r lead cycle → words lead cycle ↔ (start c ≡ true))
      → length (macrostates_from r start) ≤ 65536 → DemandFrom r start words (macrostates_from r start) (transitions_from r start)
  unfolding place
  demand-from start words tells room = record {
    exact = λ lead cycle W.
        let c = word-run lead cycle W.repeats in
        let t = c.1.truth 0 r.initial P.formed.initial_state in
        let h = tells lead cycle (c.0 0) (λ e. t.0 (holds-is (c.0 0) ∙ e), λ a. sym (holds-is (c.0 0)) ∙ t.1 a) in
        let k = table-run-iff start room (letters lead cycle) c.0 c.1.run (letters-low r.s lead cycle W) in
        (λ a. k.1 (h.0 a), λ x. h.1 (k.0 x));
    unambiguous = table-one-run start room;
  }

  pub demand3 : length (macrostates r) ≤ 65536 → Demand3 r (macrostates r) (transitions r)
  demand3 = demand-from (holds_initial r) (AcceptsWord r) (λ lead cycle c h. (h.1, h.0))
