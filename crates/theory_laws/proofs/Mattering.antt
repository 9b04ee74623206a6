-- Of a table that lists the reachable macrostates, the numbers that are left are those of macrostates that matter.
use mathlib.Core.Path.{◌≡◌, refl, sym, ap, ◌∙◌}
use mathlib.Core.Logic.{◌↔◌, ⊎_elim, by_cases}
use mathlib.Core.Bool.{true}
use mathlib.Core.List.{List, Memᴰ}
use Prim.Native.Nat.{ℕ, suc, ◌^◌, ◌≤◌, ◌<◌}
use native.Mathlib.Omega.{arith}
use native.Mathlib.Decide.{dec_lt}
use lib.ListN.{length, get_or, get_or-eq_default}
use Rattle.sets.proofs.Lists.{mem-at}
use Rattle.sets.proofs.Ascending.{asc-inj}
use Rattle.theory.specs.Automaton.{Automaton, automaton}
use Rattle.theory.specs.Macrostate.{is_accepting_lem, holds_initial, Reachable}
use Rattle.theory.specs.Passing.{Passing}
use Rattle.theory.specs.Rule.{Rule}
use Rattle.theory.specs.Run.{letter_of_lem, Leads}
use Rattle.theory.specs.Table.{ListsReachable}
use Rattle.theory.specs.Word.{letters}
use Rattle.theory_laws.proofs.Demand.{letters-low}
use Rattle.theory_laws.proofs.Tables.{goes_by, in-range, macrostate-at, numbered, numbered-again}
use Rattle.graph_walks.specs.Walks.{Walk, Solved}
use Rattle.graph_walks.proofs.Sums.{has-place}
use Rattle.graph_walks.proofs.Endless.{endless}
use Rattle.graph_walks.proofs.Closing.{closes}
use Rattle.trim_spec.specs.Matters.{Matters}
use Rattle.trim_spec.specs.Graph.{Step, Inside}
use Rattle.trim_spec.specs.Trimmed.{flag_of_lem, flags}
use Rattle.theory_laws.proofs.Narrow.{narrow}
use Rattle.theory_laws.proofs.Sweeping.{flags-length, flags-at, flag-in, flag-accepting, accepting-flag}
use Rattle.theory_laws.proofs.Folding.{lead_of, cycle_of, at, at_first, letter_at, at_next, at_again, folded-word}

module _ (r : Rule) (P : Passing r) (codes ts : List ℕ) (L : ListsReachable r codes ts) (room : length codes ≤ 65536) where
  abbrev A : Automaton
  A = automaton r

  abbrev code : ℕ → ℕ
  code x = get_or codes x 0

  -- ---- the table

  pub table-inside : Inside (length codes) ts
  table-inside = record { sources = λ t m. (in-range r P L room t m).source; targets = λ t m. (in-range r P L room t m).target }

  pub reachable-at : (m : ℕ) → m < length codes → Reachable A r.s (holds_initial r) (code m)
  reachable-at m l = (L.codes_are (code m)).0 (mem-at codes m l)

  pub narrow_at : (m : ℕ) → get_or codes m 0 < 2 ^ 48
  narrow_at m =
      by_cases (dec_lt m (length codes)) (λ l. narrow A (code m) (macrostate-at r P L room m l))
      (λ l. rw (get_or-eq_default codes 0 {n = m} (omega arith)) (omega arith))

  -- ---- a walk that comes back to an accepting number is a run over a word

  module _ (z : ℕ → ℕ) (walk : Walk (Step ts) z) (low : (k : ℕ) → z k < length codes) (i j : ℕ) (later : i < j) (same : z i ≡ z j) (accepts : is_accepting_lem (code (z i)) ≡ true) where
    abbrev letter : ℕ → ℕ
    letter k = letter_of_lem (walk k).transition

    leads-at : (k : ℕ) → Leads (walk (at letter i j later k)).transition (z (at letter i j later k)) (letters (lead_of letter i j later) (cycle_of letter i j later) k) (z (at letter i j later (suc k)))
    leads-at k =
        let w = walk (at letter i j later k) in
        record { source = w.source; letter = sym (letter_at letter i j later k); target = w.target ∙ at_next letter i j later z same k }

    known : (k : ℕ) → letter k < r.s
    known k = let w = walk k in (goes_by r P L room w.transition (z k) (letter k) (z (suc k)) w.listed (record { source = w.source; letter = refl; target = w.target })).1

    folded : Matters r (code (z 0))
    folded = record {
      lead = lead_of letter i j later;
      cycle = cycle_of letter i j later;
      word = folded-word letter i j later r.s known;
      run = λ k. code (z (at letter i j later k));
      begins = ap (λ (k : ℕ). code (z k)) (at_first letter i j later);
      goes_on = record {
        macrostate = λ k. macrostate-at r P L room (z (at letter i j later k)) (low (at letter i j later k));
        steps = λ k. (goes_by r P L room _ (z (at letter i j later k)) _ (z (at letter i j later (suc k))) (walk (at letter i j later k)).listed (leads-at k)).0;
        again = λ k. let (n, l, e) = at_again letter i j later k in (n, l, ap (λ (v : ℕ). is_accepting_lem (code (z v))) e ∙ accepts);
      };
    }

  -- ---- the numbers that are left

  module _ (live : List ℕ) (S : Solved (Step ts) (flags codes) live) where
    pub live-long : length live ≡ length codes
    live-long = S.long ∙ flags-length codes

    pub live-low : (m : ℕ) → 0 < get_or live m 0 → m < length codes
    live-low m l = let e = live-long in let h = has-place live m l in omega arith

    live-accepting : (m : ℕ) → 1 < get_or live m 0 → is_accepting_lem (code m) ≡ true
    live-accepting m l =
        let e : get_or live m 0 ≡ flag_of_lem (code m) = ⊎_elim (λ z. absurd (omega arith)) (λ z. z) (S.each m) ∙ flags-at codes m (live-low m (omega arith)) in
        accepting-flag (code m) (omega arith)

    -- an accepting run of the table, over any letters, keeps to them
    pub run-live : (w x : ℕ → ℕ) → ((i : ℕ) → x i < length codes) → ((i : ℕ) → (t : ℕ) × Memᴰ t ts × Leads t (x i) (w i) (x (suc i)))
        → ((i : ℕ) → (j : ℕ) × (i < j) × (is_accepting_lem (code (x j)) ≡ true)) → (i : ℕ) → 0 < get_or live (x i) 0
    run-live w x within moves again =
        S.keeps x (λ i. let (t, m, l) = moves i in record { transition = t; listed = m; source = l.source; target = l.target })
        (λ i. rw (flags-at codes (x i) (within i)) (flag-in (code (x i))))
        (λ i. let (j, l, e) = again i in (j, l, let f = flags-at codes (x j) (within j) in let g = flag-accepting (code (x j)) e in omega arith))

    live-matters : (m : ℕ) → 0 < get_or live m 0 → Matters r (code m)
    live-matters m l =
        let W = endless (Step ts) live S.sound m l in
        let c = closes live W.node W.again in
        rw W.begins at (folded W.node W.walk (λ k. live-low (W.node k) (W.stays k)) c.0 c.1 c.2 c.3 (live-accepting (W.node c.0) c.4))

    matters-live : (m : ℕ) → m < length codes → Matters r (code m) → 0 < get_or live m 0
    matters-live m l M =
        let w = letters M.lead M.cycle in
        let first : Reachable A r.s (holds_initial r) (M.run 0) = rw M.begins (reachable-at m l) in
        let G = M.goes_on in
        let N = numbered r P L room w M.run first (letters-low r.s M.lead M.cycle M.word) G.macrostate G.steps in
        let e : N.number 0 ≡ m = asc-inj codes L.codes_ascend (N.number 0) m (N.low 0) l (N.same 0 ∙ M.begins) in
        rw e at (run-live w N.number N.low N.moves (numbered-again N G.again) 0)

    -- a number is left exactly if its macrostate matters
    pub matters-iff : (m : ℕ) → m < length codes → (0 < get_or live m 0) ↔ Matters r (code m)
    matters-iff m l = (live-matters m, matters-live m l)
