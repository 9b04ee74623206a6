-- The table of the macrostates that matter: its lists, and its accepting runs, which are those of the whole table by other numbers.
use mathlib.Core.Path.{◌≡◌, refl, sym, ap, ◌∙◌}
use mathlib.Core.List.{List, Memᴰ}
use Prim.Native.Nat.{ℕ, suc, ◌+◌, ◌*◌, ◌≤◌, ◌<◌}
use native.Mathlib.Omega.{arith}
use lib.ListN.{length, get_or}
use Rattle.sets.proofs.Lists.{place_of}
use Rattle.sets.proofs.Ascending.{asc-inj}
use Rattle.theory.specs.Automaton.{Automaton, automaton}
use Rattle.theory.specs.Demand.{Demand3}
use Rattle.theory.specs.Macrostate.{begun, is_accepting_lem, holds_initial, Goes}
use Rattle.theory.specs.Passing.{Passing}
use Rattle.theory.specs.Rule.{Rule}
use Rattle.theory.specs.Run.{Leads, AcceptingRun}
use Rattle.theory.specs.Table.{Transition, ListsReachable}
use Rattle.theory.specs.TableComputed.{transitions_of}
use Rattle.theory_laws.proofs.Layers.{layered}
use Rattle.theory_laws.proofs.Tables.{letters-fit, steps-ascending, steps-iff, transition-by, taken-apart, goes_by}
use Rattle.graph_walks.specs.Walks.{Solved}
use Rattle.trim_spec.specs.Matters.{ListsMattering}
use Rattle.trim_spec.specs.Graph.{Step}
use Rattle.trim_spec.specs.Trimmed.{flags, picked, new_number}
use Rattle.theory_laws.proofs.Numbers.{picked-length, picked-at, number-low, picked-from, picked-out, picked-mem, picked-asc, number-max}
use Rattle.theory_laws.proofs.Mattering.{reachable-at, live-long, run-live, matters-iff}

module _ (r : Rule) (P : Passing r) (codes ts : List ℕ) (L : ListsReachable r codes ts) (room : length codes ≤ 65536)
    (live : List ℕ) (S : Solved (Step ts) (flags codes) live) where
  abbrev A : Automaton
  A = automaton r

  abbrev kept : List ℕ
  kept = picked live codes

  long : length live ≡ length codes
  long = live-long r P codes ts L room live S

  pub kept-room : length kept ≤ 65536
  kept-room = let e = picked-length live codes long in let l = number-max live (length codes) in omega arith

  -- ---- the lists

  pub kept-are : ListsMattering r kept (transitions_of A r.s kept)
  kept-are = record {
    codes_ascend = picked-asc live codes long L.codes_ascend;
    codes_are = λ c. (
      λ m. let (i, l, h, e) = picked-out live codes long c m in (rw e at (reachable-at r P codes ts L room i l), rw e at ((matters-iff r P codes ts L room live S i l).0 h)),
      λ k. let (i, l, e) = place_of codes c ((L.codes_are c).1 k.0) in
          rw e at (picked-mem live codes long i l ((matters-iff r P codes ts L room live S i l).1 (rw e k.1))),
    );
    transitions_ascend = steps-ascending A r.s kept;
    transitions_are = steps-iff A r.s kept (layered r P) (letters-fit r P) kept-room;
  }

  -- ---- the runs

  -- a step between macrostates that are left is one of their table
  step_in : (x a y : ℕ) → x < length kept → y < length kept → a < r.s → Goes A (get_or kept x 0) a (get_or kept y 0)
      → (t : ℕ) × Memᴰ t (transitions_of A r.s kept) × Leads t x a y
  step_in x a y hx hy ha g =
      let T : Transition A r.s kept (x * 16777216 + a * 65536 + y) = transition-by x a y hx ha hy refl g in
      (x * 16777216 + a * 65536 + y, (kept-are.transitions_are _).1 T, taken-apart r P kept-are kept-room _ T)

  -- "The one accepting run of each word must survive in the smaller table": an accepting run of the whole table, over any letters, is one of this table, renumbered
  pub survives : (w x : ℕ → ℕ) → AcceptingRun codes ts (holds_initial r) w x
      → (y : ℕ → ℕ) × AcceptingRun kept (transitions_of A r.s kept) (holds_initial r) w y × ((i : ℕ) → get_or kept (y i) 0 ≡ get_or codes (x i) 0)
  survives w x R =
      let inside : (i : ℕ) → 0 < get_or live (x i) 0 = run-live r P codes ts L room live S w x R.run.within R.run.moves R.again in
      let same : (i : ℕ) → get_or kept (new_number live (x i)) 0 ≡ get_or codes (x i) 0 = λ i. picked-at live codes (x i) (R.run.within i) (inside i) in
      let low : (i : ℕ) → new_number live (x i) < length kept = λ i. number-low live codes long (x i) (R.run.within i) (inside i) in (
        λ i. new_number live (x i),
        record {
          run = record {
            within = low;
            begins = ap (begun (holds_initial r)) (same 0) ∙ R.run.begins;
            moves = λ i. let (t, m, l) = R.run.moves i in let g = goes_by r P L room t (x i) (w i) (x (suc i)) m l in
                step_in (new_number live (x i)) (w i) (new_number live (x (suc i))) (low i) (low (suc i)) g.1 (rw (same i, same (suc i)) g.0);
          };
          again = λ i. let (j, l, e) = R.again i in (j, l, ap is_accepting_lem (same j) ∙ e);
        },
        same,
      )

  -- and the other way round
  pub comes-from : (w y : ℕ → ℕ) → AcceptingRun kept (transitions_of A r.s kept) (holds_initial r) w y
      → (x : ℕ → ℕ) × AcceptingRun codes ts (holds_initial r) w x × ((i : ℕ) → get_or kept (y i) 0 ≡ get_or codes (x i) 0)
  comes-from w y R = (
    old,
    record {
      run = record {
        within = low;
        begins = ap (begun (holds_initial r)) (sym (same 0)) ∙ R.run.begins;
        moves = λ i. let (t, m, l) = R.run.moves i in by_whole i t m l;
      };
      again = λ i. let (j, l, e) = R.again i in (j, l, ap is_accepting_lem (sym (same j)) ∙ e);
    },
    same,
  )
    where
      spot : (i : ℕ) → (x : ℕ) × (x < length codes) × (0 < get_or live x 0) × (new_number live x ≡ y i)
      spot i = picked-from live codes long (y i) (R.run.within i)

      old : ℕ → ℕ
      old i = (spot i).0

      low : (i : ℕ) → old i < length codes
      low i = (spot i).1

      same : (i : ℕ) → get_or kept (y i) 0 ≡ get_or codes (old i) 0
      same i = ap (λ (k : ℕ). get_or kept k 0) (sym (spot i).3) ∙ picked-at live codes (old i) (spot i).1 (spot i).2

      by_whole : (i t : ℕ) → Memᴰ t (transitions_of A r.s kept) → Leads t (y i) (w i) (y (suc i)) → (u : ℕ) × Memᴰ u ts × Leads u (old i) (w i) (old (suc i))
      by_whole i t m l =
          let g = goes_by r P kept-are kept-room t (y i) (w i) (y (suc i)) m l in
          let U : Transition A r.s codes (old i * 16777216 + w i * 65536 + old (suc i))
          = transition-by (old i) (w i) (old (suc i)) (low i) g.1 (low (suc i)) refl (rw (same i, same (suc i)) at g.0) in
          (old i * 16777216 + w i * 65536 + old (suc i), (L.transitions_are _).1 U, taken-apart r P L room _ U)

  -- ---- demand 3

  pub kept-demand3 : Demand3 r codes ts → Demand3 r kept (transitions_of A r.s kept)
  kept-demand3 D = record {
    exact = λ lead cycle W. let k = D.exact lead cycle W in (
      λ a. let (x, R) = k.0 a in let (y, T, e) = survives _ x R in (y, T),
      λ R. let (x, T, e) = comes-from _ R.0 R.1 in k.1 (x, T),
    );
    unambiguous = λ w y z R T i.
        let (x, U, e) = comes-from w y R in
        let (v, W, f) = comes-from w z T in
        asc-inj kept kept-are.codes_ascend (y i) (z i) (R.run.within i) (T.run.within i) (e i ∙ ap (λ (k : ℕ). get_or codes k 0) (D.unambiguous w x v U W i) ∙ sym (f i));
  }
