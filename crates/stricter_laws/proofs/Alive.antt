-- What is alive depends on the core alone.
use mathlib.Core.Path.{refl, ◌∙◌}
use mathlib.Core.Logic.{◌↔◌}
use Prim.Native.Nat.{ℕ, ◌≤◌}
use native.Mathlib.Omega.{arith}
use Rattle.theory.specs.Automaton.{Automaton, automaton}
use Rattle.theory.specs.Macrostate.{Macrostate}
use Rattle.theory.specs.Passing.{Passing}
use Rattle.theory.specs.Rule.{Rule}
use Rattle.theory.specs.Word.{letters}
use Rattle.theory_laws.proofs.Layers.{layered, few-in-all}
use Rattle.theory_laws.proofs.Tables.{few_states}
use Rattle.trim_spec.specs.Matters.{Matters}
use Rattle.spare_spec.specs.Spare.{Steps, SameCore, LiveCore}
use Rattle.stricter_laws.proofs.Again.{accepts-iff}
use Rattle.stricter_laws.proofs.Along.{same_self, same-sym, again-same, along, along-cores, along-steps}

module _ {r : Rule} (P : Passing r) where
  abbrev A : Automaton
  A = automaton r

  few : A.components ≤ 16
  unfolding automaton
  few = let h = few-in-all r P in omega arith

  core-alive : {code : ℕ} → Matters r code → LiveCore r code
  core-alive {code = code} M =
      let R : Steps A (letters M.lead M.cycle) M.run = record { macrostate = M.goes_on.macrostate; steps = M.goes_on.steps } in
      record {
        lead = M.lead;
        cycle = M.cycle;
        word = M.word;
        cores = M.run;
        begins = rw M.begins (same_self code);
        steps = record { level = λ i. (R.steps i).level; earlier = λ i. (R.steps i).earlier };
        spares = (accepts-iff (layered r P) R).0 M.goes_on.again;
      }

  alive-core : {code : ℕ} → Macrostate A code → LiveCore r code → Matters r code
  unfolding along
  alive-core M L =
      let w = letters L.lead L.cycle in
      let run = along (layered r P) (few_states r P) few L.steps L.begins M in
      let R = along-steps (layered r P) (few_states r P) few L.steps L.begins M in
      let same = along-cores (layered r P) (few_states r P) few L.steps L.begins M in
      record {
        lead = L.lead;
        cycle = L.cycle;
        word = L.word;
        run = run;
        begins = refl;
        goes_on = record {
          macrostate = R.macrostate;
          steps = R.steps;
          again = (accepts-iff (layered r P) R).1 (again-same w L.cores run same L.spares);
        };
      }

  -- an accepting run on some lead-in and cycle goes on from a macrostate exactly if its core is alive
  pub matters-by-core : (code : ℕ) → Macrostate A code → Matters r code ↔ LiveCore r code
  matters-by-core code M = (core-alive, alive-core M)

  -- which says nothing of K and k: macrostates of the same core matter together
  pub matters-same : (c d : ℕ) → Macrostate A c → Macrostate A d → SameCore A c d → Matters r c ↔ Matters r d
  matters-same c d M N s = (λ h. alive-core N (moved c d s (core-alive h)), λ h. alive-core M (moved d c (same-sym s) (core-alive h)))
    where
      moved : (x y : ℕ) → SameCore A x y → LiveCore r x → LiveCore r y
      moved x y s L = record {
        lead = L.lead;
        cycle = L.cycle;
        word = L.word;
        cores = L.cores;
        begins = record { sets = λ q l. L.begins.sets q l ∙ s.sets q l; ranks = λ q l. L.begins.ranks q l ∙ s.ranks q l };
        steps = L.steps;
        spares = L.spares;
      }
