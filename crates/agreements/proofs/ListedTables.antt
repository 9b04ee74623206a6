-- A table of reachable macrostates and their steps passes row 15.
use mathlib.Core.Path.{◌≡◌, refl}
use mathlib.Core.List.{List}
use Prim.Native.Nat.{ℕ, ◌≤◌}
use lib.ListN.{length}
use Rattle.theory.specs.Automaton.{automaton}
use Rattle.theory.specs.Macrostate.{holds_initial, Reachable}
use Rattle.theory.specs.Passing.{Passing}
use Rattle.theory.specs.Rule.{Rule}
use Rattle.theory.specs.Table.{Listed}
use Rattle.theory_laws.proofs.Layers.{layered}
use Rattle.theory_laws.proofs.Tables.{few_states, components-there, reachable-macrostate, in-range}
use Rattle.table_lent.specs.Lent.{in_words, table_row_lem}
use Rattle.table_rows.specs.Passed.{Passed}
use Rattle.table_rows.proofs.Passed.{passes}
use Rattle.theory_laws.proofs.Narrow.{narrow}

module _ (r : Rule) (P : Passing r) {kind : ℕ → Type 0} {codes ts : List ℕ} (L : Listed r kind codes ts) (room : length codes ≤ 65536)
    (reachable : (c : ℕ) → kind c → Reachable (automaton r) r.s (holds_initial r) c) where
  pub listed-passes : Passed r.s codes ts
  listed-passes = record {
    few = room;
    codes_ascend = L.codes_ascend;
    transitions_ascend = L.transitions_ascend;
    narrow = λ c m. narrow (automaton r) c (reachable-macrostate (automaton r) (layered r P) (few_states r P) (components-there r P) r.s (holds_initial r) (reachable c ((L.codes_are c).0 m)));
    source = λ t m. (in-range r P L room t m).source;
    letter = λ t m. (in-range r P L room t m).letter;
    target = λ t m. (in-range r P L room t m).target;
  }

  pub listed-served : table_row_lem r.s (in_words codes) (in_words ts) ≡ 0
  unfolding in_words
  listed-served = passes r.s (in_words codes) (in_words ts) refl refl listed-passes
