-- A code has no bit above 47, so the marks have room there.
use Prim.Native.Nat.{ℕ, ◌^◌, ◌<◌}
use native.Mathlib.Omega.{arith}
use borrow.Author.Tests.{eqb-true}
use Rattle.sets.proofs.Digits.{num-lt}
use Rattle.sets.proofs.Masks.{mask_lt}
use Rattle.theory.specs.Automaton.{Automaton}
use Rattle.theory.specs.Code.{fields, pack, component_in, classes_in, set_in, rank_in, well_coded}
use Rattle.theory.specs.Macrostate.{Macrostate}
use Rattle.theory_laws.proofs.Goes.{rank-small, component-small, classes-small}
use Rattle.theory_laws.proofs.Packing.{fields-small}

module _ (A : Automaton) (c : ℕ) where
  field-small : (j : ℕ) → fields (rank_in A c) (component_in c) (classes_in c) j < 16
  field-small = fields-small (rank_in A c) (component_in c) (classes_in c) (λ q. omega (arith, rank-small A c q)) (component-small c) (classes-small c)

  packed-small : pack (set_in A c) (rank_in A c) (component_in c) (classes_in c) < 2 ^ 48
  unfolding pack
  packed-small =
      omega (arith, num-lt 16 (omega arith) 10 (fields (rank_in A c) (component_in c) (classes_in c)) (λ j l. field-small j), mask_lt 8 (set_in A c))

  pub narrow : Macrostate A c → c < 2 ^ 48
  unfolding well_coded
  narrow M = let e = eqb-true (pack (set_in A c) (rank_in A c) (component_in c) (classes_in c)) c M.coded in let l = packed-small in omega arith
