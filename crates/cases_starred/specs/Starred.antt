-- The starred cases of 01, 1 to 9.
use Rattle.std.specs.Prelude.{Bool, true, false, List, [], ◌∷◌, ℕ, ◌+◌, ◌*◌}
use Rattle.cases_starred.specs.Files.{F, D, E, I, Z}
use Rattle.cases_starred.specs.Case.{Line, unsaid, from, builds, judges, Case}

-- an m line without its number: the code, whether it is initial, whether it is accepting
abbrev pub m : ℕ → Bool → Bool → Line
m code initial accepting = record { code = code; initial = initial; accepting = accepting }

-- a t line: "source × 16777216 + letter × 65536 + target"
abbrev pub t : ℕ → ℕ → ℕ → ℕ
t source letter target = source * 16777216 + letter * 65536 + target

-- "F builds as above."
unfoldable pub case1 : Case
case1 = record {
  file = F;
  expected = builds 3 7
      (m 0 false true ∷ m 257 true true ∷ m 17592186044673 false false ∷ [])
      (t 0 0 0 ∷ t 1 0 2 ∷ t 1 1 0 ∷ t 1 1 2 ∷ t 2 0 2 ∷ t 2 1 0 ∷ t 2 1 1 ∷ []);
}

-- "D builds 13 and 26."
unfoldable pub case2 : Case
case2 = record {
  file = D;
  expected = builds 13 26
      (m 0 false true ∷ m 257 true true ∷ m 4098 false true ∷ m 4355 true true ∷ m 4611 true true ∷ m 8451 true true
      ∷ m 17592186044673 false false ∷ m 17592186048514 false false ∷ m 17592186048771 false false ∷ m 17592186049027 false false ∷ m 17592186052867 false false
      ∷ m 35184372093443 false false ∷ m 35184372097283 false false ∷ [])
      (t 0 1 0 ∷ t 0 1 7 ∷ t 2 0 0 ∷ t 2 0 6 ∷ t 2 1 6 ∷ t 2 1 8 ∷ t 2 1 11 ∷ t 2 1 12 ∷ t 4 0 7 ∷ t 4 0 8 ∷ t 4 0 11 ∷ t 4 0 12
      ∷ t 7 0 0 ∷ t 7 0 1 ∷ t 7 1 6 ∷ t 7 1 8 ∷ t 7 1 10 ∷ t 7 1 11 ∷ t 9 0 2 ∷ t 9 0 3 ∷ t 9 0 4 ∷ t 9 0 5
      ∷ t 11 0 7 ∷ t 11 0 8 ∷ t 11 0 9 ∷ t 11 0 12 ∷ []);
}

-- "E: code 1, transition 0."
unfoldable pub case3 : Case
case3 = record { file = E; expected = builds 1 1 (m 1 true true ∷ []) (0 ∷ []) }

-- "Z: code 1, no transition."
unfoldable pub case4 : Case
case4 = record { file = Z; expected = builds 1 0 (m 1 true true ∷ []) [] }

-- "F, lead-in 0 1, cycle 0: yes, masks 01 01 00, run from number 1."
unfoldable pub case5 : Case
case5 = record { file = F; expected = judges (0 ∷ 1 ∷ []) (0 ∷ []) true (0x01 ∷ 0x01 ∷ 0x00 ∷ []) (from 1 257 (1 ∷ 2 ∷ []) (0 ∷ [])) }

-- "F, cycle 0: no, 00."
unfoldable pub case6 : Case
case6 = record { file = F; expected = judges [] (0 ∷ []) false (0x00 ∷ []) unsaid }

-- "I, lead-in 1, cycle 0: no, 02 00."
unfoldable pub case7 : Case
case7 = record { file = I; expected = judges (1 ∷ []) (0 ∷ []) false (0x02 ∷ 0x00 ∷ []) unsaid }

-- "I, cycle 0 1: yes, 03 03."
unfoldable pub case8 : Case
case8 = record { file = I; expected = judges [] (0 ∷ 1 ∷ []) true (0x03 ∷ 0x03 ∷ []) unsaid }

-- "D, cycle 0: yes, 03, run from number 4, code 4611."
unfoldable pub case9 : Case
case9 = record { file = D; expected = judges [] (0 ∷ []) true (0x03 ∷ []) (from 4 4611 [] (4 ∷ 11 ∷ 9 ∷ [])) }

unfoldable pub starred : List Case
starred = case1 ∷ case2 ∷ case3 ∷ case4 ∷ case5 ∷ case6 ∷ case7 ∷ case8 ∷ case9 ∷ []
