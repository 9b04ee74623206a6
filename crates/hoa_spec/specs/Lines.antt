-- The lines of a text in the Hanoi Omega-Automata format, version 1, as ASCII. Each ends in a newline.
use Rattle.std.specs.Prelude.{Bool, cond, List, [], ◌∷◌, ◌++◌, ℕ, zero, suc, ◌^◌, leb}
use Rattle.sets.specs.Tests.{first}
use Rattle.sets.specs.Masks.{bit}
use Rattle.slice_text.specs.Decimal.{digit, word}
use Rattle.listing_lines_spec.specs.Lines.{newline}

-- `HOA: v1`
abbrev pub hoa_line : List ℕ
hoa_line = 72 ∷ 79 ∷ 65 ∷ 58 ∷ 32 ∷ 118 ∷ 49 ∷ 10 ∷ []

-- `States: 3`
unfoldable pub states_line : ℕ → List ℕ
states_line states = (83 ∷ 116 ∷ 97 ∷ 116 ∷ 101 ∷ 115 ∷ 58 ∷ []) ++ (word states ++ newline)

-- 02: "a start line for each initial macrostate": `Start: 1`
unfoldable pub start_line : ℕ → List ℕ
start_line number = (83 ∷ 116 ∷ 97 ∷ 114 ∷ 116 ∷ 58 ∷ []) ++ (word number ++ newline)

-- 02: "the fewest propositions that can tell s letters apart": the least b with s ≤ 2 to the power b, for at most 16 letters
unfoldable pub propositions : ℕ → ℕ
propositions s = first 5 (λ b. leb s (2 ^ b)) 0

-- the names of b propositions, each after a blank: ` "e0" "e1"`
unfoldable pub names : ℕ → List ℕ
names zero = []
names (suc b) = names b ++ (32 ∷ 34 ∷ 101 ∷ digit b ∷ 34 ∷ [])

-- `AP: 1 "e0"`
unfoldable pub ap_line : ℕ → List ℕ
ap_line b = (65 ∷ 80 ∷ 58 ∷ []) ++ (word b ++ (names b ++ newline))

-- 02: "Büchi acceptance on states": `acc-name: Buchi`, `Acceptance: 1 Inf(0)`, `properties: trans-labels explicit-labels state-acc`; then `--BODY--`
abbrev pub acceptance_lines : List ℕ
acceptance_lines =
    97 ∷ 99 ∷ 99 ∷ 45 ∷ 110 ∷ 97 ∷ 109 ∷ 101 ∷ 58 ∷ 32 ∷ 66 ∷ 117 ∷ 99 ∷ 104 ∷ 105 ∷ 10
    ∷ 65 ∷ 99 ∷ 99 ∷ 101 ∷ 112 ∷ 116 ∷ 97 ∷ 110 ∷ 99 ∷ 101 ∷ 58 ∷ 32 ∷ 49 ∷ 32 ∷ 73 ∷ 110 ∷ 102 ∷ 40 ∷ 48 ∷ 41 ∷ 10
    ∷ 112 ∷ 114 ∷ 111 ∷ 112 ∷ 101 ∷ 114 ∷ 116 ∷ 105 ∷ 101 ∷ 115 ∷ 58 ∷ 32 ∷ 116 ∷ 114 ∷ 97 ∷ 110 ∷ 115 ∷ 45 ∷ 108 ∷ 97 ∷ 98 ∷ 101 ∷ 108 ∷ 115
    ∷ 32 ∷ 101 ∷ 120 ∷ 112 ∷ 108 ∷ 105 ∷ 99 ∷ 105 ∷ 116 ∷ 45 ∷ 108 ∷ 97 ∷ 98 ∷ 101 ∷ 108 ∷ 115 ∷ 32 ∷ 115 ∷ 116 ∷ 97 ∷ 116 ∷ 101 ∷ 45 ∷ 97 ∷ 99 ∷ 99 ∷ 10
    ∷ 45 ∷ 45 ∷ 66 ∷ 79 ∷ 68 ∷ 89 ∷ 45 ∷ 45 ∷ 10 ∷ []

-- ` {0}` where a macrostate is accepting
abbrev pub acceptance_mark : Bool → List ℕ
acceptance_mark accepting = cond accepting (32 ∷ 123 ∷ 48 ∷ 125 ∷ []) []

-- `State: 0 {0}`
unfoldable pub state_line : ℕ → Bool → List ℕ
state_line number accepting = (83 ∷ 116 ∷ 97 ∷ 116 ∷ 101 ∷ 58 ∷ []) ++ (word number ++ (acceptance_mark accepting ++ newline))

-- proposition i where bit i of the letter is set, else `!` before it
unfoldable pub literal : ℕ → ℕ → List ℕ
literal letter i = cond (bit letter i) (digit i ∷ []) (33 ∷ digit i ∷ [])

-- 02: "valuations of the fewest propositions .., e0 being the lowest bit; a single letter has the label t": `!0&1` for letter 2 of 4
unfoldable pub label : ℕ → ℕ → List ℕ
label zero letter = 116 ∷ []
label (suc zero) letter = literal letter 0
label (suc (suc b)) letter = label (suc b) letter ++ (38 ∷ literal letter (suc b))

-- 02: "one edge line per transition": `[!0&1] 5`
unfoldable pub edge_line : ℕ → ℕ → ℕ → List ℕ
edge_line b letter target = (91 ∷ []) ++ (label b letter ++ ((93 ∷ []) ++ (word target ++ newline)))

-- `--END--`
abbrev pub end_line : List ℕ
end_line = 45 ∷ 45 ∷ 69 ∷ 78 ∷ 68 ∷ 45 ∷ 45 ∷ 10 ∷ []
