-- The text of a table. 02, M-100: "Write a built table as such a text".
use Rattle.std.specs.Prelude.{cond, List, [], ◌∷◌, ◌++◌, ℕ, ◌+◌, ◌*◌, eqb, length}
use Rattle.sets.specs.Tests.{Set, one}
use Rattle.sets.specs.Masks.{bit}
use Rattle.sets.specs.Lists.{keep}
use Rattle.theory.specs.Macrostate.{is_accepting_lem}
use Rattle.theory.specs.Run.{source_of, letter_of_lem, target_of}
use Rattle.listing_lines_spec.specs.Lines.{initial_at, lines}
use Rattle.hoa_spec.specs.Lines.{hoa_line, states_line, start_line, propositions, ap_line, acceptance_lines, state_line, edge_line, end_line}

-- 02: "flags (a byte each, 1 initial plus 2 accepting)"; the test says which codes are initial
unfoldable pub flag_of_lem : Set → ℕ → ℕ
flag_of_lem initial code = one (initial code) + 2 * one (is_accepting_lem code)

unfoldable pub flags_of : Set → List ℕ → List ℕ
flags_of initial [] = []
flags_of initial (code ∷ codes) = flag_of_lem initial code ∷ flags_of initial codes

-- the start line of a macrostate by its number and flags, where it has one
unfoldable pub start_of : ℕ → ℕ → List ℕ
start_of number flags = cond (bit flags 0) (start_line number) []

-- the state line of a macrostate by its number and flags
abbrev pub state_of : ℕ → ℕ → List ℕ
state_of number flags = state_line number (bit flags 1)

-- the edge line of a transition
abbrev pub edge_of : ℕ → ℕ → ℕ → List ℕ
edge_of b i t = edge_line b (letter_of_lem t) (target_of t)

-- the transitions from a number, in their order
unfoldable pub leaving : List ℕ → ℕ → List ℕ
leaving transitions number = keep (λ t. eqb (source_of t) number) transitions

-- the lines of a macrostate: its state line, then "one edge line per transition" from it
unfoldable pub block_of : ℕ → List ℕ → ℕ → ℕ → List ℕ
block_of b transitions number flags = state_of number flags ++ lines (edge_of b) 0 (leaving transitions number)

-- the text of a table by the number of its propositions, its flags and its transitions
unfoldable pub automaton_text : ℕ → List ℕ → List ℕ → List ℕ
automaton_text b flags transitions =
    hoa_line
    ++ (states_line (length flags)
    ++ (lines start_of 0 flags
    ++ (ap_line b
    ++ (acceptance_lines
    ++ (lines (block_of b transitions) 0 flags
    ++ end_line)))))

-- the text of a table under a rule of s letters with this initial state
unfoldable pub text_of : ℕ → ℕ → List ℕ → List ℕ → List ℕ
text_of s initial codes transitions = automaton_text (propositions s) (flags_of (initial_at initial) codes) transitions
