-- The lines of a listing, as ASCII. Each ends in a newline.
use Rattle.std.specs.Prelude.{Bool, cond, List, [], ◌∷◌, ◌++◌, ℕ, suc, ◌*◌, ◌/◌, length, take, drop}
use Rattle.sets.specs.Tests.{Set}
use Rattle.sets.specs.Masks.{bit}
use Rattle.sets.specs.Lists.{tabulate}
use Rattle.theory.specs.Macrostate.{begun, is_accepting_lem}
use Rattle.theory.specs.Run.{source_of, letter_of_lem, target_of}
use Rattle.slice_text.specs.Decimal.{word}

abbrev pub newline : List ℕ
newline = 10 ∷ []

-- the letter, or a `-` where not
abbrev pub sign : Bool → ℕ → ℕ
sign holds letter = cond holds letter 45

-- a blank and the letter, or a blank and a `-`
abbrev pub mark : Bool → ℕ → List ℕ
mark holds letter = 32 ∷ sign holds letter ∷ []

-- 01: "Line one: macrostates, transitions." `built 3 7`
unfoldable pub built_line : ℕ → ℕ → List ℕ
built_line macrostates transitions = (98 ∷ 117 ∷ 105 ∷ 108 ∷ 116 ∷ []) ++ (word macrostates ++ (word transitions ++ newline))

-- 01: "An m line: number, code, i if initial, a if accepting." `m 1 257 i a`
unfoldable pub m_line : ℕ → ℕ → Bool → Bool → List ℕ
m_line number code initial accepting = (109 ∷ []) ++ (word number ++ (word code ++ (mark initial 105 ++ (mark accepting 97 ++ newline))))

-- 01: "A t line: source, letter, target." `t 1 0 2`
unfoldable pub t_line : ℕ → ℕ → ℕ → List ℕ
t_line source letter target = (116 ∷ []) ++ (word source ++ (word letter ++ (word target ++ newline)))

-- 02: "a line `n`, letter, name for each letter": `n 1 STOP    `, all 8 bytes of the name as they are
unfoldable pub n_line : ℕ → List ℕ → List ℕ
n_line letter name = (110 ∷ []) ++ (word letter ++ ((32 ∷ []) ++ (name ++ newline)))

-- 01: "a refusal prints `refused` and the number"
unfoldable pub refused_line : ℕ → List ℕ
refused_line row = (114 ∷ 101 ∷ 102 ∷ 117 ∷ 115 ∷ 101 ∷ 100 ∷ []) ++ (word row ++ newline)

-- 01: "prints `long`"
abbrev pub long_line : List ℕ
long_line = 108 ∷ 111 ∷ 110 ∷ 103 ∷ newline

-- the lines of the members of a list, numbered from i on
unfoldable pub lines : (ℕ → ℕ → List ℕ) → ℕ → List ℕ → List ℕ
lines line i [] = []
lines line i (x ∷ xs) = line i x ++ lines line (suc i) xs

-- initial, where q is the rule's initial state: `is_initial_lem` of theory/specs/Macrostate
abbrev pub initial_at : ℕ → Set
initial_at q = begun (λ c. bit c q)

-- the m lines of codes, numbered from 0; the test says which are initial
abbrev pub macrostate_line : Set → ℕ → ℕ → List ℕ
macrostate_line initial i c = m_line i c (initial c) (is_accepting_lem c)

abbrev pub macrostate_lines : Set → List ℕ → List ℕ
macrostate_lines initial codes = lines (macrostate_line initial) 0 codes

-- the t lines of packed transitions
abbrev pub transition_line : ℕ → ℕ → List ℕ
transition_line i t = t_line (source_of t) (letter_of_lem t) (target_of t)

abbrev pub transition_lines : List ℕ → List ℕ
transition_lines transitions = lines transition_line 0 transitions

-- the n lines of names, 8 bytes a letter
abbrev pub letters_of : List ℕ → List ℕ
letters_of names = tabulate (length names / 8) (λ a. a) 0

abbrev pub name_line : List ℕ → ℕ → ℕ → List ℕ
name_line names i a = n_line i (take 8 (drop (8 * i) names))

abbrev pub name_lines : List ℕ → List ℕ
name_lines names = lines (name_line names) 0 (letters_of names)

-- the lines of a table: line one with both counts, "right after line one" the names, then the macrostates, then the transitions;
-- the test says which codes are initial
unfoldable pub table_text : Set → List ℕ → List ℕ → List ℕ → List ℕ
table_text initial names codes moves =
    built_line (length codes) (length moves) ++ (name_lines names ++ (macrostate_lines initial codes ++ transition_lines moves))
