-- The lengths of the lines.
use mathlib.Core.Path.{◌≡◌}
use mathlib.Core.Bool.{Bool}
use mathlib.Core.List.{List, [], ◌∷◌, ◌++◌}
use Prim.Native.Nat.{ℕ, ◌+◌}
use native.Mathlib.Omega.{arith}
use lib.ListN.{length, length-append}
use Rattle.sets.specs.Tests.{Set}
use Rattle.slice_text.specs.Decimal.{word}
use Rattle.listing_lines_spec.specs.Lines.{newline, mark, built_line, m_line, t_line, n_line, refused_line, name_lines, macrostate_lines, transition_lines, table_text}

pub built-length : (m t : ℕ) → length (built_line m t) ≡ length (word m) + length (word t) + 6
unfolding built_line
built-length m t = omega (arith, length-append (word m) (word t ++ newline), length-append (word t) newline)

pub m-length : (number code : ℕ) (initial accepting : Bool) → length (m_line number code initial accepting) ≡ length (word number) + length (word code) + 6
unfolding m_line
m-length number code initial accepting =
    omega (arith, length-append (word number) (word code ++ (mark initial 105 ++ (mark accepting 97 ++ newline))), length-append (word code) (mark initial 105 ++ (mark accepting 97 ++ newline)))

pub t-length : (source letter target : ℕ) → length (t_line source letter target) ≡ length (word source) + length (word letter) + length (word target) + 2
unfolding t_line
t-length source letter target =
    omega (arith, length-append (word source) (word letter ++ (word target ++ newline)), length-append (word letter) (word target ++ newline), length-append (word target) newline)

pub refused-length : (row : ℕ) → length (refused_line row) ≡ length (word row) + 8
unfolding refused_line
refused-length row = omega (arith, length-append (word row) newline)

pub n-length : (letter : ℕ) (name : List ℕ) → length (n_line letter name) ≡ length (word letter) + length name + 3
unfolding n_line
n-length letter name = omega (arith, length-append (word letter) ((32 ∷ []) ++ (name ++ newline)), length-append name newline)

pub table-length : (initial : Set) (names codes moves : List ℕ)
    → length (table_text initial names codes moves) ≡ length (built_line (length codes) (length moves)) + length (name_lines names) + length (macrostate_lines initial codes) + length
    (transition_lines moves)
unfolding table_text
table-length initial names codes moves = omega (
  arith,
  length-append (built_line (length codes) (length moves)) (name_lines names ++ (macrostate_lines initial codes ++ transition_lines moves)),
  length-append (name_lines names) (macrostate_lines initial codes ++ transition_lines moves),
  length-append (macrostate_lines initial codes) (transition_lines moves),
)
