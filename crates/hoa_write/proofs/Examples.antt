-- The rows of the writer on examples.
use mathlib.Core.Path.{◌≡◌, refl}
use mathlib.Core.List.{List, [], ◌∷◌}
use Prim.Native.Nat.{ℕ}
use Rattle.sets.specs.Tests.{first}
use Rattle.sets.specs.Masks.{bit}
use Rattle.sets.specs.Lists.{any_of, keep}
use Rattle.refusals.specs.Rows.{first_row}
use Rattle.theory.specs.Code.{component_in, classes_in}
use Rattle.theory.specs.Macrostate.{begun, is_accepting_lem}
use Rattle.slice_search.specs.Places.{ascends, ascends_from}
use Rattle.slice_text.specs.Decimal.{digits_in, decimal, word}
use Rattle.listing_lines_spec.specs.Lines.{lines}
use Rattle.table_lent.specs.Lent.{in_words, is_faulty_lem, table_rows_lem}
use Rattle.hoa_spec.specs.Lines.{states_line, start_line, propositions, names, ap_line, state_line, literal, label, edge_line}
use Rattle.hoa_spec.specs.Text.{flag_of_lem, flags_of, start_of, leaving, block_of, automaton_text, text_of}
use Rattle.file_write_spec.specs.Written.{after}
use Rattle.hoa_write.specs.Written.{text_rows, text_row}

-- what an evaluation unfolds
unfoldable computed : ℕ
unfolding text_row text_rows table_rows_lem first_row in_words is_faulty_lem ascends ascends_from any_of first bit keep component_in classes_in begun is_accepting_lem digits_in decimal word lines states_line start_line
    propositions names ap_line state_line literal label edge_line flag_of_lem flags_of start_of leaving block_of automaton_text text_of
computed = 0

-- the row of a table under a rule of two letters with initial state 0
abbrev row : List ℕ → List ℕ → ℕ → ℕ
row codes transitions room = text_row 2 0 (in_words codes) (in_words transitions) room

-- F's text has 223 bytes
pub room-222 : row (0 ∷ 257 ∷ 17592186044673 ∷ []) (0 ∷ 16777218 ∷ 16842752 ∷ 16842754 ∷ 33554434 ∷ 33619968 ∷ 33619969 ∷ []) 222 ≡ 16
unfolding computed
room-222 = refl

pub room-223 : row (0 ∷ 257 ∷ 17592186044673 ∷ []) (0 ∷ 16777218 ∷ 16842752 ∷ 16842754 ∷ 33554434 ∷ 33619968 ∷ 33619969 ∷ []) 223 ≡ 0
unfolding computed
room-223 = refl

-- the table is tried before the slice
pub table-first : row (5 ∷ 5 ∷ []) [] 0 ≡ 15
unfolding computed
table-first = refl

-- served: the text, then what was there; refused: as it was
pub slice-left : (after 0 (7 ∷ []) (1 ∷ 2 ∷ []) ≡ 7 ∷ 2 ∷ []) × (after 16 (7 ∷ []) (1 ∷ 2 ∷ []) ≡ 1 ∷ 2 ∷ [])
unfolding after
slice-left = (refl, refl)
