-- What the first pass over a text finds.
use Rattle.std.specs.Prelude.{◌≡◌, List, ◌++◌, ℕ, ◌≤◌, ◌<◌, length, drop}
use Rattle.listing_lines_spec.specs.Lines.{lines}
use Rattle.hoa_spec.specs.Lines.{hoa_line, states_line, ap_line, acceptance_lines, end_line}
use Rattle.hoa_spec.specs.Text.{start_of, block_of, automaton_text}
use Rattle.hoa_spec.specs.Shape.{Shaped}
use Rattle.hoa_laws.specs.Parts.{Starting}

-- no flags and transitions of the shape have the text
abbrev pub NoShape : List ℕ → Type 0
NoShape text = (b : ℕ) (flags transitions : List ℕ) → Shaped b flags transitions → text ≡ automaton_text b flags transitions → ⊥

-- the lines before those of the macrostates: the start lines stand from place starts up to place low, and the macrostates from place blocks on
pub record HeadOf (text : List ℕ) (n b last starts blocks : ℕ) : Type 0 where
  pub few : n ≤ 65536
  pub propositions : b ≤ 4
  pub within : starts ≤ length text
  pub goes_on : blocks ≤ length text
  pub low : ℕ
  pub initial : List ℕ
  pub read : Starting text starts n n initial last low
  pub high_text : text ≡ hoa_line ++ (states_line n ++ drop starts text)
  pub low_text : drop low text ≡ ap_line b ++ (acceptance_lines ++ drop blocks text)

-- the text of flags and transitions of the shape
pub record Whole (text : List ℕ) (n b accepting m starts blocks : ℕ) : Type 0 where
  pub flags : List ℕ
  pub moves : List ℕ
  pub shaped : Shaped b flags moves
  pub first : accepting ≡ shaped.marked.accepting
  pub macrostates : n ≡ length flags
  pub transitions : m ≡ length moves
  pub text_is : text ≡ automaton_text b flags moves
  pub within : starts ≤ length text
  pub some : 0 < blocks
  pub goes_on : blocks ≤ length text
  pub high : drop starts text ≡ lines start_of 0 flags ++ (ap_line b ++ (acceptance_lines ++ (lines (block_of b moves) 0 flags ++ end_line)))
  pub body : drop blocks text ≡ lines (block_of b moves) 0 flags ++ end_line

pub record Surveyed (text : List ℕ) (n b accepting m starts blocks end : ℕ) : Type 0 where
  pub found : 0 < end → Whole text n b accepting m starts blocks
  pub absent : end ≡ 0 → NoShape text
