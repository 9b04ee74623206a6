-- Lines and texts, computed from the definitions.
use mathlib.Core.Path.{◌≡◌, refl}
use mathlib.Core.List.{[], ◌∷◌}
use Prim.Native.Nat.{ℕ}
use Rattle.sets.specs.Tests.{first}
use Rattle.sets.specs.Masks.{bit}
use Rattle.sets.specs.Lists.{keep}
use Rattle.theory.specs.Code.{component_in, classes_in}
use Rattle.theory.specs.Macrostate.{begun, is_accepting_lem}
use Rattle.slice_text.specs.Decimal.{digits_in, decimal, word}
use Rattle.listing_lines_spec.specs.Lines.{initial_at, lines}
use Rattle.hoa_spec.specs.Lines.{states_line, start_line, propositions, names, ap_line, state_line, literal, label, edge_line}
use Rattle.hoa_spec.specs.Text.{flag_of_lem, flags_of, start_of, leaving, block_of, automaton_text, text_of}

-- what an evaluation unfolds
unfoldable computed : ℕ
unfolding first bit keep component_in classes_in begun is_accepting_lem digits_in decimal word lines states_line start_line propositions names ap_line state_line literal label edge_line flag_of_lem flags_of start_of
    leaving block_of automaton_text text_of
computed = 0

-- one letter needs no proposition, two need one, three and four need two, five to eight three, nine to sixteen four
pub fewest : (propositions 1 ≡ 0) × (propositions 2 ≡ 1) × (propositions 3 ≡ 2) × (propositions 4 ≡ 2) × (propositions 5 ≡ 3) × (propositions 8 ≡ 3) × (propositions 9 ≡ 4) × (propositions 16 ≡ 4)
unfolding computed
fewest = (refl, refl, refl, refl, refl, refl, refl, refl)

-- `t`, `!0` and `0`, `!0&1` for letter 2 of 4, `0&!1&2&3` for letter 13 of 16
pub labels : (label 0 0 ≡ 116 ∷ []) × (label 1 0 ≡ 33 ∷ 48 ∷ []) × (label 1 1 ≡ 48 ∷ []) × (label 2 2 ≡ 33 ∷ 48 ∷ 38 ∷ 49 ∷ []) × (label 4 13 ≡ 48 ∷ 38 ∷ 33 ∷ 49 ∷ 38 ∷ 50 ∷ 38 ∷ 51 ∷ [])
unfolding computed
labels = (refl, refl, refl, refl, refl)

-- `AP: 4 "e0" "e1" "e2" "e3"`
pub ap-4 : ap_line 4 ≡ 65 ∷ 80 ∷ 58 ∷ 32 ∷ 52 ∷ 32 ∷ 34 ∷ 101 ∷ 48 ∷ 34 ∷ 32 ∷ 34 ∷ 101 ∷ 49 ∷ 34 ∷ 32 ∷ 34 ∷ 101 ∷ 50 ∷ 34 ∷ 32 ∷ 34 ∷ 101 ∷ 51 ∷ 34 ∷ 10 ∷ []
unfolding computed
ap-4 = refl

-- the flags of F's codes: accepting; initial and accepting; neither
pub flags-F : flags_of (initial_at 0) (0 ∷ 257 ∷ 17592186044673 ∷ []) ≡ 2 ∷ 3 ∷ 0 ∷ []
unfolding computed
flags-F = refl

-- the text of F's table, line by line
pub text-F : text_of 2 0 (0 ∷ 257 ∷ 17592186044673 ∷ []) (0 ∷ 16777218 ∷ 16842752 ∷ 16842754 ∷ 33554434 ∷ 33619968 ∷ 33619969 ∷ []) ≡
    72 ∷ 79 ∷ 65 ∷ 58 ∷ 32 ∷ 118 ∷ 49 ∷ 10
    ∷ 83 ∷ 116 ∷ 97 ∷ 116 ∷ 101 ∷ 115 ∷ 58 ∷ 32 ∷ 51 ∷ 10
    ∷ 83 ∷ 116 ∷ 97 ∷ 114 ∷ 116 ∷ 58 ∷ 32 ∷ 49 ∷ 10
    ∷ 65 ∷ 80 ∷ 58 ∷ 32 ∷ 49 ∷ 32 ∷ 34 ∷ 101 ∷ 48 ∷ 34 ∷ 10
    ∷ 97 ∷ 99 ∷ 99 ∷ 45 ∷ 110 ∷ 97 ∷ 109 ∷ 101 ∷ 58 ∷ 32 ∷ 66 ∷ 117 ∷ 99 ∷ 104 ∷ 105 ∷ 10
    ∷ 65 ∷ 99 ∷ 99 ∷ 101 ∷ 112 ∷ 116 ∷ 97 ∷ 110 ∷ 99 ∷ 101 ∷ 58 ∷ 32 ∷ 49 ∷ 32 ∷ 73 ∷ 110 ∷ 102 ∷ 40 ∷ 48 ∷ 41 ∷ 10
    ∷ 112 ∷ 114 ∷ 111 ∷ 112 ∷ 101 ∷ 114 ∷ 116 ∷ 105 ∷ 101 ∷ 115 ∷ 58 ∷ 32 ∷ 116 ∷ 114 ∷ 97 ∷ 110 ∷ 115 ∷ 45 ∷ 108 ∷ 97 ∷ 98 ∷ 101 ∷ 108 ∷ 115 ∷ 32 ∷ 101 ∷ 120 ∷ 112 ∷ 108 ∷ 105 ∷ 99 ∷ 105 ∷ 116 ∷ 45
    ∷ 108 ∷ 97 ∷ 98 ∷ 101 ∷ 108 ∷ 115 ∷ 32 ∷ 115 ∷ 116 ∷ 97 ∷ 116 ∷ 101 ∷ 45 ∷ 97 ∷ 99 ∷ 99 ∷ 10
    ∷ 45 ∷ 45 ∷ 66 ∷ 79 ∷ 68 ∷ 89 ∷ 45 ∷ 45 ∷ 10
    ∷ 83 ∷ 116 ∷ 97 ∷ 116 ∷ 101 ∷ 58 ∷ 32 ∷ 48 ∷ 32 ∷ 123 ∷ 48 ∷ 125 ∷ 10
    ∷ 91 ∷ 33 ∷ 48 ∷ 93 ∷ 32 ∷ 48 ∷ 10
    ∷ 83 ∷ 116 ∷ 97 ∷ 116 ∷ 101 ∷ 58 ∷ 32 ∷ 49 ∷ 32 ∷ 123 ∷ 48 ∷ 125 ∷ 10
    ∷ 91 ∷ 33 ∷ 48 ∷ 93 ∷ 32 ∷ 50 ∷ 10
    ∷ 91 ∷ 48 ∷ 93 ∷ 32 ∷ 48 ∷ 10
    ∷ 91 ∷ 48 ∷ 93 ∷ 32 ∷ 50 ∷ 10
    ∷ 83 ∷ 116 ∷ 97 ∷ 116 ∷ 101 ∷ 58 ∷ 32 ∷ 50 ∷ 10
    ∷ 91 ∷ 33 ∷ 48 ∷ 93 ∷ 32 ∷ 50 ∷ 10
    ∷ 91 ∷ 48 ∷ 93 ∷ 32 ∷ 48 ∷ 10
    ∷ 91 ∷ 48 ∷ 93 ∷ 32 ∷ 49 ∷ 10
    ∷ 45 ∷ 45 ∷ 69 ∷ 78 ∷ 68 ∷ 45 ∷ 45 ∷ 10 ∷ []
unfolding computed
text-F = refl

-- the text of an empty table under a rule of one letter
pub text-empty : text_of 1 0 [] [] ≡
    72 ∷ 79 ∷ 65 ∷ 58 ∷ 32 ∷ 118 ∷ 49 ∷ 10
    ∷ 83 ∷ 116 ∷ 97 ∷ 116 ∷ 101 ∷ 115 ∷ 58 ∷ 32 ∷ 48 ∷ 10
    ∷ 65 ∷ 80 ∷ 58 ∷ 32 ∷ 48 ∷ 10
    ∷ 97 ∷ 99 ∷ 99 ∷ 45 ∷ 110 ∷ 97 ∷ 109 ∷ 101 ∷ 58 ∷ 32 ∷ 66 ∷ 117 ∷ 99 ∷ 104 ∷ 105 ∷ 10
    ∷ 65 ∷ 99 ∷ 99 ∷ 101 ∷ 112 ∷ 116 ∷ 97 ∷ 110 ∷ 99 ∷ 101 ∷ 58 ∷ 32 ∷ 49 ∷ 32 ∷ 73 ∷ 110 ∷ 102 ∷ 40 ∷ 48 ∷ 41 ∷ 10
    ∷ 112 ∷ 114 ∷ 111 ∷ 112 ∷ 101 ∷ 114 ∷ 116 ∷ 105 ∷ 101 ∷ 115 ∷ 58 ∷ 32 ∷ 116 ∷ 114 ∷ 97 ∷ 110 ∷ 115 ∷ 45 ∷ 108 ∷ 97 ∷ 98 ∷ 101 ∷ 108 ∷ 115 ∷ 32 ∷ 101 ∷ 120 ∷ 112 ∷ 108 ∷ 105 ∷ 99 ∷ 105 ∷ 116 ∷ 45
    ∷ 108 ∷ 97 ∷ 98 ∷ 101 ∷ 108 ∷ 115 ∷ 32 ∷ 115 ∷ 116 ∷ 97 ∷ 116 ∷ 101 ∷ 45 ∷ 97 ∷ 99 ∷ 99 ∷ 10
    ∷ 45 ∷ 45 ∷ 66 ∷ 79 ∷ 68 ∷ 89 ∷ 45 ∷ 45 ∷ 10
    ∷ 45 ∷ 45 ∷ 69 ∷ 78 ∷ 68 ∷ 45 ∷ 45 ∷ 10 ∷ []
unfolding computed
text-empty = refl
