-- Lines, computed from the definitions.
use mathlib.Core.Path.{◌≡◌, refl}
use mathlib.Core.List.{[], ◌∷◌}
use Prim.Native.Nat.{ℕ}
use Rattle.sets.specs.Masks.{bit}
use Rattle.sets.specs.Lists.{tabulate}
use Rattle.theory.specs.Code.{component_in, classes_in}
use Rattle.theory.specs.Examples.{F}
use Rattle.theory.specs.Macrostate.{begun, is_initial_lem, is_accepting_lem}
use Rattle.slice_text.specs.Decimal.{digits_in, decimal, word}
use Rattle.listing_lines_spec.specs.Lines.{built_line, m_line, t_line, n_line, refused_line, lines, table_text}

-- what an evaluation unfolds
unfoldable computed : ℕ
unfolding decimal digits_in word built_line m_line t_line n_line refused_line lines table_text tabulate begun is_accepting_lem component_in classes_in bit
computed = 0

-- `refused 17`
pub refused-17 : refused_line 17 ≡ 114 ∷ 101 ∷ 102 ∷ 117 ∷ 115 ∷ 101 ∷ 100 ∷ 32 ∷ 49 ∷ 55 ∷ 10 ∷ []
unfolding computed
refused-17 = refl

-- 01's listing of F, from its codes and transitions, line by line
pub table-F : table_text (is_initial_lem F) [] (0 ∷ 257 ∷ 17592186044673 ∷ []) (0 ∷ 16777218 ∷ 16842752 ∷ 16842754 ∷ 33554434 ∷ 33619968 ∷ 33619969 ∷ []) ≡
    98 ∷ 117 ∷ 105 ∷ 108 ∷ 116 ∷ 32 ∷ 51 ∷ 32 ∷ 55 ∷ 10
    ∷ 109 ∷ 32 ∷ 48 ∷ 32 ∷ 48 ∷ 32 ∷ 45 ∷ 32 ∷ 97 ∷ 10
    ∷ 109 ∷ 32 ∷ 49 ∷ 32 ∷ 50 ∷ 53 ∷ 55 ∷ 32 ∷ 105 ∷ 32 ∷ 97 ∷ 10
    ∷ 109 ∷ 32 ∷ 50 ∷ 32 ∷ 49 ∷ 55 ∷ 53 ∷ 57 ∷ 50 ∷ 49 ∷ 56 ∷ 54 ∷ 48 ∷ 52 ∷ 52 ∷ 54 ∷ 55 ∷ 51 ∷ 32 ∷ 45 ∷ 32 ∷ 45 ∷ 10
    ∷ 116 ∷ 32 ∷ 48 ∷ 32 ∷ 48 ∷ 32 ∷ 48 ∷ 10
    ∷ 116 ∷ 32 ∷ 49 ∷ 32 ∷ 48 ∷ 32 ∷ 50 ∷ 10
    ∷ 116 ∷ 32 ∷ 49 ∷ 32 ∷ 49 ∷ 32 ∷ 48 ∷ 10
    ∷ 116 ∷ 32 ∷ 49 ∷ 32 ∷ 49 ∷ 32 ∷ 50 ∷ 10
    ∷ 116 ∷ 32 ∷ 50 ∷ 32 ∷ 48 ∷ 32 ∷ 50 ∷ 10
    ∷ 116 ∷ 32 ∷ 50 ∷ 32 ∷ 49 ∷ 32 ∷ 48 ∷ 10
    ∷ 116 ∷ 32 ∷ 50 ∷ 32 ∷ 49 ∷ 32 ∷ 49 ∷ 10 ∷ []
unfolding computed
table-F = refl

-- a table of no macrostate with two names, GO and STOP, right after line one, letter 0 first
pub table-names : table_text (is_initial_lem F) (71 ∷ 79 ∷ 32 ∷ 32 ∷ 32 ∷ 32 ∷ 32 ∷ 32 ∷ 83 ∷ 84 ∷ 79 ∷ 80 ∷ 32 ∷ 32 ∷ 32 ∷ 32 ∷ []) [] [] ≡
    98 ∷ 117 ∷ 105 ∷ 108 ∷ 116 ∷ 32 ∷ 48 ∷ 32 ∷ 48 ∷ 10
    ∷ 110 ∷ 32 ∷ 48 ∷ 32 ∷ 71 ∷ 79 ∷ 32 ∷ 32 ∷ 32 ∷ 32 ∷ 32 ∷ 32 ∷ 10
    ∷ 110 ∷ 32 ∷ 49 ∷ 32 ∷ 83 ∷ 84 ∷ 79 ∷ 80 ∷ 32 ∷ 32 ∷ 32 ∷ 32 ∷ 10 ∷ []
unfolding computed
table-names = refl
