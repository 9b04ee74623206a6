-- The text of a table that row 15 lets through: where it stands in a slice, and that its length is at most the bound.
use mathlib.Core.Path.{◌≡◌, sym, ap}
use mathlib.Core.List.{List, [], Memᴰ}
use Prim.Native.Nat.{ℕ, ◌+◌, ◌*◌, ◌^◌, ◌≤◌, ◌<◌}
use native.Mathlib.Omega.{arith}
use lib.ListN.{length}
use Rattle.sets.specs.Tests.{Set}
use Rattle.theory.specs.Run.{source_of}
use Rattle.listing_lines_spec.specs.Lines.{initial_at}
use Rattle.std.specs.Prelude.{Result, Ok, ⊤}
use Rattle.refusals.specs.declared.Refusal.{Refusal}
use Rattle.refusals.specs.Rows.{first_refusal}
use Rattle.refusals.proofs.Rows.{row-passes}
use Rattle.table_lent.specs.Lent.{Lent, words_in, in_bytes_lem, in_both, table_rows_lem, table_row_lem}
use Rattle.table_rows.specs.Passed.{Passed}
use Rattle.table_rows.proofs.Passed.{passed, transition-low}
use Rattle.hoa_spec.specs.Lines.{propositions}
use Rattle.hoa_spec.specs.Text.{flags_of, automaton_text, text_of}
use Rattle.hoa_laws.proofs.Carried.{few-propositions}
use Rattle.hoa_laws.proofs.Flags.{flags-length}
use Rattle.hoa_laws.proofs.Bound.{few-members, text-bound}
use Rattle.hoa_write.specs.Written.{lent_text, bound}

module _ (s : ℕ) (codes ts : List ℕ) (P : Passed s codes ts) where
  -- at most 2 to the power 40 transitions
  pub moves-few : length ts ≤ 1099511627776
  moves-few = few-members (2 ^ 40) ts P.transitions_ascend (transition-low s codes ts P)

  module _ (initial : Set) where
    pub from-codes : (t : ℕ) → Memᴰ t ts → source_of t < length (flags_of initial codes)
    from-codes t m = omega (arith, P.source t m, flags-length initial codes)

    pub text-within : (b : ℕ) → b ≤ 4 → length (automaton_text b (flags_of initial codes) ts) ≤ 30 * length codes + 20 * length ts + 153
    text-within b four =
        let n = flags-length initial codes in
        omega (arith, text-bound b (flags_of initial codes) ts four (omega (arith, P.few)) from-codes, n)

-- a text is at most as long as the bound
pub bound-suffices : (s initial : ℕ) (codes transitions : Lent) → s ≤ 16 → table_row_lem s codes transitions ≡ 0
    → length (lent_text s initial codes transitions) ≤ bound (length codes.numbers) (length transitions.numbers)
unfolding text_of
bound-suffices s initial codes transitions h e =
    text-within s codes.numbers transitions.numbers (passed s codes transitions e) (initial_at initial) (propositions s) (few-propositions s h)

-- ---- a table in bytes

module _ (s : ℕ) (codes moves : List ℕ) where
  -- what row 15 says of it
  pub bytes-tried : {x : Result ⊤ Refusal} → first_refusal (table_rows_lem s (in_both [] codes) (in_both [] moves)) ≡ x → first_refusal (table_rows_lem s (in_bytes_lem codes) (in_bytes_lem moves)) ≡ x
  unfolding in_both in_bytes_lem
  bytes-tried e = e

  pub bytes-passed : first_refusal (table_rows_lem s (in_bytes_lem codes) (in_bytes_lem moves)) ≡ Ok tt → Passed s (words_in codes) (words_in moves)
  unfolding in_bytes_lem table_row_lem
  bytes-passed e = passed s (in_bytes_lem codes) (in_bytes_lem moves) (row-passes (table_rows_lem s (in_bytes_lem codes) (in_bytes_lem moves)) e)

  -- the text over the propositions of s letters
  pub text_is : (initial b : ℕ) → b ≡ propositions s → lent_text s initial (in_bytes_lem codes) (in_bytes_lem moves) ≡ automaton_text b (flags_of (initial_at initial) (words_in codes)) (words_in moves)
  unfolding in_bytes_lem text_of
  text_is initial b e = ap (λ (x : ℕ). automaton_text x (flags_of (initial_at initial) (words_in codes)) (words_in moves)) (sym e)
