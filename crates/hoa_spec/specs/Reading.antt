-- The reading of a text: what it carries, and what is answered and written. 02, M-100.
use Rattle.std.specs.Prelude.{◌≡◌, List, ◌++◌, ◌⊎◌, ℕ, ◌≤◌, ◌<◌, length, drop, Result, Ok, Err}
use Rattle.listing_lines_spec.specs.Lines.{initial_at}
use Rattle.table_rows.specs.Passed.{Passed}
use Rattle.hoa_spec.specs.Text.{flags_of, text_of}
use Rattle.refusals.specs.declared.Refusal.{Refusal}
use Rattle.refusals.specs.declared.Refusal.TheVariants.{NoTable as Nineteen, Slice}
use Rattle.hoa_spec.specs.declared.TableSizes.{TableSizes}

-- "to the same numbers, flags .. and transitions, packed as built; codes and s are not carried": under some rule of s letters with
-- this initial state there are codes that pass 15 with these transitions; their flags are these, and the text is that table's
pub record Carries (text flags transitions : List ℕ) : Type 0 where
  pub s : ℕ
  pub some_letter : 1 ≤ s
  pub few_letters : s ≤ 16
  pub initial : ℕ
  pub initial_state : initial < 8
  pub codes : List ℕ
  pub passes : Passed s codes transitions
  pub flags_are : flags ≡ flags_of (initial_at initial) codes
  pub text_is : text ≡ text_of s initial codes transitions

-- "no table that passes 15, under any rule, has this text"
abbrev pub NoTable : List ℕ → Type 0
NoTable text = (flags transitions : List ℕ) → Carries text flags transitions → ⊥

-- the answer, and both slices after the call: 19 "before slice lengths", then 16; "a call fills lent slices from their start
-- and leaves the rest as lent, and refusals from 19 on change no lent slice"; 16 changes none either.
-- A text carries one table at most (hoa_laws: carried-once), so it is answered in one way.
pub data ReadBack (text flags transitions : List ℕ) : Result TableSizes Refusal → List ℕ → List ℕ → Type 0 where
  no_table : NoTable text → ReadBack text flags transitions (Err Nineteen) flags transitions
  short : {fs ts : List ℕ} → Carries text fs ts → (length flags < length fs) ⊎ (length transitions < length ts)
      → ReadBack text flags transitions (Err Slice) flags transitions
  table : {fs ts : List ℕ} → Carries text fs ts → length fs ≤ length flags → length ts ≤ length transitions
      → ReadBack text flags transitions (Ok record { macrostates = length fs; transitions = length ts })
      (fs ++ drop (length fs) flags)
      (ts ++ drop (length ts) transitions)
