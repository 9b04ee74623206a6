-- 02: "The text must read back .. to the same numbers, flags .. and transitions"; "Each table has one text".
use mathlib.Core.Path.{◌≡◌, refl, sym, ◌∙◌, ap}
use mathlib.Core.List.{List, ◌++◌}
use mathlib.Core.Logic.{⊎_elim}
use Prim.Native.Nat.{ℕ, ◌≤◌, ◌<◌}
use native.Mathlib.Omega.{arith}
use lib.ListN.{length, drop}
use Rattle.listing_lines_spec.specs.Lines.{initial_at}
use Rattle.table_rows.specs.Passed.{Passed}
use Rattle.hoa_spec.specs.Lines.{propositions}
use Rattle.hoa_spec.specs.Text.{flags_of, text_of}
use Rattle.hoa_laws.proofs.Flags.{flags-length}
use Rattle.std.specs.Prelude.{Result, Ok}
use Rattle.refusals.specs.declared.Refusal.{Refusal}
use Rattle.hoa_spec.specs.declared.TableSizes.{TableSizes}
use Rattle.hoa_spec.specs.Reading.{Carries, ReadBack, no_table, short, table}
use Rattle.hoa_laws.proofs.Carried.{shaped, carried}
use Rattle.hoa_laws.proofs.Once.{text-once}

-- a text carries one table's flags and transitions at most
pub carried-once : {text fs ts gs us : List ℕ} → Carries text fs ts → Carries text gs us → (fs ≡ gs) × (ts ≡ us)
carried-once C D =
    let p = carried C in
    let q = carried D in
    let r = text-once p.1 q.1 (sym p.2 ∙ q.2) in
    (r.1, r.2)

-- tables with other flags, other transitions or another number of propositions have other texts
pub tables-apart : (s initial : ℕ) (codes ts : List ℕ) (s' initial' : ℕ) (codes' us : List ℕ) → s ≤ 16 → s' ≤ 16 → Passed s codes ts → Passed s' codes' us
    → text_of s initial codes ts ≡ text_of s' initial' codes' us
    → (propositions s ≡ propositions s') × (flags_of (initial_at initial) codes ≡ flags_of (initial_at initial') codes') × (ts ≡ us)
unfolding text_of
tables-apart s initial codes ts s' initial' codes' us h h' P Q e = text-once (shaped s initial codes ts h P) (shaped s' initial' codes' us h' Q) e

-- the text of a table that passes 15 reads back to its numbers, flags and transitions
module _ (s initial : ℕ) (codes ts : List ℕ) (some : 1 ≤ s) (few : s ≤ 16) (state : initial < 8) (P : Passed s codes ts) where
  pub written : Carries (text_of s initial codes ts) (flags_of (initial_at initial) codes) ts
  written = record {
    s = s;
    some_letter = some;
    few_letters = few;
    initial = initial;
    initial_state = state;
    codes = codes;
    passes = P;
    flags_are = refl;
    text_is = refl;
  }

  abbrev fs : List ℕ
  fs = flags_of (initial_at initial) codes

  pub reads-back : {flags transitions flags' transitions' : List ℕ} {a : Result TableSizes Refusal} → ReadBack (text_of s initial codes ts) flags transitions a flags' transitions'
      → length codes ≤ length flags → length ts ≤ length transitions
      → (a ≡ Ok record { macrostates = length codes; transitions = length ts })
      × (flags' ≡ fs ++ drop (length codes) flags)
      × (transitions' ≡ ts ++ drop (length ts) transitions)
  reads-back (no_table n) h k = absurd (n fs ts written)
  reads-back (short C l) h k =
      let r = carried-once C written in
      absurd (⊎_elim (λ g. omega (arith, ap length r.0, flags-length (initial_at initial) codes)) (λ g. omega (arith, ap length r.1)) l)
  reads-back {flags} {transitions} (table {fs = gs} {ts = us} C p q) h k =
      let r = carried-once C written in
      let n : length gs ≡ length codes = ap length r.0 ∙ flags-length (initial_at initial) codes in
      let m = ap length r.1 in (
        ap (λ (i : ℕ). Ok record { macrostates = i; transitions = length us }) n ∙ ap (λ (i : ℕ). Ok record { macrostates = length codes; transitions = i }) m,
        ap (λ (xs : List ℕ). xs ++ drop (length gs) flags) r.0 ∙ ap (λ (i : ℕ). fs ++ drop i flags) n,
        ap (λ (xs : List ℕ). xs ++ drop (length xs) transitions) r.1,
      )
