-- The lists of a kind of macrostates and of their transitions: there are no two, and every rule that passes the checks has those of its reachable
-- macrostates, however many these are.
use mathlib.Core.Path.{◌≡◌, sym, subst}
use mathlib.Core.List.Memᴰ
use mathlib.Core.List.{List, [], ◌∷◌, Memᴰ}
use Prim.Native.Nat.{ℕ, ◌+◌, ◌*◌}
use lib.ListN.{length, get_or}
use Rattle.sets.specs.Lists.{keep, tabulate, flat, sorted}
use Rattle.sets.specs.Tests.{Set}
use Rattle.sets.proofs.Ascending.{asc-ext, sorted-asc, sorted-in, sorted-out}
use Rattle.sets.proofs.Lists.{keep-in, keep_out, tabulate-0, flat_in, flat_out}
use Rattle.theory.specs.Automaton.{Automaton, automaton}
use Rattle.theory.specs.Layered.{Layered}
use Rattle.theory.specs.MacrostateComputed.{goes}
use Rattle.theory.specs.Passing.{Passing}
use Rattle.theory.specs.Rule.{Rule}
use Rattle.theory.specs.Table.{Transition, Listed, ListsFrom}
use Rattle.theory.specs.TableComputed.{macrostates_from}
use Rattle.theory_laws.proofs.Goes.{goes-iff}
use Rattle.theory_laws.proofs.Layers.{layered}
use Rattle.theory_laws.proofs.Tables.{below, transition-by, reachable-iff, macrostates-ascending}

-- ---- lists of one kind are the same

module _ {r : Rule} {kind : ℕ → Type 0} {codes moves cs ts : List ℕ} (L : Listed r kind codes moves) (M : Listed r kind cs ts) where
  pub codes-once : codes ≡ cs
  codes-once = asc-ext codes cs L.codes_ascend M.codes_ascend (λ c m. (M.codes_are c).1 ((L.codes_are c).0 m)) (λ c m. (L.codes_are c).1 ((M.codes_are c).0 m))

  pub moves-once : moves ≡ ts
  moves-once =
      asc-ext moves ts L.transitions_ascend M.transitions_ascend
      (λ t m. (M.transitions_are t).1 (subst (λ (c : List ℕ). Transition (automaton r) r.s c t) codes-once ((L.transitions_are t).0 m)))
      (λ t m. (L.transitions_are t).1 (subst (λ (c : List ℕ). Transition (automaton r) r.s c t) (sym codes-once) ((M.transitions_are t).0 m)))

-- ---- the transitions between any codes, however many: packed, and not taken apart again

module _ (A : Automaton) (H : Layered A) (s : ℕ) (codes : List ℕ) where
  abbrev code : ℕ → ℕ
  code x = get_or codes x 0

  -- the numbers below k
  abbrev numbers : ℕ → List ℕ
  numbers k = tabulate k (λ x. x) 0

  -- the numbers of the codes that number x goes to over the letter a
  abbrev targets : ℕ → ℕ → List ℕ
  targets x a = keep (λ y. goes A (code x) a (code y)) (numbers (length codes))

  abbrev moves : List ℕ
  moves = flat (numbers (length codes)) (λ x. flat (numbers s) (λ a. flat (targets x a) (λ y. (x * 16777216 + a * 65536 + y) ∷ [])))

  moves_out : (t : ℕ) → Memᴰ t moves → Transition A s codes t
  moves_out t m =
      let x = flat_out _ _ t m in
      let a = flat_out _ _ t x.2 in
      let y = flat_out _ _ t a.2 in
      let k = keep_out _ (numbers (length codes)) y.0 y.1 in
      transition-by x.0 a.0 y.0 (below (length codes) x.0 x.1) (below s a.0 a.1) (below (length codes) y.0 k.0) (Memᴰ.eq_of_singleton y.2)
      ((goes-iff A H (code x.0) a.0 (code y.0)).0 k.1)

  moves-in : (t : ℕ) → Transition A s codes t → Memᴰ t moves
  moves-in t T =
      flat_in (numbers (length codes)) _ T.source t (tabulate-0 (length codes) (λ x. x) T.source T.source_listed)
      (flat_in (numbers s) _ T.letter t (tabulate-0 s (λ x. x) T.letter T.letter_known)
      (flat_in (targets T.source T.letter) _ T.target t
      (keep-in _ (numbers (length codes)) T.target (tabulate-0 (length codes) (λ x. x) T.target T.target_listed)
      ((goes-iff A H (code T.source) T.letter (code T.target)).1 T.steps))
      (Memᴰ.head T.packed)))

-- the reachable macrostates of a rule that passes the checks are listed, with their transitions
pub lists-exist : (r : Rule) → Passing r → (start : Set) → (moves : List ℕ) × ListsFrom r start (macrostates_from r start) moves
lists-exist r P start =
    let codes = macrostates_from r start in
    let ms = moves (automaton r) (layered r P) r.s codes in (
      sorted ms,
      record {
        codes_ascend = macrostates-ascending r P start;
        codes_are = reachable-iff r P start;
        transitions_ascend = sorted-asc ms;
        transitions_are = λ t. (λ m. moves_out (automaton r) (layered r P) r.s codes t (sorted-out ms t m), λ T. sorted-in ms t (moves-in (automaton r) (layered r P) r.s codes t T));
      },
    )
