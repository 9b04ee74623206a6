-- No listing is longer than 66,799 bytes: line one, 16 n lines, 512 m lines and 4,096 t lines at their longest.
use mathlib.Core.Path.{◌≡◌, refl}
use mathlib.Core.Logic.{by_cases}
use mathlib.Core.Bool.{Bool}
use mathlib.Core.List.{List, Memᴰ}
use Prim.Native.Nat.{ℕ, zero, suc, ◌+◌, ◌*◌, ◌/◌, ◌^◌, ◌≤◌, ◌<◌}
use native.Mathlib.Omega.{arith}
use native.Mathlib.Decide.{dec_lt}
use native.Mathlib.Nat.{zero-add}
use borrow.Author.Tests.{le-ltb}
use lib.ListN.{length, drop, length-take}
use Rattle.std.proofs.Common.{lit<}
use Rattle.refusals.specs.declared.Refusal.{Refusal}
use Rattle.refusals.specs.declared.Refusal.TheVariants.{ShortFile, NoTag, States, Letters, Initial, Accepting, Cut, Count, Sum, Clause, Mixed, NoCycle, LongWord, Letter, Table, Slice, MacrostateRoom, TransitionRoom, NoTable, ClauseInside, Names, NameByte, EqualNames, Words, EventLine, CoveredLine, NoLine, OtherLetters, PairRoom, LogFull, LogEmpty, Mark, MarkNotSet}
use Rattle.refusals.specs.Rows.{number_of, refusal_at}
use Rattle.sets.proofs.Bools.{bif}
use Rattle.sets.proofs.Lists.{mem-at, length-tabulate}
use Rattle.theory.specs.Automaton.{automaton}
use Rattle.theory.specs.Macrostate.{holds_initial, is_initial_lem}
use Rattle.theory.specs.Passing.{Passing}
use Rattle.theory.specs.Rule.{Rule}
use Rattle.theory.specs.Run.{source_of, letter_of_lem, target_of}
use Rattle.theory.specs.TableComputed.{macrostates, transitions}
use Rattle.theory_laws.proofs.Layers.{layered}
use Rattle.theory_laws.proofs.Tables.{few_states, components-there, reachable-iff, reachable-macrostate, lists-reachable, in-range}
use Rattle.file_spec.specs.File.{NamedRule, trailer, part_before_lem, names_of, rule_in, named_in}
use Rattle.file_spec.specs.Names.{has_names_lem}
use Rattle.file_spec.proofs.Names.{fit-21, names-length, no_names}
use Rattle.file_spec.specs.Rows.{preface_row_lem, file_row}
use Rattle.file_read.proofs.FileRows.{accepted-rows, accepted-passing}
use Rattle.build_spec.proofs.Listing.{code-low}
use Rattle.build.specs.Built.{built_by, built_from, build_row}
use Rattle.slice_text.specs.Decimal.{word}
use Rattle.listing_lines_spec.specs.Lines.{m_line, t_line, n_line, letters_of, name_line, name_lines, macrostate_line, macrostate_lines, transition_line, transition_lines, table_text}
use Rattle.listing_spec.specs.Computed.{answer_text, listing_of}
use Rattle.slice_text.proofs.Decimal.{decimal-length, word-length}
use Rattle.listing_lines_spec.proofs.Lengths.{built-length, m-length, t-length, n-length, refused-length, table-length}
use Rattle.listing_lines_spec.proofs.Lines.{lines-length}
use Rattle.listing_spec.proofs.Listed.{long-text, both-rows}

-- a blank and at most m + 1 digits
word-most : (m x : ℕ) → x < 10 ^ suc m → length (word x) ≤ m + 2
word-most m x h = omega (arith, word-length x, decimal-length m x h)

-- ---- lines

m-most : (number code : ℕ) (initial accepting : Bool) → number < 512 → code < 2 ^ 48 → length (m_line number code initial accepting) ≤ 26
m-most number code initial accepting h k = omega (arith, m-length number code initial accepting, word-most 2 number (omega arith), word-most 14 code (omega arith))

t-most : (source letter target : ℕ) → source < 512 → letter < 16 → target < 512 → length (t_line source letter target) ≤ 13
t-most source letter target h k l = omega (arith, t-length source letter target, word-most 2 source (omega arith), word-most 1 letter (omega arith), word-most 2 target (omega arith))

n-most : (letter : ℕ) (name : List ℕ) → letter < 16 → length name ≤ 8 → length (n_line letter name) ≤ 14
n-most letter name h k = omega (arith, n-length letter name, word-most 1 letter (omega arith))

n-lines-most : (names : List ℕ) → length names ≤ 128 → length (name_lines names) ≤ 14 * 16
n-lines-most names h =
    let k : length (letters_of names) ≡ length names / 8 = length-tabulate (length names / 8) (λ a. a) 0 in
    let few : length (letters_of names) ≤ 16 = omega arith in
    let l = lines-length (name_line names) 14 0 (letters_of names) (λ j i. n-most _ _ (omega (arith, zero-add j)) (omega (arith, length-take 8 (drop (8 * (0 + j)) names)))) in
    omega arith

-- ---- the table of a rule that passes the checks

module _ (r : Rule) (P : Passing r) (few : length (macrostates r) ≤ 512) where
  code-most : (c : ℕ) → Memᴰ c (macrostates r) → c < 2 ^ 48
  code-most c m =
      code-low (reachable-macrostate (automaton r) (layered r P) (few_states r P) (components-there r P) r.s (holds_initial r) ((reachable-iff r P (holds_initial r) c).0 m))

  record Low (t : ℕ) : Type 0 where
    source : source_of t < 512
    letter : letter_of_lem t < 16
    target : target_of t < 512

  move-low : (t : ℕ) → Memᴰ t (transitions r) → Low t
  move-low t m =
      let room : length (macrostates r) ≤ 65536 = omega arith in
      let I = in-range r P (lists-reachable r P room) room t m in
      record { source = omega (arith, I.source); letter = omega (arith, I.letter, P.formed.few_letters); target = omega (arith, I.target) }

  m-lines-most : length (macrostate_lines (is_initial_lem r) (macrostates r)) ≤ 26 * 512
  m-lines-most =
      let l = lines-length (macrostate_line (is_initial_lem r)) 26 0 (macrostates r) (λ j h. m-most _ _ _ _ (omega (arith, zero-add j)) (code-most _ (mem-at (macrostates r) j h))) in
      omega arith

  module _ (few-moves : length (transitions r) ≤ 4096) where
    t-lines-most : length (transition_lines (transitions r)) ≤ 13 * 4096
    t-lines-most =
        let l = lines-length transition_line 13 0 (transitions r) (λ j h. let M = move-low _ (mem-at (transitions r) j h) in t-most _ _ _ M.source M.letter M.target) in
        omega arith

    table-most : (names : List ℕ) → length names ≤ 128 → length (table_text (is_initial_lem r) names (macrostates r) (transitions r)) ≤ 66799
    table-most names h = omega (
      arith,
      table-length (is_initial_lem r) names (macrostates r) (transitions r),
      built-length (length (macrostates r)) (length (transitions r)),
      word-most 2 (length (macrostates r)) (omega arith),
      word-most 3 (length (transitions r)) (omega arith),
      n-lines-most names h,
      m-lines-most,
      t-lines-most,
    )

-- ---- refusals have at most two digits

number-low : (r : Refusal) → number_of r < 100
number-low r = elim r as (λ x. number_of x < 100) [ ShortFile ↦ lit< tt | NoTag ↦ lit< tt | States ↦ lit< tt | Letters ↦ lit< tt | Initial ↦ lit< tt | Accepting ↦ lit< tt | Cut ↦ lit< tt | Count ↦ lit< tt | Sum ↦ lit< tt | Clause ↦ lit< tt | Mixed ↦ lit< tt | NoCycle ↦ lit< tt | LongWord ↦ lit< tt | Letter ↦ lit< tt | Table ↦ lit< tt | Slice ↦ lit< tt | MacrostateRoom ↦ lit< tt | TransitionRoom ↦ lit< tt | NoTable ↦ lit< tt | ClauseInside ↦ lit< tt | Names ↦ lit< tt | NameByte ↦ lit< tt | EqualNames ↦ lit< tt | Words ↦ lit< tt | EventLine ↦ lit< tt | CoveredLine ↦ lit< tt | NoLine ↦ lit< tt | OtherLetters ↦ lit< tt | PairRoom ↦ lit< tt | LogFull ↦ lit< tt | LogEmpty ↦ lit< tt | Mark ↦ lit< tt | MarkNotSet ↦ lit< tt ]

-- ---- the names of an accepted file

names-most : (f : List ℕ) → file_row f ≡ 0 → length (names_of f) ≤ 128
unfolding preface_row_lem
names-most f e =
    let s = trailer f 1 in
    let p = part_before_lem f in
    let few : s ≤ 16 = (accepted-passing f e).formed.few_letters in
    bif (has_names_lem p)
    (λ t. omega (arith, names-length s p t (fit-21 s p (accepted-rows f e).1)))
    (λ t. rw (no_names s p t) (omega arith))

-- ---- all listings

by_row : (k : ℕ) (r : NamedRule) → (k ≡ 0 → length (table_text (is_initial_lem r.rule) r.names (macrostates r.rule) (transitions r.rule)) ≤ 66799)
    → length (answer_text (built_by k (macrostates r.rule) (transitions r.rule)) r) ≤ 66799
unfolding answer_text built_by
by_row zero r h = h refl
by_row (suc k) r h = let n = number_of (refusal_at k) in omega (arith, refused-length n, word-most 1 n (number-low (refusal_at k)))

pub listing-most : (f : List ℕ) → length (listing_of f) ≤ 66799
unfolding listing_of built_from
listing-most f = by_cases (dec_lt 4096 (length f))
    (λ h. rw (long-text f h) (omega arith))
    (λ h. rw (le-ltb 4096 (length f) (omega arith)) (by_row (build_row f 512 4096) (named_in f)
    (λ z. let b = both-rows f z in table-most (rule_in f) (accepted-passing f b.0) b.1 b.2 (names_of f) (names-most f b.0))))
