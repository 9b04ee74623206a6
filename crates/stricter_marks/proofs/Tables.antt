-- The tables of two rules while they are tagged: what the steps by cores ask of them, and what the marks say in the end.
use mathlib.Core.Path.{◌≡◌, sym, ap, ◌∙◌}
use mathlib.Core.Bool.{Bool, true, cond, not}
use mathlib.Core.List.{List, Memᴰ}
use Prim.Native.Nat.{ℕ, ◌+◌, ◌*◌, ◌/◌, ◌%◌, ◌≤◌, ◌<◌}
use native.Mathlib.Omega.{arith}
use borrow.Author.Tests.{eqb-true, lt-ltb}
use lib.ListN.{length, get_or}
use Rattle.sets.specs.Lists.{Ascending}
use Rattle.sets.specs.Masks.{bit}
use Rattle.sets.specs.Tests.{Set}
use Rattle.theory.specs.Automaton.{automaton}
use Rattle.theory.specs.Passing.{Passing}
use Rattle.theory.specs.Rule.{Rule}
use Rattle.theory.specs.Macrostate.{begun}
use Rattle.theory.specs.Run.{letter_of_lem}
use Rattle.theory.specs.TableComputed.{macrostates_from}
use Rattle.theory_laws.proofs.Tables.{macrostates-ascending}
use Rattle.trim_spec.specs.Trimmed.{live_marks}
use Rattle.stricter_spec.specs.Search.{Searchable}
use Rattle.stricter_laws.specs.Tests.{starts_in}
use Rattle.stricter_laws.proofs.Pairs.{parts}
use Rattle.stricter_laws.proofs.OneParent.{searchable}
use Rattle.stricter_spec.specs.Tags.{first_of, spares_at, told_of, ToldCodes, TaggedMoves, core_number_lem, row_of_lem, onto_of_lem, untagged, plain}
use Rattle.stricter_spec.specs.Tables.{CoreTable, Shown}
use Rattle.stricter_spec.specs.Steps.{CoreStep, SparedStep, CoresFit, CoresIn, Spread, stands_in, has_core}
use Rattle.stricter_spec.specs.Rounds.{Narrowed, AllSound}
use Rattle.stricter_marks.specs.Rows.{Standing}
use Rattle.stricter_laws.proofs.Tags.{codes-back, moves-back, told-number, shown}
use Rattle.stricter_laws.proofs.Table.{row_low, onto-low, letter-low}
use Rattle.stricter_laws.proofs.Lifts.{Marked, both-sound, nothing}
use Rattle.stricter_laws.proofs.CoreTables.{core-table, codes-low, moves-low, few-parts}
use Rattle.stricter_marks.specs.Sorted.{Sorted, CoresSorted, TableOf}
use Rattle.stricter_marks.proofs.Joined.{core-standing, core-own, standing, run-stands, both-stand, stand-in, spread-in, spread-out}
use Rattle.stricter_marks.proofs.Starts.{bit-low, starts-plain, begun_first}

-- ---- one table

module _ {r : Rule} {start : Set} {count : ℕ} {codes moves : List ℕ} (T : TableOf r start count codes moves) where
  P : Passing r
  P = T.passing

  room : length (macrostates_from r start) ≤ 65536
  room = rw T.codes_are at T.few

  table-searchable : Searchable codes moves
  table-searchable = rw (T.codes_are, T.moves_are) (searchable P start room)

  low-codes : (i : ℕ) → i < length codes → get_or codes i 0 < 281474976710656
  low-codes = rw T.codes_are (codes-low P start room)

  low-moves : (t : ℕ) → Memᴰ t moves → t < 1099511627776
  low-moves = rw T.moves_are (moves-low P start room)

  pub few_components : count ≤ 8
  few_components = rw T.counted (few-parts P start room)

  abbrev spares_of : ℕ → ℕ → Bool
  spares_of t K = spares_at (automaton r) codes t K

  core-of : CoreTable codes moves count (first_of codes) spares_of
  core-of = rw (T.counted, T.codes_are, T.moves_are) (core-table P start room)

  module _ {tcodes tmoves : List ℕ} (X : ToldCodes codes (live_marks codes moves) tcodes) (Y : TaggedMoves (automaton r) codes moves tmoves) where
    pub codes-again : plain tcodes ≡ codes
    codes-again = codes-back codes (live_marks codes moves) tcodes X low-codes

    pub moves-again : untagged tmoves ≡ moves
    moves-again = moves-back (automaton r) codes moves tmoves Y low-moves

    shown_by : Shown codes moves count (first_of codes) spares_of tmoves
    shown_by = rw T.counted (shown (few-parts P start room) T.few table-searchable.inside Y)

    numbered : (i : ℕ) → i < length codes → core_number_lem (get_or tcodes i 0) ≡ told_of codes (live_marks codes moves) i
    numbered = told-number X low-codes

    ascends : Ascending (untagged tmoves)
    ascends = rw moves-again table-searchable.ascend

    codes_ascend : Ascending codes
    codes_ascend = rw T.codes_are (macrostates-ascending r P start)

    pub stands : Standing tcodes
    stands = standing core-of tcodes X.long numbered

    onto-low-in : (t : ℕ) → Memᴰ t tmoves → onto_of_lem t < length tcodes
    onto-low-in t m = rw X.long (onto-low core-of shown_by m)

    pub rows-low : (t : ℕ) → Memᴰ t tmoves → row_of_lem t < length tcodes
    rows-low t m = rw X.long (row_low core-of shown_by m)

    letters-low : (t : ℕ) → Memᴰ t tmoves → letter_of_lem t < 16
    letters-low t m = letter-low core-of shown_by table-searchable.lettered m

    -- where runs begin, numbers stand for their cores
    begins-first : (s : Set) (i : ℕ) → i < length codes → begun s (get_or codes i 0) ≡ true → first_of codes i ≡ i
    begins-first = begun_first codes codes_ascend low-codes

-- ---- two tables

module _ {a b : Rule} {s t : Set} {nA nB : ℕ} {ca ma cb mb : List ℕ} (A : TableOf a s nA ca ma) (B : TableOf b t nB cb mb)
    {tca tma tcb tmb : List ℕ}
    (X : ToldCodes ca (live_marks ca ma) tca) (Y : TaggedMoves (automaton a) ca ma tma)
    (U : ToldCodes cb (live_marks cb mb) tcb) (W : TaggedMoves (automaton b) cb mb tmb) where
  pub fits : (marks : List ℕ) → length marks ≡ length ca * length cb → CoresFit (length tca) (length tcb) tma tmb marks
  fits marks e = record {
    ascend_a = ascends A X Y;
    ascend_b = ascends B U W;
    letters_b = letters-low B U W;
    onto_a = onto-low-in A X Y;
    onto_b = onto-low-in B U W;
    marked = rw (X.long, U.long) e;
    few_a = rw X.long A.few;
    few_b = rw U.long B.few;
  }

  CA : CoreTable ca ma nA (first_of ca) (spares_at (automaton a) ca)
  CA = core-of A

  CB : CoreTable cb mb nB (first_of cb) (spares_at (automaton b) cb)
  CB = core-of B

  SA : Shown ca ma nA (first_of ca) (spares_at (automaton a) ca) tma
  SA = shown_by A X Y

  SB : Shown cb mb nB (first_of cb) (spares_at (automaton b) cb) tmb
  SB = shown_by B U W

  abbrev Joined : List ℕ → List ℕ → Type 0
  Joined = Marked CA SA CB SB

  module _ {all : List ℕ} (final : List ℕ) (I : CoresIn tca tcb all) (sub : (x : ℕ) → 0 < get_or final x 0 → 0 < get_or all x 0) where
    -- the pairs of cores that stand are in at first
    all_in : (i j : ℕ) → i < length ca → j < length cb → stands_in tca (first_of ca i) ≡ true → stands_in tcb (first_of cb j) ≡ true
        → 0 < get_or all (first_of ca i * length cb + first_of cb j) 0
    all_in i j k l p q =
        rw U.long at (stand-in I (first_of ca i) (first_of cb j) (rw X.long (CA.within i k)) (rw U.long (CB.within j l)) p q)

    -- the numbers of a pair that is left stand for their cores
    left-stand : (i j : ℕ) → i < length ca → j < length cb → 0 < get_or final (i * length cb + j) 0 → (stands_in tca i ≡ true) × (stands_in tcb j ≡ true)
    left-stand i j k l h = both-stand I i j (rw X.long k) (rw U.long l) (rw U.long (sub (i * length cb + j) h))

    module _ {marks : List ℕ} (S : Spread tca tcb final marks) where
      joined : Joined final marks
      joined = record {
        marks = λ i j k l h.
            let (p, q) = left-stand (first_of ca i) (first_of cb j) (CA.within i k) (CB.within j l) h in
            let (x, e) = core-standing CA tca X.long (numbered A X Y) i k p in
            let (y, f) = core-standing CB tcb U.long (numbered B U W) j l q in
            rw U.long at (spread-in S i j (first_of ca i) (first_of cb j) (rw X.long k) (rw U.long l) x y e f (rw U.long h));
        tells = λ i j k l h.
            let (x, y, d) = spread-out S i j (rw X.long k) (rw U.long l) (rw U.long h) in
            let e = core-own CA tca X.long (numbered A X Y) i k x in
            let f = core-own CB tcb U.long (numbered B U W) j l y in
            rw (e, f, U.long) at d;
      }

      -- a pair that is left keeps its mark
      kept_in : (i j : ℕ) → i < length ca → j < length cb → 0 < get_or final (i * length cb + j) 0 → 0 < get_or marks (i * length cb + j) 0
      unfolding stands_in has_core
      kept_in i j k l h =
          let (p, q) = left-stand i j k l h in
          let e = eqb-true (core_number_lem (get_or tca i 0)) i p in
          let f = eqb-true (core_number_lem (get_or tcb j 0)) j q in
          rw U.long at (spread-in S i j i j (rw X.long k) (rw U.long l)
          (lt-ltb (core_number_lem (get_or tca i 0)) (length tca) (omega (arith, e, X.long))) (lt-ltb (core_number_lem (get_or tcb j 0)) (length tcb) (omega (arith, f, U.long))) e f (rw U.long h))

  module _ (qa qb : ℕ) (la : qa < 8) (lb : qb < 8) where
    abbrev start_a : Set
    start_a c = bit c qa

    abbrev start_b : Set
    start_b c = not (bit c qb)

    same-starts : (x : ℕ) → starts_in tca tcb start_a start_b x ≡ starts_in ca cb start_a start_b x
    same-starts = starts-plain (bit-low qa la) (λ c. ap not (bit-low qb lb c)) ca cb tca tcb (codes-again A X Y) (codes-again B U W)

    pub sorted : {marks : List ℕ} {r : ℕ} → length marks ≡ length ca * length cb
        → CoresSorted tca tma nA tcb tmb nB (starts_in tca tcb start_a start_b) marks r → Sorted ca ma start_a cb mb start_b marks r
    sorted {marks = marks} {r = r} e S =
        let N : Narrowed (CoreStep (length cb) tma tmb) (SparedStep (length cb) tma tmb) (λ q. cond q nB nA) S.all S.cores = rw U.long at S.narrowed in
        let Q : AllSound (CoreStep (length cb) tma tmb) (SparedStep (length cb) tma tmb) (λ q. cond q nB nA) S.cores = rw U.long at S.sound in
        let low : r < length marks → r < length S.cores = λ l. omega (arith, S.long) in
        record {
          long = e;
          within = omega (arith, S.first.within, S.long);
          sound = λ l. both-sound CA SA CB SB S.cores marks Q (joined S.cores S.in_all N.sub (S.spread (low l))) e;
          inside = λ l.
              let p = parts (length ca) (length cb) r (rw e at l) in
              rw p.whole at (kept_in S.cores S.in_all N.sub (S.spread (low l)) (r / length cb) (r % length cb) p.first p.second
              (rw p.whole (S.first.inside (low l))));
          begins = λ l. sym (same-starts r) ∙ S.first.begins (low l);
          none = λ l. nothing CA SA CB SB
              N start_a start_b
              (λ w x y F G i. all_in S.cores S.in_all N.sub (x i) (y i) (F.run.within i) (G.run.within i)
              (run-stands CA tca X.long (numbered A X Y) start_a w x F i) (run-stands CB tcb U.long (numbered B U W) start_b w y G i))
              (begins-first A X Y start_a) (begins-first B U W start_b)
              (λ x h q. S.first.none (omega (arith, S.long)) x h (same-starts x ∙ q));
        }
