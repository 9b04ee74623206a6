-- The answer of the trimmed build on a file, and what the slices then hold, from what the build says of the whole table.
use mathlib.Core.Path.{◌≡◌, refl, sym, ap, ap₂, ◌∙◌, subst}
use mathlib.Core.List.{List, [], ◌∷◌, ◌++◌, append_assoc}
use Prim.Native.Nat.{ℕ, zero, suc, ◌+◌, ◌-◌, ◌≤◌}
use native.Mathlib.Omega.{arith}
use lib.ListN.{length, take, drop, replicate, length-append, replicate-append-replicate}
use lib.Seq.{take-append_seam, drop-append_seam}
use Rattle.std.specs.Prelude.{Result, Ok, Err}
use Rattle.refusals.specs.declared.Refusal.{Refusal}
use Rattle.sets.proofs.Bools.{bif}
use Rattle.refusals.proofs.Rows.{first-parts}
use Rattle.theory.specs.Demand.{Demand3}
use Rattle.theory.specs.Macrostate.{holds_initial}
use Rattle.theory.specs.Passing.{Passing}
use Rattle.theory.specs.Rule.{Rule}
use Rattle.theory.specs.Sequence.{AcceptsSequence}
use Rattle.theory.specs.Table.{ListsReachable}
use Rattle.theory.specs.TableComputed.{macrostates, transitions}
use Rattle.theory_laws.proofs.Lists.{codes-once, moves-once, lists-exist}
use Rattle.theory_laws.proofs.Tables.{lists-reachable}
use Rattle.endless_spec.specs.Endless.{TellsTruth}
use Rattle.endless_spec.proofs.Endless.{never_two}
use Rattle.endless_spec.proofs.Truth.{accepting-truth, same_truth}
use Rattle.file_spec.specs.File.{rule_in}
use Rattle.file_spec.specs.Rows.{file_row, file_rows_lem}
use Rattle.file_read.proofs.FileRows.{file-numbered, accepted-passing}
use Rattle.build.specs.declared.Counts.{Counts}
use Rattle.build.specs.Built.{room_row, built_by, room_after, slice_after, row_from, built_from, codes_after_from, transitions_after_from, build_row, built_of}
use Rattle.build.specs.Entry.{TableBuilt}
use Rattle.build.specs.Filling.{Filled}
use Rattle.build.proofs.Answer.{table-by, build-row}
use Rattle.build.proofs.ByLists.{codes_same, moves-same, row_same, filled-same}
use Rattle.build.proofs.RoomRows.{room-few}
use Rattle.trim_spec.specs.Matters.{ListsMattering, RunsSurvive}
use Rattle.trim_spec.specs.Trimmed.{live_marks, is_left_lem, renumbered, trimmed_codes, trimmed_transitions}
use Rattle.theory_laws.proofs.Mattering.{table-inside, narrow_at}
use Rattle.theory_laws.proofs.Numbers.{picked-length, number-max}
use Rattle.theory_laws.proofs.Renumbering.{renumbered-yes, renumbered-no, renumbered-are}
use Rattle.theory_laws.proofs.Sweeping.{flags-length, live-solved}
use Rattle.theory_laws.proofs.Trimmed.{trimmed-lists, trimmed-demand3, run-survives, run-comes-from}
use Rattle.build_trimmed.specs.Trimming.{Trimmable, padded, Trimming}
use Rattle.build_trimmed.specs.Answers.{trimmed_of, trimmed_codes_after, trimmed_transitions_after}
use Rattle.build_trimmed.specs.Entry.{TrimmedBuilt}

-- ---- by the first row that refuses

refused-same : (row : ℕ) (a b c d : List ℕ) (k : Refusal) → Err k ≡ built_by row a b → Err k ≡ built_by row c d
unfolding built_by
refused-same zero a b c d k e = cc
refused-same (suc n) a b c d k e = e

slice-same : (row : ℕ) (a b list other lent : List ℕ) (k : Refusal) → Err k ≡ built_by row a b → slice_after row list lent ≡ slice_after row other lent
unfolding built_by room_after
slice-same zero a b list other lent k e = cc
slice-same (suc n) a b list other lent k e = refl

by-none : (row : ℕ) (codes moves : List ℕ) (n : Counts) → row ≡ 0 → n.macrostates ≡ length codes → n.transitions ≡ length moves → Ok n ≡ built_by row codes moves
unfolding built_by
by-none row codes moves n e a b = rw e (ap₂ (λ (x y : ℕ). Ok (record { macrostates = x; transitions = y })) a b)

slice-none : (row : ℕ) (list lent : List ℕ) → row ≡ 0 → slice_after row list lent ≡ padded list (length lent)
unfolding room_after
slice-none row list lent e = rw e refl

-- ---- a list in the place of another one, in front of zeros

module _ (big small : List ℕ) (n : ℕ) (shorter : length small ≤ length big) (room : length big ≤ n) where
  zeros-join : padded small (length big) ++ replicate (n - length big) 0 ≡ padded small n
  zeros-join = let e : length big - length small + (n - length big) ≡ n - length small = omega arith in
      append_assoc small (replicate (length big - length small) 0) (replicate (n - length big) 0)
      ∙ ap (λ (l : List ℕ). small ++ l) (replicate-append-replicate (length big - length small) (n - length big) 0)
      ∙ ap (λ (k : ℕ). small ++ replicate k 0) e

renumbered-short : (ms ts : List ℕ) → length (renumbered ms ts) ≤ length ts
unfolding renumbered
renumbered-short ms [] = omega arith
renumbered-short ms (t ∷ ts) = let ih = renumbered-short ms ts in
    bif (is_left_lem ms t) (λ e. rw (renumbered-yes ms t ts e) (omega arith)) (λ e. rw (renumbered-no ms t ts e) (omega arith))

-- ---- the file of the call, and both slices before and after the build

module _ {f xs zs : List ℕ} {b : Result Counts Refusal} {ys ws : List ℕ} (B : TableBuilt f xs zs b ys ws) where
  abbrev row : ℕ
  row = build_row f (length xs) (length zs)

  abbrev r : Rule
  r = rule_in f

  -- the build refuses
  module _ {k : Refusal} (e : b ≡ Err k) where
    refused : Err k ≡ built_of f (length xs) (length zs)
    refused = sym e ∙ B.answer

    pub refused-answer : Err k ≡ trimmed_of f (length xs) (length zs)
    unfolding trimmed_of built_from
    refused-answer = refused-same row (macrostates r) (transitions r) (trimmed_codes r) (trimmed_transitions r) k refused

    pub refused-codes : ys ≡ trimmed_codes_after f xs (length zs)
    unfolding trimmed_codes_after codes_after_from built_from
    refused-codes = B.codes_after ∙ slice-same row (macrostates r) (transitions r) (macrostates r) (trimmed_codes r) xs k refused

    pub refused-moves : ws ≡ trimmed_transitions_after f (length xs) zs
    unfolding trimmed_transitions_after transitions_after_from built_from
    refused-moves = B.moves_after ∙ slice-same row (macrostates r) (transitions r) (transitions r) (trimmed_transitions r) zs k refused

  -- the build leaves a table
  module _ {n : Counts} (e : b ≡ Ok n) where
    counted : (row ≡ 0) × (n.macrostates ≡ length (macrostates r)) × (n.transitions ≡ length (transitions r))
    unfolding built_from
    counted = table-by row (macrostates r) (transitions r) n (sym e ∙ B.answer)

    both-rows : (file_row f ≡ 0) × (room_row (macrostates r) (transitions r) (length xs) (length zs) ≡ 0)
    unfolding row_from room_row file_row
    both-rows = first-parts (file_rows_lem f) _ (file-numbered f) counted.0

    passing : Passing r
    passing = accepted-passing f both-rows.0

    few : length (macrostates r) ≤ 65536
    few = room-few (macrostates r) (transitions r) (length xs) (length zs) both-rows.1

    lists : ListsReachable r (macrostates r) (transitions r)
    lists = lists-reachable r passing few

    codes_held : ys ≡ padded (macrostates r) (length xs)
    unfolding codes_after_from
    codes_held = B.codes_after ∙ slice-none row (macrostates r) xs counted.0

    moves_held : ws ≡ padded (transitions r) (length zs)
    unfolding transitions_after_from
    moves_held = B.moves_after ∙ slice-none row (transitions r) zs counted.0

    pub codes-front : take n.macrostates ys ≡ macrostates r
    codes-front = ap₂ (λ (k : ℕ) (l : List ℕ). take k l) counted.1 codes_held ∙ take-append_seam (macrostates r) _

    pub moves_front : take n.transitions ws ≡ transitions r
    moves_front = ap₂ (λ (k : ℕ) (l : List ℕ). take k l) counted.2 moves_held ∙ take-append_seam (transitions r) _

    pub codes-room : n.macrostates ≤ length ys
    codes-room = let l = ap length codes_held ∙ length-append (macrostates r) _ in omega (arith, counted.1)

    pub moves-room : n.transitions ≤ length ws
    moves-room = let l = ap length moves_held ∙ length-append (transitions r) _ in omega (arith, counted.2)

    codes-behind : drop n.macrostates ys ≡ replicate (length xs - length (macrostates r)) 0
    codes-behind = ap₂ (λ (k : ℕ) (l : List ℕ). drop k l) counted.1 codes_held ∙ drop-append_seam (macrostates r) _

    moves-behind : drop n.transitions ws ≡ replicate (length zs - length (transitions r)) 0
    moves-behind = ap₂ (λ (k : ℕ) (l : List ℕ). drop k l) counted.2 moves_held ∙ drop-append_seam (transitions r) _

    pub trimmable : Trimmable (macrostates r) (transitions r)
    trimmable = record { few = few; narrow = narrow_at r passing (macrostates r) (transitions r) lists few; inside = table-inside r passing (macrostates r) (transitions r) lists few }

    -- ---- the trimmed table

    moves_are : renumbered (live_marks (macrostates r) (transitions r)) (transitions r) ≡ trimmed_transitions r
    unfolding trimmed_transitions trimmed_codes
    moves_are = renumbered-are r passing (macrostates r) (transitions r) lists few (live_marks (macrostates r) (transitions r)) (live-solved (macrostates r) (transitions r))

    module _ {m : Counts} {vs us : List ℕ} (T : Trimming (macrostates r) (transitions r) m vs us) (ys-long : length ys ≡ length xs) (ws-long : length ws ≡ length zs) where
      macrostates-left : m.macrostates ≡ length (trimmed_codes r)
      unfolding trimmed_codes
      macrostates-left = T.macrostates

      transitions_left : m.transitions ≡ length (trimmed_transitions r)
      transitions_left = T.transitions_left ∙ ap length moves_are

      pub table-answer : Ok m ≡ trimmed_of f (length xs) (length zs)
      unfolding trimmed_of
      table-answer = by-none row (trimmed_codes r) (trimmed_transitions r) m counted.0 macrostates-left transitions_left

      kept-fits : length (trimmed_codes r) ≤ length (macrostates r)
      unfolding trimmed_codes
      kept-fits =
          let l = picked-length (live_marks (macrostates r) (transitions r)) (macrostates r) ((live-solved (macrostates r) (transitions r)).long ∙ flags-length (macrostates r)) in
          omega (arith, number-max (live_marks (macrostates r) (transitions r)) (length (macrostates r)))

      moves-shorter : length (trimmed_transitions r) ≤ length (transitions r)
      moves-shorter = rw (sym moves_are) (renumbered-short (live_marks (macrostates r) (transitions r)) (transitions r))

      codes-joined : vs ++ drop n.macrostates ys ≡ padded (trimmed_codes r) (length xs)
      unfolding trimmed_codes
      codes-joined = let fits : length (macrostates r) ≤ length xs = omega (arith, counted.1, codes-room, ys-long) in
          ap₂ (λ (a b : List ℕ). a ++ b) T.codes_after codes-behind ∙ zeros-join (macrostates r) (trimmed_codes r) (length xs) kept-fits fits

      moves-joined : us ++ drop n.transitions ws ≡ padded (trimmed_transitions r) (length zs)
      moves-joined = let fits : length (transitions r) ≤ length zs = omega (arith, counted.2, moves-room, ws-long) in
          ap₂ (λ (a b : List ℕ). a ++ b) (T.transitions_after ∙ ap (λ (l : List ℕ). padded l (length (transitions r))) moves_are) moves-behind
          ∙ zeros-join (transitions r) (trimmed_transitions r) (length zs) moves-shorter fits

      pub codes-left : vs ++ drop n.macrostates ys ≡ trimmed_codes_after f xs (length zs)
      unfolding trimmed_codes_after
      codes-left = codes-joined ∙ sym (slice-none row (trimmed_codes r) xs counted.0)

      pub moves-left : us ++ drop n.transitions ws ≡ trimmed_transitions_after f (length xs) zs
      unfolding trimmed_transitions_after
      moves-left = moves-joined ∙ sym (slice-none row (trimmed_transitions r) zs counted.0)

-- ---- what the slices hold where a table is answered

module _ (f xs zs : List ℕ) (n : Counts) (e : Ok n ≡ trimmed_of f (length xs) (length zs)) where
  counts : (build_row f (length xs) (length zs) ≡ 0) × (n.macrostates ≡ length (trimmed_codes (rule_in f))) × (n.transitions ≡ length (trimmed_transitions (rule_in f)))
  unfolding trimmed_of
  counts = table-by (build_row f (length xs) (length zs)) (trimmed_codes (rule_in f)) (trimmed_transitions (rule_in f)) n e

  pub rows : (file_row f ≡ 0) × (room_row (macrostates (rule_in f)) (transitions (rule_in f)) (length xs) (length zs) ≡ 0)
  unfolding row_from room_row file_row
  rows = first-parts (file_rows_lem f) _ (file-numbered f) counts.0

  pub small : length (macrostates (rule_in f)) ≤ 65536
  small = room-few (macrostates (rule_in f)) (transitions (rule_in f)) (length xs) (length zs) rows.1

  pub codes_are : take n.macrostates (trimmed_codes_after f xs (length zs)) ≡ trimmed_codes (rule_in f)
  unfolding trimmed_codes_after
  codes_are = ap₂ (λ (k : ℕ) (l : List ℕ). take k l) counts.1 (slice-none (build_row f (length xs) (length zs)) (trimmed_codes (rule_in f)) xs counts.0)
      ∙ take-append_seam (trimmed_codes (rule_in f)) _

  pub transitions_are : take n.transitions (trimmed_transitions_after f (length xs) zs) ≡ trimmed_transitions (rule_in f)
  unfolding trimmed_transitions_after
  transitions_are = ap₂ (λ (k : ℕ) (l : List ℕ). take k l) counts.2 (slice-none (build_row f (length xs) (length zs)) (trimmed_transitions (rule_in f)) zs counts.0)
      ∙ take-append_seam (trimmed_transitions (rule_in f)) _

  pub answered-lists : ListsMattering (rule_in f) (take n.macrostates (trimmed_codes_after f xs (length zs))) (take n.transitions (trimmed_transitions_after f (length xs) zs))
  answered-lists = rw (codes_are, transitions_are) (trimmed-lists (rule_in f) (accepted-passing f rows.0) small)

  pub answered-demand3 : Demand3 (rule_in f) (take n.macrostates (trimmed_codes_after f xs (length zs))) (take n.transitions (trimmed_transitions_after f (length xs) zs))
  answered-demand3 = rw (codes_are, transitions_are) (trimmed-demand3 (rule_in f) (accepted-passing f rows.0) small)

  -- its accepting runs are those of the whole table
  pub answered-truth : TellsTruth (rule_in f) (take n.macrostates (trimmed_codes_after f xs (length zs))) (take n.transitions (trimmed_transitions_after f (length xs) zs))
  answered-truth =
      let r = rule_in f in
      let P = accepted-passing f rows.0 in
      rw (codes_are, transitions_are) (same_truth r P (holds_initial r) (AcceptsSequence r) (macrostates r) (transitions r) (trimmed_codes r) (trimmed_transitions r)
      (run-survives r P small) (run-comes-from r P small) (accepting-truth r P (macrostates r) (transitions r) (lists-reachable r P small) small))

-- ---- the whole contract, of an answer and both slices

module _ (f xs zs : List ℕ) (a : Result Counts Refusal) (ys ws : List ℕ) (e : a ≡ trimmed_of f (length xs) (length zs))
    (c : ys ≡ trimmed_codes_after f xs (length zs)) (m : ws ≡ trimmed_transitions_after f (length xs) zs) where
  filled : Filled (build_row f (length xs) (length zs)) (trimmed_codes (rule_in f)) (trimmed_transitions (rule_in f)) xs zs a ys ws
  unfolding trimmed_of trimmed_codes_after trimmed_transitions_after
  filled = record { answer = e; codes_after = c; moves_after = m }

  module _ (z : file_row f ≡ 0) (codes moves left kept : List ℕ) (L : ListsReachable (rule_in f) codes moves)
      (M : room_row codes moves (length xs) (length zs) ≡ 0 → ListsMattering (rule_in f) left kept) where
    row_is : room_row codes moves (length xs) (length zs) ≡ build_row f (length xs) (length zs)
    row_is = row_same (rule_in f) (accepted-passing f z) codes moves L (length xs) (length zs) ∙ sym (build-row holds_initial f xs zs z)

    -- where no row refuses, the lists are the computed ones
    lists-same : build_row f (length xs) (length zs) ≡ 0 → (left ≡ trimmed_codes (rule_in f)) × (kept ≡ trimmed_transitions (rule_in f))
    lists-same k =
        let few = room-few (macrostates (rule_in f)) (transitions (rule_in f)) (length xs) (length zs) (sym (build-row holds_initial f xs zs z) ∙ k) in
        let T = trimmed-lists (rule_in f) (accepted-passing f z) few in
        (codes-once (M (row_is ∙ k)) T, moves-once (M (row_is ∙ k)) T)

    by_lists : Filled (room_row codes moves (length xs) (length zs)) left kept xs zs a ys ws
    by_lists = subst (λ (k : ℕ). Filled k left kept xs zs a ys ws) (sym row_is)
        (filled-same (build_row f (length xs) (length zs)) left kept (trimmed_codes (rule_in f)) (trimmed_transitions (rule_in f)) xs zs a ys ws lists-same filled)

  survival : (n : Counts) → a ≡ Ok n → (codes moves : List ℕ) → ListsReachable (rule_in f) codes moves
      → RunsSurvive (rule_in f) codes moves (take n.macrostates ys) (take n.transitions ws)
  survival n t codes moves L =
      let g = sym t ∙ e in
      let P = accepted-passing f (rows f xs zs n g).0 in
      let few = small f xs zs n g in
      rw (codes_same (rule_in f) P codes moves L, moves-same (rule_in f) P codes moves L few, c, m, codes_are f xs zs n g, transitions_are f xs zs n g) (run-survives (rule_in f) P few)

  pub contract : TrimmedBuilt f xs zs a ys ws
  contract = record {
    answer = e;
    codes_after = c;
    moves_after = m;
    by_lists = by_lists;
    lists = λ n t. rw (c, m) (answered-lists f xs zs n (sym t ∙ e));
    demand = λ n t. rw (c, m) (answered-demand3 f xs zs n (sym t ∙ e));
    never_two = λ n t. rw (c, m) (never_two (rule_in f) _ _ (answered-demand3 f xs zs n (sym t ∙ e)));
    truth = λ n t. rw (c, m) (answered-truth f xs zs n (sym t ∙ e));
    survival = survival;
  }

-- every file that no row of the rule refuses has lists as `by_lists` takes them
pub lists-there : (f xs zs : List ℕ) → file_row f ≡ 0 → (moves : List ℕ) × ListsReachable (rule_in f) (macrostates (rule_in f)) moves
    × (room_row (macrostates (rule_in f)) moves (length xs) (length zs) ≡ 0 → ListsMattering (rule_in f) (trimmed_codes (rule_in f)) (trimmed_transitions (rule_in f)))
lists-there f xs zs z =
    let P = accepted-passing f z in
    let m = lists-exist (rule_in f) P (holds_initial (rule_in f)) in
    (m.0, m.1, λ e. trimmed-lists (rule_in f) P (room-few (macrostates (rule_in f)) m.0 (length xs) (length zs) e))
