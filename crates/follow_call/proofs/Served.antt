-- What a call that no row refuses leaves, and what the answer is for the file.
use mathlib.Core.Path.{◌≡◌, refl, sym, ap, ap₂, subst, ◌∙◌}
use mathlib.Core.List.{List, [], ◌++◌, map}
use Prim.Native.Nat.{ℕ, zero, suc, ◌≤◌, ◌<◌}
use native.Mathlib.Omega.{arith}
use lib.Dec.{ltb}
use lib.ListN.{length, get_or, take, drop, length-map, get_or-map}
use lib.Seq.{ext_get_or, get_or-take, length-take-le}
use Rattle.sets.specs.Lists.{Ascending, tabulate}
use Rattle.sets.specs.Tests.{one}
use Rattle.sets.proofs.Lists.{length-tabulate}
use Rattle.std.specs.Prelude.{Result, Ok, Err, ⊤}
use Rattle.refusals.specs.Rows.{number_of, first_refusal}
use Rattle.refusals.specs.declared.Refusal.{Refusal}
use Rattle.refusals.proofs.Rows.{number-above, first-parts, refusal-left, refusal-right, refusal-passes}
use Rattle.theory.specs.Passing.{Passing}
use Rattle.theory.specs.Rule.{Rule}
use Rattle.rule_entries.specs.Entries.{rule_of}
use Rattle.file_spec.specs.declared.Layout.{Layout}
use Rattle.file_spec.specs.File.{counts_of_lem, clauses_of_lem, rule_in}
use Rattle.file_spec.specs.Rows.{file_rows_lem, file_row}
use Rattle.file_read.proofs.Answer as read
use Rattle.file_read.proofs.FileRows.{file-numbered, accepted-passing}
use Rattle.trim_spec.specs.Graph.{Inside}
use Rattle.table_lent.specs.Lent.{Lent, in_bytes_lem, words_in}
use Rattle.table_rows.specs.Passed.{Passed}
use Rattle.table_rows.proofs.Passed.{passed}
use Rattle.live_spec.specs.Afresh.{is_in, initial_set, afresh, stepped_over, members_of}
use Rattle.live_spec.specs.Called.{left_by_lem}
use Rattle.live_spec.proofs.Steps.{table_at}
use Rattle.live_laws.proofs.Reached.{Bytes, afresh-bytes, afresh-none}
use Rattle.live_set.specs.Sweeps.{flag_of_lem}
use Rattle.follow_spec.specs.declared.FollowCounts.{FollowCounts}
use Rattle.follow_spec.specs.Set.{flags, reached, emptied_after}
use Rattle.follow_spec.specs.Rows.{follow_call_rows, follow_rows, follow_row}
use Rattle.follow_spec.specs.Followed.{answer_by, FollowedBy, FollowStarted, FollowCalled}
use Rattle.follow_laws.proofs.Leaves.{leaves-start, leaves-on}
use Rattle.follow_set.specs.Sweeping.{Taken}
use Rattle.follow_call.specs.Parts.{PartLeft}
use Rattle.follow_call.proofs.Checks.{parts}

-- ---- the part of the slice

-- the bytes of a front part as 0 and 1
flags-part : (n : ℕ) (set : List ℕ) → n ≤ length set → map flag_of_lem (take n set) ≡ flags n set
unfolding flags
flags-part n set l =
    let f : ℕ → ℕ = λ y. one (is_in set y) in
    let long : length (map flag_of_lem (take n set)) ≡ n = length-map (take n set) flag_of_lem ∙ length-take-le n set l in
    ext_get_or 0 (map flag_of_lem (take n set)) (tabulate n f 0) (long ∙ sym (length-tabulate n f 0))
    (λ i k.
    let m : i < n = omega (arith, long) in
    get_or-map flag_of_lem (take n set) i 0 ∙ ap flag_of_lem (get_or-take n set i 0 m) ∙ sym (table_at n f i m))

-- what is left of a part is left of the slice
pub part-taken : (n : ℕ) (ts letters set part : List ℕ) (v : FollowCounts) → n ≤ length set → Taken ts letters (map flag_of_lem (take n set)) part v
    → PartLeft n (reached n ts letters set) (emptied_after n ts letters (flags n set)) set (part ++ drop n set) v
unfolding reached
part-taken n ts letters set part v l T =
    let e = flags-part n set l in
    let long : length (flags n set) ≡ n = ap (λ (x : List ℕ). length x) (sym e) ∙ length-map (take n set) flag_of_lem ∙ length-take-le n set l in
    let U : Taken ts letters (flags n set) part v = subst (λ (x : List ℕ). Taken ts letters x part v) e T in
    record {
      set_left = ap (λ (x : List ℕ). x ++ drop n set) (U.set_left ∙ ap (λ (k : ℕ). stepped_over k ts letters (flags n set)) long);
      counts = U.counts
          ∙ ap (λ (k : ℕ). record { left = members_of k (stepped_over k ts letters (flags n set)); letters = emptied_after k ts letters (flags n set) }) long;
    }

-- the initial macrostates are bytes 0 and 1
pub initial-flags : (q : ℕ) (codes : List ℕ) → map flag_of_lem (initial_set q codes) ≡ initial_set q codes
initial-flags q codes =
    let set = initial_set q codes in
    let bytes : Bytes set = subst Bytes (afresh-none q codes []) (afresh-bytes q codes [] []) in
    ext_get_or 0 (map flag_of_lem set) set (length-map set flag_of_lem) (λ i l. get_or-map flag_of_lem set i 0 ∙ bytes i (omega (arith, length-map set flag_of_lem)))

-- ---- by the rows behind the rule's

module _ (s : ℕ) (letters codes transitions : List ℕ) (room : ℕ) (e : first_refusal (follow_call_rows s letters (in_bytes_lem codes) (in_bytes_lem transitions) room) ≡ Ok tt) where
  table-passed : Passed s (words_in codes) (words_in transitions)
  unfolding in_bytes_lem
  table-passed = passed s (in_bytes_lem codes) (in_bytes_lem transitions) (parts s letters (in_bytes_lem codes) (in_bytes_lem transitions) room e).0

  pub few : length (words_in codes) ≤ 65536
  few = table-passed.few

  pub rises : Ascending (words_in transitions)
  rises = table-passed.transitions_ascend

  pub inside : Inside (length (words_in codes)) (words_in transitions)
  inside = record { sources = table-passed.source; targets = table-passed.target }

  pub fits : length (words_in codes) ≤ room
  unfolding in_bytes_lem
  fits = (parts s letters (in_bytes_lem codes) (in_bytes_lem transitions) room e).1

-- ---- the answer, by what refuses

leaves : (k : ℕ) → 0 < k → (new old : List ℕ) → old ≡ left_by_lem k new old
unfolding left_by_lem
leaves zero l new old = absurd (omega arith)
leaves (suc k) l new old = refl

module _ {refusal : Result ⊤ Refusal} {n : ℕ} {left : List ℕ} {letters : ℕ} {set : List ℕ} where
  pub refused-by : (r : Refusal) → refusal ≡ Err r → FollowedBy refusal n left letters set set (Err r)
  unfolding answer_by
  refused-by r e = rw e (record { answered = refl; set_left = leaves (number_of r) (number-above r) (left ++ drop n set) set })

  pub served-by : {set' : List ℕ} {v : FollowCounts} → refusal ≡ Ok tt → PartLeft n left letters set set' v → FollowedBy refusal n left letters set set' (Ok v)
  unfolding answer_by left_by_lem
  served-by e P = rw e (record { answered = ap Ok P.counts; set_left = P.set_left })

-- ---- for the file

module _ (f letters : List ℕ) (codes transitions : Lent) (room : ℕ) where
  file-refuses : (r : Refusal) → first_refusal (file_rows_lem f) ≡ Err r → first_refusal (follow_rows f letters codes transitions room) ≡ Err r
  file-refuses r e = refusal-left (file_rows_lem f) _ r e

  file-passes : first_refusal (file_rows_lem f) ≡ Ok tt
      → first_refusal (follow_rows f letters codes transitions room) ≡ first_refusal (follow_call_rows (rule_in f).s letters codes transitions room)
  file-passes e = refusal-right (file_rows_lem f) _ e

  file-passed : follow_row f letters codes transitions room ≡ 0
      → (file_row f ≡ 0) × (first_refusal (follow_call_rows (rule_in f).s letters codes transitions room) ≡ Ok tt)
  unfolding follow_row file_row
  file-passed e = let p = first-parts (file_rows_lem f) _ (file-numbered f) e in (p.0, refusal-passes _ p.1)

  all-passed : follow_row f letters codes transitions room ≡ 0 → first_refusal (follow_rows f letters codes transitions room) ≡ Ok tt
  unfolding follow_row
  all-passed e = refusal-passes _ e

-- the set that a served call left
left-of : (n : ℕ) (left : List ℕ) (letters : ℕ) (set set' : List ℕ) (v : Result FollowCounts Refusal) → FollowedBy (Ok tt) n left letters set set' v → set' ≡ left ++ drop n set
unfolding left_by_lem
left-of n left letters set set' v F = F.set_left

-- no row refuses a file that was read
reads : {f : List ℕ} {l : Layout} → read.Served f l → first_refusal (file_rows_lem f) ≡ Ok tt
reads {f = f} S = refusal-passes (file_rows_lem f) (unfold file_row in S.row)

module _ (f codes transitions set : List ℕ) where
  abbrev n : ℕ
  n = length (words_in codes)

  -- a start
  pub started-whole : (set' : List ℕ) (v : Result FollowCounts Refusal) → FollowedBy (first_refusal (follow_rows f [] (in_bytes_lem codes) (in_bytes_lem transitions) (length set)))
      n (initial_set (rule_in f).initial (words_in codes)) 0 set set' v
      → FollowStarted f (in_bytes_lem codes) (in_bytes_lem transitions) set set' v
  unfolding in_bytes_lem
  started-whole set' v F = record {
    called = F;
    begins = λ e.
        let (i, j) = file-passed f [] (in_bytes_lem codes) (in_bytes_lem transitions) (length set) e in
        leaves-start (rule_in f) (accepted-passing f i) (words_in codes) (words_in transitions) (inside (rule_in f).s [] codes transitions (length set) j) set set'
        (left-of n (initial_set (rule_in f).initial (words_in codes)) 0 set set' v (subst (λ (k : Result ⊤ Refusal). FollowedBy k n (initial_set (rule_in f).initial (words_in codes)) 0 set set' v) (all-passed f [] (in_bytes_lem codes) (in_bytes_lem transitions) (length set) e) F));
  }

  pub start-refused : (r : Refusal) → first_refusal (file_rows_lem f) ≡ Err r → FollowStarted f (in_bytes_lem codes) (in_bytes_lem transitions) set set (Err r)
  start-refused r e = started-whole set (Err r) (refused-by r (file-refuses f [] (in_bytes_lem codes) (in_bytes_lem transitions) (length set) r e))

  pub start-served : (l : Layout) (set' : List ℕ) (v : Result FollowCounts Refusal) → read.Served f l
      → FollowedBy (first_refusal (follow_call_rows l.head.s [] (in_bytes_lem codes) (in_bytes_lem transitions) (length set))) n (initial_set l.head.initial (words_in codes)) 0 set set' v
      → FollowStarted f (in_bytes_lem codes) (in_bytes_lem transitions) set set' v
  start-served l set' v S F =
      let G = subst (λ (r : Rule). FollowedBy (first_refusal (follow_call_rows r.s [] (in_bytes_lem codes) (in_bytes_lem transitions) (length set))) n (initial_set r.initial (words_in codes)) 0 set set' v) S.rule F in
      started-whole set' v
      (subst (λ (j : Result ⊤ Refusal). FollowedBy j n (initial_set (rule_in f).initial (words_in codes)) 0 set set' v) (sym (file-passes f [] (in_bytes_lem codes) (in_bytes_lem transitions) (length set) (reads S))) G)

  -- a call
  module _ (letters : List ℕ) where
    abbrev Called : Result ⊤ Refusal → List ℕ → Result FollowCounts Refusal → Type 0
    Called refusal set' v = FollowedBy refusal n (reached n (words_in transitions) letters set) (emptied_after n (words_in transitions) letters (flags n set)) set set' v

    pub called-whole : (set' : List ℕ) (v : Result FollowCounts Refusal) → Called (first_refusal (follow_rows f letters (in_bytes_lem codes) (in_bytes_lem transitions) (length set))) set' v
        → FollowCalled f letters (in_bytes_lem codes) (in_bytes_lem transitions) set set' v
    unfolding in_bytes_lem
    called-whole set' v F = record {
      called = F;
      goes_on = λ e earlier g.
          let (i, j) = file-passed f letters (in_bytes_lem codes) (in_bytes_lem transitions) (length set) e in
          leaves-on (rule_in f) (accepted-passing f i) (words_in codes) (words_in transitions) (inside (rule_in f).s letters codes transitions (length set) j) earlier letters set set' g
          (left-of n (reached n (words_in transitions) letters set) (emptied_after n (words_in transitions) letters (flags n set)) set set' v (subst (λ (k : Result ⊤ Refusal). Called k set' v) (all-passed f letters (in_bytes_lem codes) (in_bytes_lem transitions) (length set) e) F));
    }

    pub call-refused : (r : Refusal) → first_refusal (file_rows_lem f) ≡ Err r → FollowCalled f letters (in_bytes_lem codes) (in_bytes_lem transitions) set set (Err r)
    call-refused r e = called-whole set (Err r) (refused-by r (file-refuses f letters (in_bytes_lem codes) (in_bytes_lem transitions) (length set) r e))

    pub call-served : (l : Layout) (set' : List ℕ) (v : Result FollowCounts Refusal) → read.Served f l → Called (first_refusal (follow_call_rows l.head.s letters (in_bytes_lem codes) (in_bytes_lem transitions) (length set))) set' v
        → FollowCalled f letters (in_bytes_lem codes) (in_bytes_lem transitions) set set' v
    call-served l set' v S F =
        let G = subst (λ (r : Rule). Called (first_refusal (follow_call_rows r.s letters (in_bytes_lem codes) (in_bytes_lem transitions) (length set))) set' v) S.rule F in
        called-whole set' v (subst (λ (j : Result ⊤ Refusal). Called j set' v) (sym (file-passes f letters (in_bytes_lem codes) (in_bytes_lem transitions) (length set) (reads S))) G)

-- the initial state of an accepted file's rule is below 8
pub head-low : (f : List ℕ) (l : Layout) → read.Served f l → l.head.initial < 8
head-low f l S =
    let P : Passing (rule_of l.head (counts_of_lem f) (clauses_of_lem f)) = rw S.rule S.passing in
    omega (arith, P.formed.initial_state, P.formed.few_states)
