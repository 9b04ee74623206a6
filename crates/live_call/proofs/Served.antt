-- What a call that no row refuses has passed, and what the answer is for the file.
use mathlib.Core.Path.{◌≡◌, refl, sym, ap, subst, ◌∙◌}
use mathlib.Core.Bool.{true, not}
use mathlib.Core.List.{List, [], ◌∷◌, ◌++◌}
use Prim.Native.Nat.{ℕ, zero, suc, ◌≤◌, ◌<◌}
use native.Mathlib.Omega.{arith}
use lib.Dec.{eqb, leb, ltb}
use lib.ListN.{length, take, drop, take-append-drop}
use borrow.Author.Tests.{leb-false, ltb-false, eqb-false, not-false}
use Rattle.sets.proofs.Bools.{or-fl, or-fr}
use Rattle.std.specs.Prelude.{Result, Ok, Err, ⊤}
use Rattle.refusals.specs.Rows.{number_of, first_refusal, first_row, check}
use Rattle.refusals.specs.declared.Refusal.{Refusal}
use Rattle.refusals.specs.declared.Refusal.TheVariants.{Table, MarkNotSet}
use Rattle.refusals.proofs.Rows.{number-above, first-parts, first-pass, refusal-left, refusal-right, refusal-passes, refusal-same, row-passes}
use Rattle.theory.specs.Passing.{Passing}
use Rattle.theory.specs.Rule.{Rule}
use Rattle.rule_entries.specs.Entries.{rule_of}
use Rattle.file_spec.specs.declared.Layout.{Layout}
use Rattle.file_spec.specs.File.{counts_of_lem, clauses_of_lem, rule_in}
use Rattle.file_spec.specs.Rows.{file_rows_lem, file_row}
use Rattle.file_read.proofs.Answer as read
use Rattle.file_read.proofs.FileRows.{file-numbered, accepted-passing}
use Rattle.table_lent.specs.Lent.{Lent, in_bytes_lem, words_in}
use Rattle.table_rows.specs.Passed.{Passed}
use Rattle.table_rows.proofs.Passed.{passed}
use Rattle.live_spec.specs.declared.LiveCall.{LiveCall}
use Rattle.live_spec.specs.declared.LiveCall.TheVariants.{Start, Arrive, Withdraw, Mark, Return}
use Rattle.live_spec.specs.declared.LiveCounts.{LiveCounts}
use Rattle.live_spec.specs.Called.{effect, answer_by, left_by_lem, CalledBy, Gets, LiveCalled}
use Rattle.live_spec.specs.Effects.{put, shown}
use Rattle.live_spec.specs.History.{History, Log, log_of, Serves, Served}
use Rattle.live_spec.specs.Rows.{slice_rows, arrival_rows, log_rows, live_call_rows, live_call_row, live_rows, live_row}
use Rattle.live_spec.specs.State.{state_length_lem, state_of, number_in, is_marked_lem}
use Rattle.live_laws.proofs.Histories.{Small, small, state-bytes}
use Rattle.live_laws.proofs.Leaves.{number-told, mark-told, leaves}
use Rattle.live_rows.proofs.Checks.{parts}
use Rattle.live_state.specs.Ready.{Ready}
use Rattle.live_call.specs.Callable.{Callable, Counted}

-- ---- by the rows behind the rule's

-- 14 and 30 to 33
letter_known : (s a : ℕ) → first_row (arrival_rows s (Arrive a)) ≡ 0 → a < s
unfolding arrival_rows
letter_known s a e = leb-false s a (first-pass (leb s a) _ [] e).0

not_full : (a : ℕ) (state : List ℕ) → first_row (log_rows (Arrive a) state) ≡ 0 → number_in state < 512
unfolding log_rows
not_full a state e = leb-false 512 (number_in state) (first-pass (leb 512 (number_in state)) _ [] e).0

not_none : (state : List ℕ) → first_row (log_rows Withdraw state) ≡ 0 → 0 < number_in state
unfolding log_rows
not_none state e = let n : number_in state ≡ 0 → ⊥ = eqb-false (number_in state) 0 (first-pass (eqb (number_in state) 0) _ [] e).0 in omega (arith, n)

mark-known : (m : ℕ) (state : List ℕ) → first_row (log_rows (Mark m) state) ≡ 0 → m < 16
unfolding log_rows
mark-known m state e = let l : m ≤ 15 = ltb-false 15 m (first-pass (ltb 15 m) _ [] e).0 in omega (arith, l)

return-known : (m : ℕ) (state : List ℕ) → first_row (log_rows (Return m) state) ≡ 0 → (m < 16) × (is_marked_lem state m ≡ true)
unfolding log_rows
return-known m state e =
    let (f, g) = first-pass (ltb 15 m) _ (check (not (is_marked_lem state m)) MarkNotSet ∷ []) e in
    let l : m ≤ 15 = ltb-false 15 m f in
    (omega (arith, l), not-false (is_marked_lem state m) (first-pass (not (is_marked_lem state m)) _ [] g).0)

callable : (c : LiveCall) (s : ℕ) (state : List ℕ) → s ≤ 16 → first_row (arrival_rows s c) ≡ 0 → first_row (log_rows c state) ≡ 0 → Callable c state
callable Start s state h e f = tt
callable (Arrive a) s state h e f = (let l = letter_known s a e in omega (arith, l, h), not_full a state f)
callable Withdraw s state h e f = not_none state f
callable (Mark m) s state h e f = mark-known m state f
callable (Return m) s state h e f = (return-known m state f).0

-- 16
slices-long : (n : ℕ) (state : List ℕ) (room : ℕ) → first_row (slice_rows n state room) ≡ 0 → (state_length_lem ≤ length state) × (n ≤ room)
unfolding slice_rows
slices-long n state room e =
    let f = (first-pass _ _ [] e).0 in
    (ltb-false (length state) state_length_lem (or-fl (ltb (length state) state_length_lem) (ltb room n) f), ltb-false room n (or-fr (ltb (length state) state_length_lem) (ltb room n) f))

module _ (c : LiveCall) (s : ℕ) (codes transitions state : List ℕ) (room : ℕ) (e : first_refusal (live_call_rows c s (in_bytes_lem codes) (in_bytes_lem transitions) state room) ≡ Ok tt) where
  row : live_call_row c s (in_bytes_lem codes) (in_bytes_lem transitions) state room ≡ 0
  unfolding live_call_row
  row = row-passes _ e

  table-passed : Passed s (words_in codes) (words_in transitions)
  unfolding in_bytes_lem
  table-passed = passed s (in_bytes_lem codes) (in_bytes_lem transitions) (parts c s (in_bytes_lem codes) (in_bytes_lem transitions) state room row).1

  pub ready : Ready (words_in codes) (words_in transitions) state
  unfolding in_bytes_lem
  ready = record {
    few = table-passed.few;
    inside = record { sources = table-passed.source; targets = table-passed.target };
    long = (slices-long (length (words_in codes)) state room (parts c s (in_bytes_lem codes) (in_bytes_lem transitions) state room row).3).0;
  }

  pub fits : length (words_in codes) ≤ room
  unfolding in_bytes_lem
  fits = (slices-long (length (words_in codes)) state room (parts c s (in_bytes_lem codes) (in_bytes_lem transitions) state room row).3).1

  pub call-passed : s ≤ 16 → Callable c state
  call-passed h = let p = parts c s (in_bytes_lem codes) (in_bytes_lem transitions) state room row in callable c s state h p.0 p.2

-- ---- the answer, by what refuses

leaves_old : (k : ℕ) → 0 < k → (new old : List ℕ) → old ≡ left_by_lem k new old
unfolding left_by_lem
leaves_old zero l new old = absurd (omega arith)
leaves_old (suc k) l new old = refl

module _ {refusal : Result ⊤ Refusal} {c : LiveCall} {q : ℕ} {codes ts state set : List ℕ} where
  pub refused-by : (r : Refusal) {after : List ℕ} → refusal ≡ Err r → after ≡ state → CalledBy refusal c q codes ts state set after set (Err r)
  unfolding answer_by
  refused-by r e b = rw (e, b) (record {
    answered = refl;
    state_left = leaves_old (number_of r) (number-above r) (effect c q codes ts state) state;
    set_left = leaves_old (number_of r) (number-above r) (put 0 (shown (length codes) (effect c q codes ts state)) set) set;
  })

  pub served-by : {left state' set' : List ℕ} {v : LiveCounts} → refusal ≡ Ok tt → left ≡ effect c q codes ts state → Counted (length codes) left set state' set' v
      → CalledBy refusal c q codes ts state set state' set' (Ok v)
  unfolding answer_by left_by_lem
  served-by e l C = let D = rw l at C in rw e (record { answered = ap Ok D.counts; state_left = D.state_left; set_left = D.set_left })

-- what the row of an arrival that was tried at once says
module _ (c : LiveCall) (s : ℕ) (codes transitions : Lent) (state : List ℕ) (room : ℕ) where
  pub row-passed : live_call_row c s codes transitions state room ≡ 0 → first_refusal (live_call_rows c s codes transitions state room) ≡ Ok tt
  unfolding live_call_row
  row-passed e = refusal-passes _ e

  pub row-table : live_call_row c s codes transitions state room ≡ 15 → first_refusal (live_call_rows c s codes transitions state room) ≡ Err Table
  unfolding live_call_row first_row first_refusal
  row-table e = refusal-same (live_call_rows c s codes transitions state room) (check true Table ∷ []) e

-- ---- for the file

module _ (c : LiveCall) (f : List ℕ) (codes transitions : Lent) (state : List ℕ) (room : ℕ) where
  file-refuses : (r : Refusal) → first_refusal (file_rows_lem f) ≡ Err r → first_refusal (live_rows c f codes transitions state room) ≡ Err r
  file-refuses r e = refusal-left (file_rows_lem f) _ r e

  file-passes : first_refusal (file_rows_lem f) ≡ Ok tt
      → first_refusal (live_rows c f codes transitions state room) ≡ first_refusal (live_call_rows c (rule_in f).s codes transitions state room)
  file-passes e = refusal-right (file_rows_lem f) _ e

  file-passed : live_row c f codes transitions state room ≡ 0 → (file_row f ≡ 0) × (live_call_row c (rule_in f).s codes transitions state room ≡ 0)
  unfolding live_row live_call_row file_row
  file-passed e = first-parts (file_rows_lem f) _ (file-numbered f) e

  all-passed : live_row c f codes transitions state room ≡ 0 → first_refusal (live_rows c f codes transitions state room) ≡ Ok tt
  unfolding live_row
  all-passed e = refusal-passes _ e

-- no row refuses a file that was read
reads : {f : List ℕ} {l : Layout} → read.Served f l → first_refusal (file_rows_lem f) ≡ Ok tt
reads {f = f} S = refusal-passes (file_rows_lem f) (unfold file_row in S.row)

-- a call that no row refuses, of what a history left, is one that the history may go on with
may-serve : (q s : ℕ) (codes ts : List ℕ) → length codes ≤ 65536 → (h : History) (c : LiveCall) (state : List ℕ) → Served s h
    → first_row (arrival_rows s c) ≡ 0 → first_row (log_rows c state) ≡ 0 → Gets c q codes ts h state → Serves s (log_of h) c
may-serve q s codes ts few h c state S e f = by c e f
  where
    g : Log
    g = log_of h

    K : Small g
    K = small s h S

    rest : List ℕ
    rest = drop state_length_lem state

    bytes : take state_length_lem state ≡ state_of q codes ts h → state ≡ state_of q codes ts h ++ rest
    bytes k = sym (take-append-drop state_length_lem state) ∙ ap (λ (x : List ℕ). x ++ rest) k

    number : take state_length_lem state ≡ state_of q codes ts h → number_in state ≡ length g.letters
    number k = ap number_in (bytes k ∙ state-bytes q codes ts h rest) ∙ number-told q codes ts few g K rest

    by : (c : LiveCall) → first_row (arrival_rows s c) ≡ 0 → first_row (log_rows c state) ≡ 0 → Gets c q codes ts h state → Serves s g c
    by Start e f k = tt
    by (Arrive a) e f k = (letter_known s a e, let n = not_full a state f in let i = number k in omega (arith, n, i))
    by Withdraw e f k = let n = not_none state f in let i = number k in omega (arith, n, i)
    by (Mark m) e f k = mark-known m state f
    by (Return m) e f k =
        let (l, t) = return-known m state f in
        (l, sym (mark-told q codes ts few g K rest m l) ∙ ap (λ (x : List ℕ). is_marked_lem x m) (sym (bytes k ∙ state-bytes q codes ts h rest)) ∙ t)

module _ (c : LiveCall) (f codes transitions state set : List ℕ) where
  abbrev Called : Result ⊤ Refusal → ℕ → List ℕ → List ℕ → Result LiveCounts Refusal → Type 0
  Called refusal q state' set' v = CalledBy refusal c q (words_in codes) (words_in transitions) state set state' set' v

  -- what holds of the refusal holds for the file
  pub called-whole : (state' set' : List ℕ) (v : Result LiveCounts Refusal)
      → Called (first_refusal (live_rows c f (in_bytes_lem codes) (in_bytes_lem transitions) state (length set))) (rule_in f).initial state' set' v
      → LiveCalled c f (in_bytes_lem codes) (in_bytes_lem transitions) state set state' set' v
  unfolding in_bytes_lem
  called-whole state' set' v C = record {
    called = C;
    goes_on = λ e h S k.
        let (i, j) = file-passed c f (in_bytes_lem codes) (in_bytes_lem transitions) state (length set) e in
        let p = parts c (rule_in f).s (in_bytes_lem codes) (in_bytes_lem transitions) state (length set) j in
        let R = ready c (rule_in f).s codes transitions state (length set) (row-passed c (rule_in f).s (in_bytes_lem codes) (in_bytes_lem transitions) state (length set) j) in
        leaves (rule_in f) (accepted-passing f i) (words_in codes) (words_in transitions) R.few R.inside h c state set state' set' v S
        (may-serve (rule_in f).initial (rule_in f).s (words_in codes) (words_in transitions) R.few h c state S p.0 p.2 k) k
        (subst (λ (n : Result ⊤ Refusal). Called n (rule_in f).initial state' set' v) (all-passed c f (in_bytes_lem codes) (in_bytes_lem transitions) state (length set) e) C);
  }

  pub file-refused : (r : Refusal) → first_refusal (file_rows_lem f) ≡ Err r → LiveCalled c f (in_bytes_lem codes) (in_bytes_lem transitions) state set state set (Err r)
  file-refused r e = called-whole state set (Err r) (refused-by r (file-refuses c f (in_bytes_lem codes) (in_bytes_lem transitions) state (length set) r e) refl)

  -- what the answer for the head that was read is for the file
  pub file-served : (l : Layout) (state' set' : List ℕ) (v : Result LiveCounts Refusal) → read.Served f l
      → Called (first_refusal (live_call_rows c l.head.s (in_bytes_lem codes) (in_bytes_lem transitions) state (length set))) l.head.initial state' set' v
      → LiveCalled c f (in_bytes_lem codes) (in_bytes_lem transitions) state set state' set' v
  file-served l state' set' v S C =
      let D = subst (λ (r : Rule). Called (first_refusal (live_call_rows c r.s (in_bytes_lem codes) (in_bytes_lem transitions) state (length set))) r.initial state' set' v) S.rule C in
      called-whole state' set' v
      (subst (λ (j : Result ⊤ Refusal). Called j (rule_in f).initial state' set' v) (sym (file-passes c f (in_bytes_lem codes) (in_bytes_lem transitions) state (length set) (reads S))) D)

-- the initial state of an accepted file's rule is below 8, and it has at most 16 letters
pub head-low : (f : List ℕ) (l : Layout) → read.Served f l → (l.head.initial < 8) × (l.head.s ≤ 16)
head-low f l S =
    let P : Passing (rule_of l.head (counts_of_lem f) (clauses_of_lem f)) = rw S.rule S.passing in
    (omega (arith, P.formed.initial_state, P.formed.few_states), P.formed.few_letters)
