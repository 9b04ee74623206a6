-- What a tried arrival comes to.
use mathlib.Core.Path.{◌≡◌, refl, sym, ◌∙◌, ap}
use mathlib.Core.Logic.{by_cases}
use mathlib.Core.Bool.{Bool, true, false, not, cond}
use mathlib.Core.List.{List, [], ◌∷◌, ◌++◌, Memᴰ}
use Prim.Native.Nat.{ℕ, ◌+◌, ◌-◌, ◌/◌, ◌%◌, ◌^◌, ◌≤◌, ◌<◌}
use native.Mathlib.Decide.{dec_lt}
use native.Mathlib.Omega.{arith}
use lib.ListN.{length, get_or, take, drop, length-take, length-drop, get_or-eq_default}
use lib.Seq.{get_or-take, get_or-drop, length-take-le}
use borrow.Author.Tests.{eq-eqb, le-ltb, not-true}
use Rattle.sets.specs.Lists.{any_of}
use Rattle.sets.proofs.Bools.{bif, and_r}
use Rattle.sets.proofs.Lists.{none_any, any_none, place_of}
use Rattle.refusals.specs.Rows.{first_row}
use Rattle.slice_search.specs.Places.{ascends}
use Rattle.table_lent.specs.Lent.{words_in, in_bytes_lem, is_high, is_astray_lem, is_faulty_lem, table_rows_lem, table_row_lem}
use Rattle.table_rows.proofs.Faults.{not-high, range}
use Rattle.trim_spec.specs.Graph.{Inside}
use Rattle.live_spec.specs.declared.LiveCall.{LiveCall}
use Rattle.live_spec.specs.declared.LiveCall.TheVariants.{Arrive}
use Rattle.live_spec.specs.Afresh.{stepped}
use Rattle.live_spec.specs.State.{set_at, state_length_lem, letters_at_byte, two_bytes, number_in, set_bytes}
use Rattle.live_spec.specs.Effects.{put, numbered, with_set, arrived}
use Rattle.live_spec.specs.Rows.{arrival_rows, live_call_row}
use Rattle.live_spec.specs.Called.{effect}
use Rattle.live_set.proofs.Puts.{put-long, put-before, put_in, put-behind, put-ext, put-mid, put_back}
use Rattle.live_state.proofs.Replays.{step_part}
use Rattle.live_spec.proofs.Steps.{stepped-length}
use Rattle.live_rows.proofs.Checks.{letter_known, log-free, long-enough, table-refuses, slice-answers}
use Rattle.live_arrive.proofs.Rises.{below_last}
use Rattle.live_arrive.specs.Tried.{passes, Stepped}
use Rattle.live_arrive.specs.declared.Quick.TheVariants.{Served, Refused, Untried}
use Rattle.live_arrive.specs.Quickly.{Coded, Triable, PartStepped, Quickly}

-- ---- codes

pub coded_none : {codes : List ℕ} → ascends codes ≡ true → length codes ≡ 0 → Coded codes
coded_none {codes} e z = record { ascending = e; narrow = none_any codes is_high (λ c m. let p = place_of codes c m in absurd (omega (arith, p.1))) }

pub coded-last : {codes : List ℕ} → ascends codes ≡ true → 0 < length codes → get_or codes (length codes - 1) 0 / 2 ^ 48 ≡ 0 → Coded codes
coded-last {codes} e h z = record { ascending = e; narrow = none_any codes is_high (λ c m. not-high c (omega (arith, below_last codes e c m))) }

-- ---- row 15

module _ {s a : ℕ} {codes transitions state : List ℕ} {room : ℕ} (t : Triable s a codes transitions state room) where
  abbrev n : ℕ
  n = length (words_in codes)

  -- what is left of row 15 is what it asks of the transitions
  faulty-by : is_faulty_lem s (words_in codes) (words_in transitions) ≡ not (passes n s (words_in transitions))
  unfolding is_faulty_lem passes
  faulty-by =
      rw (le-ltb 65536 n t.few, t.coded.ascending, t.coded.narrow)
      (bif (ascends (words_in transitions)) (λ u. rw u (bif (any_of (words_in transitions) (is_astray_lem n s)) (λ v. rw v) (λ v. rw v))) (λ u. rw u))

  table-by : table_row_lem s (in_bytes_lem codes) (in_bytes_lem transitions) ≡ cond (not (passes n s (words_in transitions))) 15 0
  unfolding table_row_lem table_rows_lem first_row in_bytes_lem
  table-by = rw (eq-eqb (length codes % 8) 0 t.whole, eq-eqb (length transitions % 8) 0 t.whole_transitions, faulty-by)

  letter : first_row (arrival_rows s (Arrive a)) ≡ 0
  letter = sym (letter_known s (Arrive a) a refl t.known)

  -- 15 for the transitions
  pub fifteen : passes n s (words_in transitions) ≡ false → live_call_row (Arrive a) s (in_bytes_lem codes) (in_bytes_lem transitions) state room ≡ 15
  fifteen e = sym (table-refuses (Arrive a) s (in_bytes_lem codes) (in_bytes_lem transitions) state room letter 15 (λ z. omega arith) (sym (table-by ∙ rw e)))

  -- or no row
  pub no_row : passes n s (words_in transitions) ≡ true → live_call_row (Arrive a) s (in_bytes_lem codes) (in_bytes_lem transitions) state room ≡ 0
  unfolding in_bytes_lem
  no_row e =
      sym
      (slice-answers (Arrive a) s (in_bytes_lem codes) (in_bytes_lem transitions) state room letter (table-by ∙ rw e) (sym (log-free (Arrive a) state a refl t.free)) 0
      (long-enough n state room t.long t.fits))

-- ---- the set of state

-- bytes 0 or 1, read in their part
pub part-flags : (at n : ℕ) (bytes : List ℕ) → at + n ≤ length bytes → ((y : ℕ) → y < n → get_or bytes (at + y) 0 ≤ 1) → (y : ℕ) → get_or (take n (drop at bytes)) y 0 ≤ 1
part-flags at n bytes l h y =
    by_cases (dec_lt y n)
    (λ m. rw (get_or-take n (drop at bytes) y 0 m, get_or-drop at bytes y 0) (h y m))
    (λ m. rw (get_or-eq_default (take n (drop at bytes)) 0 {n = y} (omega (arith, length-take n (drop at bytes)))) (omega arith))

-- ---- parts written one before the other

put-agree : (at : ℕ) (part xs ys : List ℕ) (k : ℕ) → at + length part ≤ k → k ≤ length xs → k ≤ length ys → ((j : ℕ) → j < k → get_or xs j 0 ≡ get_or ys j 0)
    → (j : ℕ) → j < k → get_or (put at part xs) j 0 ≡ get_or (put at part ys) j 0
put-agree at part xs ys k l m n h j i =
    let f : at + length part ≤ length xs = omega arith in
    let g : at + length part ≤ length ys = omega arith in
    by_cases (dec_lt j at)
    (λ b. put-before at part xs f j b ∙ h j i ∙ sym (put-before at part ys g j b))
    (λ b. by_cases (dec_lt j (at + length part))
    (λ c.
    let e : j ≡ at + (j - at) = omega arith in
    ap (λ (q : ℕ). get_or (put at part xs) q 0) e ∙ put_in at part xs f (j - at) (omega arith)
    ∙ sym (ap (λ (q : ℕ). get_or (put at part ys) q 0) e ∙ put_in at part ys g (j - at) (omega arith)))
    (λ c. put-behind at part xs f j (omega arith) ∙ h j i ∙ sym (put-behind at part ys g j (omega arith))))

pub put-comm : (at : ℕ) (part : List ℕ) (to : ℕ) (other bytes : List ℕ) → at + length part ≤ to → to + length other ≤ length bytes
    → put at part (put to other bytes) ≡ put to other (put at part bytes)
put-comm at part to other bytes l m =
    let f : at + length part ≤ length bytes = omega arith in
    let long = put-long to other bytes m in
    let g : at + length part ≤ length (put to other bytes) = omega arith in
    let first = put-long at part bytes f in
    let k : to + length other ≤ length (put at part bytes) = omega arith in
    put-ext to other (put at part bytes) k (put at part (put to other bytes)) (put-long at part (put to other bytes) g ∙ long ∙ sym first)
    (λ j b. put-agree at part (put to other bytes) bytes to l (omega arith) (omega arith) (λ i c. put-before to other bytes m i c) j b)
    (λ j b. put-behind at part (put to other bytes) g (to + j) (omega arith) ∙ put_in to other bytes m j b)
    (λ j b. put-behind at part (put to other bytes) g j (omega arith) ∙ put-behind to other bytes m j b ∙ sym (put-behind at part bytes f j (omega arith)))

-- the letter and the number may be written before the set or after it
pub made : (q a : ℕ) (codes ts state : List ℕ) → state_length_lem ≤ length state → length codes ≤ 65536 → number_in state < 512 → (k n : ℕ) → k ≡ number_in state → n ≡ length codes
    → put (letters_at_byte + k) (a ∷ []) (put 0 (two_bytes (k + 1)) (with_set (stepped n ts a (set_bytes state)) state)) ≡ effect (Arrive a) q codes ts state
unfolding effect arrived numbered with_set two_bytes
made q a codes ts state long few free k n e f =
    let set = stepped (length codes) ts a (set_bytes state) in
    let m : length set ≡ length codes = stepped-length (length codes) ts a (set_bytes state) in
    let i = number_in state in
    let two = two_bytes (i + 1) in
    let first : put 0 two (put set_at set state) ≡ put set_at set (put 0 two state) = put-comm 0 two set_at set state (omega arith) (omega arith) in
    let wide : length (put 0 two state) ≡ length state = put-long 0 two state (omega arith) in
    rw (e, f)
    (ap (λ (x : List ℕ). put (letters_at_byte + i) (a ∷ []) x) first
    ∙ put-comm (letters_at_byte + i) (a ∷ []) set_at set (put 0 two state) (omega arith) (omega arith))

-- ---- the step in its part of state

passes-in : (n s : ℕ) (ts : List ℕ) → passes n s ts ≡ true → Inside n ts
unfolding passes
passes-in n s ts e =
    let none = not-true (any_of ts (is_astray_lem n s)) (and_r (ascends ts) (not (any_of ts (is_astray_lem n s))) e) in
    let at : (t : ℕ) → Memᴰ t ts → is_astray_lem n s t ≡ false = λ t m. any_none ts (is_astray_lem n s) t none m in
    record { sources = λ t m. (range n s t (at t m)).0; targets = λ t m. (range n s t (at t m)).2 }

pub part-stepped : (at k n s a : ℕ) (ts bytes last : List ℕ) (r : Bool) → k ≡ n → at ≡ set_at → at + n ≤ length bytes → Stepped s a ts (take k (drop at bytes)) last r
    → PartStepped s a n ts bytes (take at bytes ++ (last ++ drop k (drop at bytes))) r
unfolding with_set
part-stepped at k n s a ts bytes last r e f fits d =
    let part = take k (drop at bytes) in
    let long : length part ≡ n = length-take-le k (drop at bytes) (omega (arith, length-drop at bytes)) ∙ e in
    let verdict : r ≡ passes n s ts = d.verdict ∙ ap (λ (i : ℕ). passes i s ts) long in
    record {
      verdict = verdict;
      yes = λ y.
          let step : last ≡ stepped n ts a (drop at bytes) = d.yes y ∙ step_part at k n a ts bytes e fits (passes-in n s ts (sym verdict ∙ y)) in
          put-mid at k last bytes (ap (λ (l : List ℕ). length l) step ∙ stepped-length n ts a (drop at bytes) ∙ sym e)
          ∙ ap (λ (l : List ℕ). put at l bytes) step
          ∙ ap (λ (i : ℕ). put i (stepped n ts a (drop i bytes)) bytes) f;
      no = λ y. put-mid at k last bytes (ap (λ (l : List ℕ). length l) (d.no y) ∙ long ∙ sym e) ∙ ap (λ (l : List ℕ). put at l bytes) (d.no y) ∙ put_back at k bytes (omega arith);
    }

-- ---- the answer

served-refused : Served ≡ Refused → ⊥
served-refused e = let z : ◌≡◌ {A = ℕ} 0 1 = cc in omega arith

served-untried : Served ≡ Untried → ⊥
served-untried e = let z : ◌≡◌ {A = ℕ} 0 1 = cc in omega arith

refused-untried : Refused ≡ Untried → ⊥
refused-untried e = let z : ◌≡◌ {A = ℕ} 0 1 = cc in omega arith

module _ {c : LiveCall} {s : ℕ} {codes transitions state : List ℕ} {room : ℕ} where
  pub quickly-untried : Quickly c s codes transitions state room state Untried
  quickly-untried = record {
    served = λ e. absurd (served-untried (sym e));
    made = λ e. absurd (served-untried (sym e));
    refused = λ e. absurd (refused-untried (sym e));
    taken_back = λ e. absurd (refused-untried (sym e));
    untried = λ e. refl;
  }

  pub quickly-refused : {after : List ℕ} → live_call_row c s (in_bytes_lem codes) (in_bytes_lem transitions) state room ≡ 15 → after ≡ state
      → Quickly c s codes transitions state room after Refused
  quickly-refused row back = record {
    served = λ e. absurd (served-refused (sym e));
    made = λ e. absurd (served-refused (sym e));
    refused = λ e. row;
    taken_back = λ e. back;
    untried = λ e. absurd (refused-untried e);
  }

  pub quickly-served : {after : List ℕ} → live_call_row c s (in_bytes_lem codes) (in_bytes_lem transitions) state room ≡ 0
      → ((q : ℕ) → after ≡ effect c q (words_in codes) (words_in transitions) state) → Quickly c s codes transitions state room after Served
  quickly-served row left = record {
    served = λ e. row;
    made = λ e. left;
    refused = λ e. absurd (served-refused e);
    taken_back = λ e. absurd (served-refused e);
    untried = λ e. absurd (served-untried e);
  }
