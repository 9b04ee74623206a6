-- A served call that gets what a history left leaves what the longer history leaves.
use mathlib.Core.Path.{◌≡◌, sym, ap, ap₂, ◌∙◌}
use mathlib.Core.List.{List, ◌++◌}
use Prim.Native.Nat.{ℕ, ◌+◌, ◌≤◌, ◌<◌}
use native.Mathlib.Omega.{arith}
use native.Mathlib.Nat.{zero-add}
use lib.Dec.{ltb}
use lib.ListN.{length, get_or, take, drop, take-append-drop}
use lib.Seq.{ext_get_or, take_at}
use Rattle.sets.specs.Lists.{tabulate}
use Rattle.sets.specs.Tests.{one}
use Rattle.sets.proofs.Lists.{length-tabulate}
use Rattle.sets.proofs.Tests.{count-ext}
use Rattle.std.specs.Prelude.{Result, Ok}
use Rattle.refusals.specs.declared.Refusal.{Refusal}
use Rattle.theory.specs.Passing.{Passing}
use Rattle.theory.specs.Rule.{Rule}
use Rattle.trim_spec.specs.Graph.{Inside}
use Rattle.live_spec.specs.declared.LiveCounts.{LiveCounts}
use Rattle.live_spec.specs.declared.LiveCall.{LiveCall}
use Rattle.live_spec.specs.declared.LiveCall.TheVariants.{Start, Arrive, Withdraw, Mark, Return}
use Rattle.live_spec.specs.Afresh.{is_in, afresh, members_of}
use Rattle.live_spec.specs.History.{History, later, is_set, Log, log_of, Serves, Served}
use Rattle.live_spec.specs.State.{state_length_lem, state_of, number_in, is_marked_lem, set_bytes}
use Rattle.live_spec.specs.Effects.{put, shown}
use Rattle.live_spec.specs.Called.{effect, answer_by, left_by_lem, CalledBy, Gets, Leaves}
use Rattle.live_spec.proofs.Steps.{in_one, table_at}
use Rattle.live_laws.proofs.Empty.{some_left, none_left, none-endless}
use Rattle.live_laws.proofs.Histories.{Onward, Small, small, held_by, state-bytes, state-long, start-goes, call-goes}
use Rattle.live_laws.proofs.Reached.{afresh-length, afresh-bytes, reached-iff}
use Rattle.live_laws.proofs.States.{bytes_of, Held, number-held, flag-held, set-at}

-- ---- what is told of a state's bytes

module _ (q : ℕ) (codes ts : List ℕ) (room : length codes ≤ 65536) (g : Log) (S : Small g) (rest : List ℕ) where
  abbrev set : List ℕ
  set = afresh q codes ts g.letters

  abbrev state : List ℕ
  state = bytes_of g.letters g.marks set rest

  set-length : length set ≡ length codes
  set-length = afresh-length q codes ts g.letters

  abbrev H : Held g.letters g.marks set
  H = held_by q codes ts room g S

  pub number-told : number_in state ≡ length g.letters
  number-told = number-held rest H

  pub mark-told : (m : ℕ) → m < 16 → is_marked_lem state m ≡ is_set (g.marks m)
  unfolding is_marked_lem
  mark-told m h = ap (ltb 0) (flag-held rest H m h) ∙ in_one (is_set (g.marks m))

  byte_at : (y : ℕ) → y < length codes → get_or (set_bytes state) y 0 ≡ get_or set y 0
  byte_at y l = set-at rest H y (omega (arith, set-length))

  pub members-told : members_of (length codes) (set_bytes state) ≡ members_of (length codes) set
  unfolding members_of
  members-told = count-ext (length codes) (is_in (set_bytes state)) (is_in set) (λ y l. ap (ltb 0) (byte_at y l))

  pub set-shown : shown (length codes) state ≡ set
  unfolding shown
  set-shown =
      let n = length codes in
      let f : ℕ → ℕ = λ y. one (is_in (set_bytes state) y) in
      let e : length (tabulate n f 0) ≡ n = length-tabulate n f 0 in
      ext_get_or 0 (tabulate n f 0) set (e ∙ sym set-length) (λ y l.
      let k : y < n = rw e at l in
      table_at n f y k ∙ ap (λ (v : ℕ). one (ltb 0 v)) (byte_at y k) ∙ afresh-bytes q codes ts g.letters y (let i = set-length in omega (arith, k, i)))

-- ---- the call

module _ (r : Rule) (P : Passing r) (codes ts : List ℕ) (room : length codes ≤ 65536) (inside : Inside (length codes) ts) where
  -- by what is left of state
  by-effect : (h : History) (c : LiveCall) (state set state' set' : List ℕ) (v : Result LiveCounts Refusal) → Served r.s (later h c)
      → effect c r.initial codes ts state ≡ state_of r.initial codes ts (later h c) ++ drop state_length_lem state
      → CalledBy (Ok tt) c r.initial codes ts state set state' set' v → Leaves r codes ts (later h c) state set state' set' v
  unfolding answer_by left_by_lem put
  by-effect h c state set state' set' v S e C =
      let q = r.initial in
      let g = log_of (later h c) in
      let rest = drop state_length_lem state in
      let K = small r.s (later h c) S in
      let n = length codes in
      let f : effect c q codes ts state ≡ bytes_of g.letters g.marks (afresh q codes ts g.letters) rest = e ∙ state-bytes q codes ts (later h c) rest in
      let shows : shown n (effect c q codes ts state) ≡ afresh q codes ts g.letters = ap (shown n) f ∙ set-shown q codes ts room g K rest in
      record {
        served = S;
        answered = C.answered ∙ ap₂ (λ (x y : ℕ). Ok (record { letters = x; macrostates = y }))
            (ap number_in f ∙ number-told q codes ts room g K rest)
            (ap (λ (x : List ℕ). members_of n (set_bytes x)) f ∙ members-told q codes ts room g K rest);
        state_left = C.state_left ∙ e;
        set_left = C.set_left ∙ ap (λ (x : List ℕ). x ++ drop (0 + length x) set) shows
            ∙ ap (λ (k : ℕ). afresh q codes ts g.letters ++ drop k set) (zero-add (length (afresh q codes ts g.letters)) ∙ afresh-length q codes ts g.letters);
        reached = λ y. reached-iff r codes ts inside.targets g.letters y;
        empty = λ T. none_left r P T.room codes ts T.lists g.letters;
        empty_endless = λ T. none-endless r P T.room codes ts T.lists g.letters;
        some_left = λ T. some_left r P T.room codes ts T.lists g.letters;
      }

  -- by what the call gets
  got : (h : History) (c : LiveCall) (state : List ℕ) → Served r.s h → Serves r.s (log_of h) c → Onward c → take state_length_lem state ≡ state_of r.initial codes ts h
      → effect c r.initial codes ts state ≡ state_of r.initial codes ts (later h c) ++ drop state_length_lem state
  got h c state S k n e =
      ap (effect c r.initial codes ts) (sym (take-append-drop state_length_lem state) ∙ ap (λ (x : List ℕ). x ++ drop state_length_lem state) e)
      ∙ call-goes r.initial codes ts room inside.sources r.s h c (drop state_length_lem state) S k n

  front : (h : History) (state set state' set' : List ℕ) (v : Result LiveCounts Refusal) → Leaves r codes ts h state set state' set' v → take state_length_lem state' ≡ state_of r.initial codes ts h
  front h state set state' set' v L =
      ap (take state_length_lem) L.state_left ∙ take_at (state_of r.initial codes ts h) (drop state_length_lem state) state_length_lem (state-long r.initial codes ts r.s h L.served room)

  pub leaves : (h : History) (c : LiveCall) (state set state' set' : List ℕ) (v : Result LiveCounts Refusal) → Served r.s h → Serves r.s (log_of h) c → Gets c r.initial codes ts h state
      → CalledBy (Ok tt) c r.initial codes ts state set state' set' v → Leaves r codes ts (later h c) state set state' set' v
  leaves h Start state set state' set' v S k e C = by-effect h Start state set state' set' v (S, k) (start-goes r.initial codes ts room inside.sources h state) C
  leaves h (Arrive a) state set state' set' v S k e C = by-effect h (Arrive a) state set state' set' v (S, k) (got h (Arrive a) state S k tt e) C
  leaves h Withdraw state set state' set' v S k e C = by-effect h Withdraw state set state' set' v (S, k) (got h Withdraw state S k tt e) C
  leaves h (Mark m) state set state' set' v S k e C = by-effect h (Mark m) state set state' set' v (S, k) (got h (Mark m) state S k tt e) C
  leaves h (Return m) state set state' set' v S k e C = by-effect h (Return m) state set state' set' v (S, k) (got h (Return m) state S k tt e) C

  -- what was left is what the next call gets
  pub left-is-got : (h : History) (c : LiveCall) (state set state' set' : List ℕ) (v : Result LiveCounts Refusal) → Leaves r codes ts h state set state' set' v → Onward c → Gets c r.initial codes ts h state'
  left-is-got h Start state set state' set' v L n = absurd n
  left-is-got h (Arrive a) state set state' set' v L n = front h state set state' set' v L
  left-is-got h Withdraw state set state' set' v L n = front h state set state' set' v L
  left-is-got h (Mark m) state set state' set' v L n = front h state set state' set' v L
  left-is-got h (Return m) state set state' set' v L n = front h state set state' set' v L
