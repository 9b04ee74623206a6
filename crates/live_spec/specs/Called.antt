-- What a call answers and leaves, of any bytes, and what that is for a history.
use Rattle.std.specs.Prelude.{◌≡◌, ◌↔◌, true, List, ◌++◌, ℕ, zero, suc, ◌≤◌, ◌<◌, length, take, drop, Result, Ok, ⊤}
use Rattle.std.specs.Result.{result_and}
use Rattle.refusals.specs.declared.Refusal.{Refusal}
use Rattle.refusals.specs.Rows.{first_refusal, row_of}
use Rattle.theory.specs.Rule.{Rule}
use Rattle.theory.specs.Sequence.{AcceptsSequence}
use Rattle.theory.specs.TableComputed.{macrostates}
use Rattle.file_spec.specs.File.{rule_in}
use Rattle.table_lent.specs.Lent.{Lent}
use Rattle.trim_spec.specs.Matters.{ListsMattering}
use Rattle.live_spec.specs.declared.LiveCounts.{LiveCounts}
use Rattle.live_spec.specs.Reached.{ReachedOver, Continues, Accepted}
use Rattle.live_spec.specs.Afresh.{is_in, afresh, members_of}
use Rattle.live_spec.specs.Effects.{put, started, arrived, withdrawn, marked, returned, shown}
use Rattle.live_spec.specs.declared.LiveCall.{LiveCall}
use Rattle.live_spec.specs.declared.LiveCall.TheVariants.{Start, Arrive, Withdraw, Mark, Return}
use Rattle.live_spec.specs.History.{History, later, held, Served}
use Rattle.live_spec.specs.Rows.{live_rows, live_row}
use Rattle.live_spec.specs.State.{state_length_lem, state_of, number_in, set_bytes}

-- what a served call leaves of state, for the initial state q of a rule and the numbers of a table
unfoldable pub effect : LiveCall → ℕ → List ℕ → List ℕ → List ℕ → List ℕ
effect Start q codes transitions state = started q codes transitions state
effect (Arrive a) q codes transitions state = arrived q codes transitions a state
effect Withdraw q codes transitions state = withdrawn q codes transitions state
effect (Mark m) q codes transitions state = marked m state
effect (Return m) q codes transitions state = returned q codes transitions m state

-- by what refuses: how many letters the state that is left holds, and how many of n macrostates its set, or the refusal alone
unfoldable pub answer_by : Result ⊤ Refusal → ℕ → List ℕ → Result LiveCounts Refusal
answer_by refusal n left = result_and refusal (Ok (record { letters = number_in left; macrostates = members_of n (set_bytes left) }))

-- by the row, or 0: what is left of a slice. "A refused call changes nothing."
unfoldable pub left_by_lem : ℕ → List ℕ → List ℕ → List ℕ
left_by_lem zero new old = new
left_by_lem (suc k) new old = old

-- by what refuses: the answer v, and both slices before and after, for the initial state q of a rule and the numbers of a table
pub record CalledBy (refusal : Result ⊤ Refusal) (c : LiveCall) (q : ℕ) (codes transitions state set state' set' : List ℕ) (v : Result LiveCounts Refusal) : Type 0 where
  pub answered : v ≡ answer_by refusal (length codes) (effect c q codes transitions state)
  pub state_left : state' ≡ left_by_lem (row_of refusal) (effect c q codes transitions state) state
  pub set_left : set' ≡ left_by_lem (row_of refusal) (put 0 (shown (length codes) (effect c q codes transitions state)) set) set

-- ---- where every call gets "the start's rule, its M-104 table and the state left last"

-- the state that a call gets: of a start, any; else the one that the history left
abbrev pub Gets : LiveCall → ℕ → List ℕ → List ℕ → History → List ℕ → Type 0
Gets Start q codes transitions h state = Unit {0}
Gets (Arrive a) q codes transitions h state = take state_length_lem state ≡ state_of q codes transitions h
Gets Withdraw q codes transitions h state = take state_length_lem state ≡ state_of q codes transitions h
Gets (Mark m) q codes transitions h state = take state_length_lem state ≡ state_of q codes transitions h
Gets (Return m) q codes transitions h state = take state_length_lem state ≡ state_of q codes transitions h

-- the M-104 table of a rule, which the build gives where row 17, of the reachable macrostates, does not refuse
pub record TrimmedTable (r : Rule) (codes transitions : List ℕ) : Type 0 where
  pub room : length (macrostates r) ≤ 65536
  pub lists : ListsMattering r codes transitions

-- what the history leaves, in front of the rest as lent; the set must "equal the set worked out afresh"
pub record Leaves (r : Rule) (codes transitions : List ℕ) (h : History) (state set state' set' : List ℕ) (v : Result LiveCounts Refusal) : Type 0 where
  -- the history is one of served calls
  pub served : Served r.s h
  pub answered : v ≡ Ok (record { letters = length (held h); macrostates = members_of (length codes) (afresh r.initial codes transitions (held h)) })
  pub state_left : state' ≡ state_of r.initial codes transitions h ++ drop state_length_lem state
  pub set_left : set' ≡ afresh r.initial codes transitions (held h) ++ drop (length codes) set
  -- 02: "the set of M-104 macrostates reachable from the initial ones over the letters held"
  pub reached : (y : ℕ) → (is_in (afresh r.initial codes transitions (held h)) y ≡ true) ↔ ReachedOver r codes transitions (held h) y
  -- of the M-104 table: "An empty set means that no continuation which ends in a cycle is accepted, and a non-empty one means that some is."
  pub empty : TrimmedTable r codes transitions → (members_of (length codes) (afresh r.initial codes transitions (held h)) ≡ 0) ↔ (Accepted r (held h) → ⊥)
  -- and that no endless continuation whatever is accepted
  pub empty_endless : TrimmedTable r codes transitions → members_of (length codes) (afresh r.initial codes transitions (held h)) ≡ 0
      → (w : ℕ → ℕ) → Continues r.s (held h) w → AcceptsSequence r w → ⊥
  pub some_left : TrimmedTable r codes transitions → (0 < members_of (length codes) (afresh r.initial codes transitions (held h))) ↔ Accepted r (held h)

-- a call of a file and a lent table
pub record LiveCalled (c : LiveCall) (f : List ℕ) (codes transitions : Lent) (state set state' set' : List ℕ) (v : Result LiveCounts Refusal) : Type 0 where
  pub called : CalledBy (first_refusal (live_rows c f codes transitions state (length set))) c (rule_in f).initial codes.numbers transitions.numbers state set state' set' v
  -- a served call that gets what a history left leaves what the longer history leaves, whatever set held
  pub goes_on : live_row c f codes transitions state (length set) ≡ 0 → (h : History) → Served (rule_in f).s h
      → Gets c (rule_in f).initial codes.numbers transitions.numbers h state
      → Leaves (rule_in f) codes.numbers transitions.numbers (later h c) state set state' set' v
