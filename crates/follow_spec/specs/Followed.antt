-- What a start and a call answer and leave, of any bytes, and what that is for the letters since a start.
use Rattle.std.specs.Prelude.{◌≡◌, ◌↔◌, true, List, [], ◌++◌, ℕ, ◌<◌, length, take, drop, Result, Ok, ⊤}
use Rattle.std.specs.Result.{result_and}
use Rattle.refusals.specs.declared.Refusal.{Refusal}
use Rattle.refusals.specs.Rows.{first_refusal, row_of}
use Rattle.theory.specs.Rule.{Rule}
use Rattle.theory.specs.Sequence.{AcceptsSequence}
use Rattle.file_spec.specs.File.{rule_in}
use Rattle.table_lent.specs.Lent.{Lent}
use Rattle.live_spec.specs.Reached.{ReachedOver, Continues, Accepted}
use Rattle.live_spec.specs.Afresh.{is_in, initial_set, afresh, members_of}
use Rattle.live_spec.specs.Called.{left_by_lem, TrimmedTable}
use Rattle.follow_spec.specs.declared.FollowCounts.{FollowCounts}
use Rattle.follow_spec.specs.Set.{flags, reached, emptied_after}
use Rattle.follow_spec.specs.Rows.{follow_rows, follow_row}

-- by what refuses: how many of n macrostates are left, and the number of letters, or the refusal alone
unfoldable pub answer_by : Result ⊤ Refusal → ℕ → List ℕ → ℕ → Result FollowCounts Refusal
answer_by refusal n left letters = result_and refusal (Ok (record { left = members_of n left; letters = letters }))

-- by what refuses: the answer v, and the slice before and after: the set that is left, of n macrostates, and "bytes of set past the macrostates stay as lent"
pub record FollowedBy (refusal : Result ⊤ Refusal) (n : ℕ) (left : List ℕ) (letters : ℕ) (set set' : List ℕ) (v : Result FollowCounts Refusal) : Type 0 where
  pub answered : v ≡ answer_by refusal n left letters
  pub set_left : set' ≡ left_by_lem (row_of refusal) (left ++ drop n set) set

-- what is left over all letters since a start, in front of the rest as lent: "the set worked out afresh"
pub record FollowLeaves (r : Rule) (codes transitions letters set set' : List ℕ) : Type 0 where
  pub set_left : set' ≡ afresh r.initial codes transitions letters ++ drop (length codes) set
  -- the macrostates reachable from the initial ones over the letters
  pub reached_over : (y : ℕ) → (is_in (afresh r.initial codes transitions letters) y ≡ true) ↔ ReachedOver r codes transitions letters y
  -- of the M-104 table: "empty exactly if no continuation that ends in a cycle is accepted"
  pub empty : TrimmedTable r codes transitions → (members_of (length codes) (afresh r.initial codes transitions letters) ≡ 0) ↔ (Accepted r letters → ⊥)
  pub some_left : TrimmedTable r codes transitions → (0 < members_of (length codes) (afresh r.initial codes transitions letters)) ↔ Accepted r letters
  -- "any continuation": and no endless one whatever
  pub empty_endless : TrimmedTable r codes transitions → members_of (length codes) (afresh r.initial codes transitions letters) ≡ 0
      → (w : ℕ → ℕ) → Continues r.s letters w → AcceptsSequence r w → ⊥

-- a start, of a file and a lent table: "fills the set of the initial macrostates, a byte 0 or 1 each; first is their number"
pub record FollowStarted (f : List ℕ) (codes transitions : Lent) (set set' : List ℕ) (v : Result FollowCounts Refusal) : Type 0 where
  pub called : FollowedBy (first_refusal (follow_rows f [] codes transitions (length set))) (length codes.numbers) (initial_set (rule_in f).initial codes.numbers) 0 set set' v
  pub begins : follow_row f [] codes transitions (length set) ≡ 0 → FollowLeaves (rule_in f) codes.numbers transitions.numbers [] set set'

-- a call with some letters
pub record FollowCalled (f letters : List ℕ) (codes transitions : Lent) (set set' : List ℕ) (v : Result FollowCounts Refusal) : Type 0 where
  -- "for every table that passes 15 and every set, what is left is the set stepped over the letters"
  pub called : FollowedBy (first_refusal (follow_rows f letters codes transitions (length set))) (length codes.numbers) (reached (length codes.numbers) transitions.numbers letters set)
      (emptied_after (length codes.numbers) transitions.numbers letters (flags (length codes.numbers) set)) set set' v
  -- "where .. the set was left by a start and earlier calls, of any number and any lengths": with the letters of all of them it is the set that these lead to
  pub goes_on : follow_row f letters codes transitions (length set) ≡ 0 → (earlier : List ℕ)
      → take (length codes.numbers) set ≡ afresh (rule_in f).initial codes.numbers transitions.numbers earlier
      → FollowLeaves (rule_in f) codes.numbers transitions.numbers (earlier ++ letters) set set'
