-- What is refused of what a history left: 30 to 33 by the letters held and the marks.
use mathlib.Core.Path.{◌≡◌, refl, sym, ap, ◌∙◌}
use mathlib.Core.List.{List, [], ◌∷◌, ◌++◌}
use Prim.Native.Nat.{ℕ, ◌≤◌, ◌<◌}
use native.Mathlib.Omega.{arith}
use lib.Dec.{eqb, leb, ltb}
use lib.ListN.{length, take, drop, take-append-drop}
use borrow.Author.Tests.{ltb-false}
use Rattle.sets.proofs.Bools.{bif}
use Rattle.refusals.specs.Rows.{check, first_row}
use Rattle.refusals.specs.declared.Refusal.TheVariants.{LogFull, LogEmpty}
use Rattle.live_spec.specs.declared.LiveCall.{LiveCall}
use Rattle.live_spec.specs.declared.LiveCall.TheVariants.{Start, Arrive, Withdraw, Mark, Return}
use Rattle.live_spec.specs.Called.{Gets}
use Rattle.live_spec.specs.History.{History, is_set, log_of, Served}
use Rattle.live_spec.specs.Rows.{log_rows, held_rows}
use Rattle.live_spec.specs.State.{state_length_lem, state_of, number_in, is_marked_lem}
use Rattle.live_laws.proofs.Histories.{small, state-bytes}
use Rattle.live_laws.proofs.Leaves.{number-told, mark-told}

module _ (q s : ℕ) (codes ts : List ℕ) (few : length codes ≤ 65536) (h : History) (S : Served s h) (state : List ℕ) (left : take state_length_lem state ≡ state_of q codes ts h) where
  abbrev rest : List ℕ
  rest = drop state_length_lem state

  bytes : state ≡ state_of q codes ts h ++ rest
  bytes = sym (take-append-drop state_length_lem state) ∙ ap (λ (x : List ℕ). x ++ rest) left

  -- the number of letters held, and whether a mark is set, stand in state
  pub number_of : number_in state ≡ length (log_of h).letters
  number_of = ap number_in (bytes ∙ state-bytes q codes ts h rest) ∙ number-told q codes ts few (log_of h) (small s h S) rest

  pub mark_of : (m : ℕ) → m < 16 → is_marked_lem state m ≡ is_set ((log_of h).marks m)
  mark_of m l = ap (λ (x : List ℕ). is_marked_lem x m) (bytes ∙ state-bytes q codes ts h rest) ∙ mark-told q codes ts few (log_of h) (small s h S) rest m l

-- "30, arrival at 512 letters; 31, withdrawal from none"; "32, mark number above 15; 33, return to a mark not set since the start"
pub refused-by-log : (q s : ℕ) (codes ts : List ℕ) → length codes ≤ 65536 → (h : History) → Served s h → (c : LiveCall) (state : List ℕ) → Gets c q codes ts h state
    → first_row (log_rows c state) ≡ first_row (held_rows c (log_of h))
unfolding log_rows held_rows first_row
refused-by-log q s codes ts few h S Start state e = refl
refused-by-log q s codes ts few h S (Arrive a) state e = ap (λ (n : ℕ). first_row (check (leb 512 n) LogFull ∷ [])) (number_of q s codes ts few h S state e)
refused-by-log q s codes ts few h S Withdraw state e = ap (λ (n : ℕ). first_row (check (eqb n 0) LogEmpty ∷ [])) (number_of q s codes ts few h S state e)
refused-by-log q s codes ts few h S (Mark m) state e = refl
refused-by-log q s codes ts few h S (Return m) state e =
    bif (ltb 15 m) (λ t. rw t) (λ t. rw (mark_of q s codes ts few h S state e m (omega (arith, ltb-false 15 m t))))
