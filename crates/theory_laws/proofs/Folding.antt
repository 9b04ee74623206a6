-- A walk that comes back to a step of its own is a run over a word: its letters up to that step are the lead-in, those behind it the cycle.
use mathlib.Core.Path.{◌≡◌, refl, sym, ap, ◌∙◌}
use mathlib.Core.Logic.{by_cases}
use mathlib.Core.List.Memᴰ
use mathlib.Core.List.{List, Memᴰ}
use Prim.Native.Nat.{ℕ, zero, suc, ◌+◌, ◌-◌, ◌<◌}
use native.Mathlib.Omega.{arith}
use native.Mathlib.Nat.{zero-add}
use native.Mathlib.Decide.{ℕ_discrete}
use lib.ListN.{length, get_or, take, drop, length-drop, take-append-drop}
use lib.Seq.{length-take-le}
use Rattle.sets.specs.Lists.{tabulate}
use Rattle.sets.proofs.Lists.{length-tabulate, tabulate-at, tabulate-out}
use Rattle.theory.specs.Word.{next_place_lem, letter_at_lem, place, letters, WordOver}
use Rattle.theory_laws.proofs.Places.{next-place-last, next-place-other, places-low}

-- z k is the node and a k the letter of step k; step j is at the node of step i again
module _ (a : ℕ → ℕ) (i j : ℕ) (later : i < j) where
  abbrev whole : List ℕ
  whole = tabulate j a 0

  abbrev pub lead_of : List ℕ
  lead_of = take i whole

  abbrev pub cycle_of : List ℕ
  cycle_of = drop i whole

  lead_long : length lead_of ≡ i
  lead_long = let e = length-tabulate j a 0 in length-take-le i whole (omega arith)

  cycle_long : length cycle_of ≡ j - i
  cycle_long = let e = length-tabulate j a 0 in length-drop i whole ∙ omega arith

  pub folded-repeats : 0 < length cycle_of
  folded-repeats = let e = cycle_long in omega arith

  -- the step of the walk that a step of the word is folded onto
  abbrev pub at : ℕ → ℕ
  at = place (next_place_lem lead_of cycle_of)

  pub at_low : (k : ℕ) → at k < j
  at_low k = let l = places-low lead_of cycle_of folded-repeats k in let e = lead_long in let f = cycle_long in omega arith

  pub at_first : at 0 ≡ 0
  unfolding place
  at_first = refl

  pub letter_at : (k : ℕ) → letters lead_of cycle_of k ≡ a (at k)
  unfolding letter_at_lem
  letter_at k = ap (λ (l : List ℕ). get_or l (at k) 0) (take-append-drop i whole) ∙ tabulate-at j a 0 (at k) (at_low k) ∙ ap a (zero-add (at k))

  at_last : (k : ℕ) → suc (at k) ≡ j → at (suc k) ≡ i
  unfolding place
  at_last k e = let f = lead_long in let g = cycle_long in next-place-last lead_of cycle_of (at k) (omega arith) ∙ f

  pub at_other : (k : ℕ) → (suc (at k) ≡ j → ⊥) → at (suc k) ≡ suc (at k)
  unfolding place
  at_other k n = let f = lead_long in let g = cycle_long in next-place-other lead_of cycle_of (at k) (λ e. n (omega arith))

  -- up to step j the word is as the walk
  pub at-early : (k : ℕ) → k < j → at k ≡ k
  at-early zero l = at_first
  at-early (suc k) l = let e = at-early k (omega arith) in at_other k (λ f. omega arith) ∙ ap suc e

  -- the node after a step
  pub at_next : (z : ℕ → ℕ) → z i ≡ z j → (k : ℕ) → z (suc (at k)) ≡ z (at (suc k))
  at_next z same k = by_cases (ℕ_discrete (suc (at k)) j) (λ e. ap z e ∙ sym same ∙ ap z (sym (at_last k e))) (λ n. ap z (sym (at_other k n)))

  -- step i is folded onto again and again
  back_in : (d k : ℕ) → at k + suc d ≡ j → (n : ℕ) × (k < n) × (at n ≡ i)
  back_in zero k e = (suc k, omega arith, at_last k (omega arith))
  back_in (suc d) k e = let f = at_other k (λ g. omega arith) in let r = back_in d (suc k) (omega arith) in (r.0, omega (arith, r.1), r.2)

  pub at_again : (k : ℕ) → (n : ℕ) × (k < n) × (at n ≡ i)
  at_again k = let l = at_low k in back_in (j - suc (at k)) k (omega arith)

  pub folded-word : (s : ℕ) → ((k : ℕ) → a k < s) → WordOver s lead_of cycle_of
  folded-word s low = record {
    repeats = folded-repeats;
    lead_letters = λ x m. known x (rw (take-append-drop i whole) at (Memᴰ.append_left (drop i whole) m));
    cycle_letters = λ x m. known x (rw (take-append-drop i whole) at (Memᴰ.append_right (take i whole) m));
  }
    where
      known : (x : ℕ) → Memᴰ x whole → x < s
      known x m = let r = tabulate-out j a x m in rw r.2 (low r.0)
