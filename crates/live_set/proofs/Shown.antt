-- The set handed out, one byte a turn.
use mathlib.Core.Path.{◌≡◌, refl, sym, ◌∙◌, ap}
use mathlib.Core.Logic.{by_cases}
use mathlib.Core.List.{List}
use Prim.Native.Nat.{ℕ, ◌+◌, ◌≤◌, ◌<◌}
use native.Mathlib.Decide.{ℕ_discrete}
use native.Mathlib.Nat.{zero-add}
use native.Mathlib.Numerals.{add-one}
use native.Mathlib.Omega.{arith}
use lib.ListN.{length, get_or, set, length-set}
use lib.Seq.{get_or-set_same, get_or-set_other, get_or-drop}
use Rattle.sets.specs.Tests.{Set, one, count}
use Rattle.sets.specs.Lists.{tabulate}
use Rattle.sets.proofs.Lists.{length-tabulate}
use Rattle.live_spec.specs.Afresh.{is_in}
use Rattle.live_spec.specs.State.{set_at, set_bytes}
use Rattle.live_spec.specs.Effects.{put}
use Rattle.live_spec.proofs.Steps.{one-low, table_at}
use Rattle.live_set.proofs.Puts.{put-ext}
use Rattle.live_set.specs.Sweeps.{flag_of_lem}

-- the first i are written and counted
pub record Showing (f : Set) (before after : List ℕ) (members i : ℕ) : Type 0 where
  pub long : length after ≡ length before
  pub counted : members ≡ count i f
  pub few : members ≤ i
  pub done : (j : ℕ) → j < i → get_or after j 0 ≡ one (f j)
  pub rest : (j : ℕ) → i ≤ j → get_or after j 0 ≡ get_or before j 0

module _ (f : Set) (before : List ℕ) where
  pub showing-start : Showing f before before 0 0
  unfolding count
  showing-start = record { long = refl; counted = refl; few = omega arith; done = λ j l. absurd (omega arith); rest = λ j l. refl }

  pub showing-next : (after : List ℕ) (members i v : ℕ) → i < length before → v ≡ one (f i) → Showing f before after members i → Showing f before (set after i v) (members + v) (i + 1)
  unfolding count
  showing-next after members i v l e s = record {
    long = length-set after i v ∙ s.long;
    counted = rw add-one (omega (arith, s.counted, e));
    few = omega (arith, s.few, e, one-low (f i));
    done = λ j k.
        by_cases (ℕ_discrete j i)
        (λ x. rw x (get_or-set_same after i v 0 (omega (arith, s.long)) ∙ e))
        (λ x. get_or-set_other after i j v 0 x ∙ s.done j (omega arith));
    rest = λ j k. get_or-set_other after i j v 0 (λ x. omega arith) ∙ s.rest j (omega arith);
  }

  pub showing-end : (after : List ℕ) (members n : ℕ) → n ≤ length before → Showing f before after members n → after ≡ put 0 (tabulate n (λ y. one (f y)) 0) before
  showing-end after members n l s =
      let part = tabulate n (λ y. one (f y)) 0 in
      let long : length part ≡ n = length-tabulate n (λ y. one (f y)) 0 in
      put-ext 0 part before (omega arith) after s.long
      (λ j k. absurd (omega arith))
      (λ j k. let m : j < n = omega arith in ap (λ (x : ℕ). get_or after x 0) (zero-add j) ∙ s.done j m ∙ sym (table_at n (λ y. one (f y)) j m))
      (λ j k. s.rest j (omega arith))

-- the byte of a macrostate
pub shown-at : (state : List ℕ) (i : ℕ) → flag_of_lem (get_or state (set_at + i) 0) ≡ one (is_in (set_bytes state) i)
shown-at state i = ap flag_of_lem (sym (get_or-drop set_at state i 0))
