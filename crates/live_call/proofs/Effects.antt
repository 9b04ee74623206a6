-- What is left by the call that was asked.
use mathlib.Core.Path.{◌≡◌, ap, ap₂, ◌∙◌}
use mathlib.Core.List.{List}
use Prim.Native.Nat.{ℕ}
use Rattle.live_spec.specs.Afresh.{members_of}
use Rattle.live_spec.specs.Effects.{put, shown}
use Rattle.live_spec.specs.State.{number_in, set_bytes}
use Rattle.live_call.specs.Callable.{Counted}

-- both counts and the slice of the set, of the bytes that are left
pub counted : (n k : ℕ) (left set state' set' : List ℕ) (letters macrostates : ℕ) → k ≡ n → state' ≡ left → set' ≡ put 0 (shown k state') set → macrostates ≡ members_of k (set_bytes state')
    → letters ≡ number_in state' → Counted n left set state' set' (record { letters = letters; macrostates = macrostates })
counted n k left set state' set' letters macrostates e s t m l = record {
  state_left = s;
  set_left = t ∙ ap₂ (λ (j : ℕ) (x : List ℕ). put 0 (shown j x) set) e s;
  counts = ap₂ (λ (x y : ℕ). record { letters = x; macrostates = y }) (l ∙ ap number_in s) (m ∙ ap₂ (λ (j : ℕ) (x : List ℕ). members_of j (set_bytes x)) e s);
}
