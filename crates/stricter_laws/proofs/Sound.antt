-- More nodes that are in.
use mathlib.Core.List.{List}
use Prim.Native.Nat.{ℕ, ◌<◌}
use lib.ListN.{get_or}
use Rattle.sets.specs.Tests.{Set}
use Rattle.stricter_laws.specs.Sound.{Onto}

module _ {E : ℕ → ℕ → Type 0} where
  pub onto-more : {accepts : Set} {ms : List ℕ} (ns : List ℕ) → ((x : ℕ) → 0 < get_or ms x 0 → 0 < get_or ns x 0) → {x : ℕ} → Onto E accepts ms x → Onto E accepts ns x
  onto-more ns h (Onto.arrives y e l a) = Onto.arrives y e (h y l) a
  onto-more {accepts = accepts} {ms = ms} ns h (Onto.passes y e l o) = Onto.passes y e (h y l) (onto-more ns h o)
