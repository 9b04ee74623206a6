-- The states that a state leads to in one step, letter by letter.
use mathlib.Core.Path.{◌≡◌}
use mathlib.Core.Bool.{false}
use Prim.Native.Nat.{ℕ, ◌+◌, ◌<◌, ◌≤◌}
use native.Mathlib.Numerals.{add-one}
use lib.Bits.{bit_or}
use Rattle.sets.specs.Tests.{some_below}
use Rattle.sets.specs.Masks.{bit, mask}
use Rattle.sets.proofs.Tests.{some-none}
use Rattle.sets.proofs.Masks.{bit_mask}
use Rattle.sets.proofs.Bits.{bit-or}
use Rattle.theory.specs.Rule.{Rule, entry}
use Rattle.theory.specs.Components.{named, leads}
use Rattle.theory.specs.Passing.{WellFormed}
use Rattle.rule_entries.proofs.Entries.{entry-states, named-high}

-- the states named at the letters before a, and at a
pub leads-next : (r : Rule) (q a found m p : ℕ) → p < 8 → m ≡ mask 8 (named (entry r q a)) → bit found p ≡ some_below a (λ b. named (entry r q b) p)
    → bit (bit_or found m) p ≡ some_below (a + 1) (λ b. named (entry r q b) p)
leads-next r q a found m p l e h = unfold some_below in rw (add-one a, bit-or found m p, h, e, bit_mask 8 (named (entry r q a)) p l)

pub leads-high : (r : Rule) → WellFormed r → (q : ℕ) → q < r.n → (p : ℕ) → r.n ≤ p → leads r q p ≡ false
unfolding leads
leads-high r w q l p k = some-none r.s (λ a. named (entry r q a) p) (λ a m. named-high r.n (entry r q a) (entry-states r w q a l m) p k)
