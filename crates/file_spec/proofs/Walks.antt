-- `some_below`, by a walk that stops at the first number where the test holds.
use Prim.Native.Nat.{ℕ, ◌+◌, ◌<◌}
use mathlib.Core.Path.{◌≡◌, ap, sym, ◌∙◌}
use mathlib.Core.Bool.{true, false}
use native.Mathlib.Numerals.{add-one}
use Rattle.sets.specs.Tests.{Set, some_below}
use Rattle.sets.proofs.Tests.{some_at}

-- no number below k + 1
pub some_next : (k : ℕ) (f : Set) → some_below k f ≡ false → f k ≡ false → some_below (k + 1) f ≡ false
some_next k f h e = unfold some_below in rw (add-one k, h, e)

-- where the walk has come to the end
pub some_end : (k n : ℕ) (f : Set) → k ≡ n → some_below k f ≡ false → false ≡ some_below n f
some_end k n f e h = sym (ap (λ (x : ℕ). some_below x f) (sym e) ∙ h)

-- where the walk stops
pub some-stop : (n : ℕ) (f : Set) (k : ℕ) → k < n → f k ≡ true → true ≡ some_below n f
some-stop n f k l e = sym (some_at n f k l e)
