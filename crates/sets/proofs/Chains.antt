-- What `any` and `all` answer, over a list and over the numbers below n, in the words of this crate.
use Rattle.std.proofs.Common.{◌≡◌, refl, sym, ℕ, ◌<◌, Bool, true, false, List, length, get_or}
use Rattle.std.proofs.lemmas.List.Recursion.{or_is, and_is}
use Rattle.sets.specs.Tests.{Set, some_below, every}
use Rattle.sets.specs.Lists.{any_of, all_of}
use Rattle.sets.proofs.Lists.{any-cons}
use Rattle.sets.proofs.Tests.{some_at, some-none, every-all, every-stop}

pub any_is : (f : Set) (xs : List ℕ) (r : Bool) → (r ≡ true → (i : ℕ) × (i < length xs) × (f (get_or xs i 0) ≡ true)) → (r ≡ false → (i : ℕ) → i < length xs → f (get_or xs i 0) ≡ false) → r ≡ any_of xs f
unfolding any_of
any_is f xs r = or_is (λ ys. any_of ys f) f refl (any-cons f) xs 0 r

pub all_is : (f : Set) (xs : List ℕ) (r : Bool) → (r ≡ true → (i : ℕ) → i < length xs → f (get_or xs i 0) ≡ true) → (r ≡ false → (i : ℕ) × (i < length xs) × (f (get_or xs i 0) ≡ false)) → r ≡ all_of xs f
unfolding all_of
all_is f xs r = and_is (λ ys. all_of ys f) f refl (λ _ _. refl) xs 0 r

pub some_is : (n : ℕ) (f : Set) (r : Bool) → (r ≡ true → (i : ℕ) × (i < n) × (f i ≡ true)) → (r ≡ false → (i : ℕ) → i < n → f i ≡ false) → r ≡ some_below n f
some_is n f true so not_so = let h = so refl in sym (some_at n f h.0 h.1 h.2)
some_is n f false so not_so = sym (some-none n f (not_so refl))

pub every_is : (n : ℕ) (f : Set) (r : Bool) → (r ≡ true → (i : ℕ) → i < n → f i ≡ true) → (r ≡ false → (i : ℕ) × (i < n) × (f i ≡ false)) → r ≡ every n f
every_is n f true so not_so = sym (every-all n f (so refl))
every_is n f false so not_so = let h = not_so refl in sym (every-stop n f h.0 h.1 h.2)
