-- The set of macrostates that letters lead to, of any number of letters, and when it was empty for the first time.
use Rattle.std.specs.Prelude.{cond, List, [], ◌∷◌, ℕ, suc, eqb}
use Rattle.sets.specs.Lists.{tabulate}
use Rattle.sets.specs.Tests.{one}
use Rattle.live_spec.specs.Afresh.{is_in, stepped, stepped_over, members_of}

-- "takes the set, a byte that is not 0 being in", of n macrostates, as bytes 0 or 1
unfoldable pub flags : ℕ → List ℕ → List ℕ
flags n set = tabulate n (λ y. one (is_in set y)) 0

-- "over the letters, .. any number of them, and leaves the set that is reached, bytes 0 or 1"
unfoldable pub reached : ℕ → List ℕ → List ℕ → List ℕ → List ℕ
reached n transitions letters set = stepped_over n transitions letters (flags n set)

-- "after how many letters none was left for the first time (0, if none was in the set to begin with), or the number of all letters where some are left"
unfoldable pub emptied_after : ℕ → List ℕ → List ℕ → List ℕ → ℕ
emptied_after n transitions [] set = 0
emptied_after n transitions (a ∷ l) set = cond (eqb (members_of n set) 0) 0 (suc (emptied_after n transitions l (stepped n transitions a set)))
