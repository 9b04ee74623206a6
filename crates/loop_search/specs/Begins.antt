-- Where the search begins the loop that it writes.
use Rattle.std.specs.Prelude.{◌≡◌, List, ℕ, ◌<◌}
use Rattle.sets.specs.Tests.{first}
use Rattle.loop_spec.specs.Search.{begins, further}
use Rattle.loop_search.specs.declared.Start.{Start}

pub record Begins (n : ℕ) (es : List ℕ) (accepting : ℕ) (s : Start) : Type 0 where
  pub length : s.further ≡ further n es accepting
  -- where there is a mixed loop
  pub smallest : s.further < n → s.at ≡ first n (begins n es accepting s.further) 0
