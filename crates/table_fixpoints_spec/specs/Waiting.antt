-- Going round the places of a cycle: which of them wait for a sweep.
use Rattle.std.specs.Prelude.{Bool, ◌&&◌, cond, ◌⊎◌, ℕ, zero, suc, ◌+◌, ◌-◌, ◌<◌, ◌≤◌, ltb}

-- the place before p in a cycle of c places; before the first comes the last
unfoldable pub place_before_lem : ℕ → ℕ → ℕ
place_before_lem c zero = c - 1
place_before_lem c (suc p) = p

-- place q is one of the `waiting` places before p, around the cycle
abbrev pub Waits : ℕ → ℕ → ℕ → ℕ → Type 0
Waits c p waiting q = ((q < p) × (p ≤ q + waiting)) ⊎ (p + c ≤ q + waiting)

-- one of them is swept: it waits no more, and if it has something new the place before it waits
unfoldable pub waiting_after_lem : Bool → ℕ → ℕ
waiting_after_lem new waiting = cond (new && ltb waiting 2) 1 (waiting - 1)
