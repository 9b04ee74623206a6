-- Marks while nodes are sorted out: 2 more for a node from which a walk to an accepting one is known.
use Rattle.std.specs.Prelude.{Bool, ◌&&◌, cond, List, ℕ, ◌+◌, ◌-◌, eqb, ltb, get_or, set}

-- x is in and not marked, and y is accepting or marked
unfoldable pub is_due : ℕ → ℕ → List ℕ → Bool
is_due x y ms = ltb 1 (get_or ms y 0) && (ltb 0 (get_or ms x 0) && ltb (get_or ms x 0) 3)

-- x is then marked
unfoldable pub marked : ℕ → ℕ → List ℕ → List ℕ
marked x y ms = cond (is_due x y ms) (set ms x (get_or ms x 0 + 2)) ms

-- x is marked and not accepting: others may be marked for it from now on
unfoldable pub is_new : ℕ → ℕ → List ℕ → Bool
is_new x y ms = is_due x y ms && eqb (get_or ms x 0) 1

-- a node that is not marked goes out, another loses its mark
unfoldable pub settled : ℕ → ℕ
settled v = cond (ltb v 3) 0 (v - 2)

-- an accepting node goes out: others may have none to walk to from now on
unfoldable pub goes_out_lem : ℕ → Bool
goes_out_lem v = eqb v 2
