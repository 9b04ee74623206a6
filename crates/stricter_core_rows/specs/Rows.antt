-- What is asked of the transitions in a part of a row.
use Rattle.std.specs.Prelude.{◌≡◌, Bool, true, false, cond, List, ℕ, ◌+◌, ◌*◌, ◌≤◌, ◌<◌, get_or}
use Rattle.stricter_spec.specs.Tags.{onto_of_lem}

-- the mark that a step must find: 1 where it spares
abbrev pub needed : ℕ → Bool → ℕ
needed other spares = cond spares 1 other

-- whether a transition of A from place `from` up to `to` leads, beside core q of B, to a pair that has the mark it needs
pub record Met (need : ℕ → ℕ) (nb : ℕ) (left : List ℕ) (from to q : ℕ) (marks : List ℕ) (r : Bool) : Type 0 where
  pub yes : r ≡ true → (c : ℕ) × (from ≤ c) × (c < to) × (need (get_or left c 0) ≤ get_or marks (onto_of_lem (get_or left c 0) * nb + q) 0)
  pub no : r ≡ false → (c : ℕ) → from ≤ c → c < to → get_or marks (onto_of_lem (get_or left c 0) * nb + q) 0 < need (get_or left c 0)
