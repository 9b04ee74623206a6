-- Row 15 tried on the transitions of a table, and a letter's step on the way.
use Rattle.std.specs.Prelude.{◌≡◌, Bool, true, false, ◌&&◌, not, cond, ℕ, ◌+◌, ◌%◌, ◌<◌, eqb, ltb, length, get_or}
use mathlib.Core.List.{List, Memᴰ}
use Rattle.sets.specs.Lists.{any_of}
use Rattle.theory.specs.Run.{source_of}
use Rattle.slice_search.specs.Places.{ascends}
use Rattle.table_lent.specs.Lent.{is_astray_lem}
use Rattle.live_spec.specs.Afresh.{stepped}
use Rattle.live_set.specs.Sweeps.{moved, Swept}

-- what row 15 asks of the transitions, with n codes and s letters
unfoldable pub passes : ℕ → ℕ → List ℕ → Bool
passes n s ts = ascends ts && not (any_of ts (is_astray_lem n s))

-- the four numbers from place i on ascend from above x
unfoldable pub rises_four : ℕ → List ℕ → ℕ → Bool
rises_four x xs i =
    ltb x (get_or xs i 0)
    && (ltb (get_or xs i 0) (get_or xs (i + 1) 0) && (ltb (get_or xs (i + 1) 0) (get_or xs (i + 2) 0) && ltb (get_or xs (i + 2) 0) (get_or xs (i + 3) 0)))

-- one comparison tells the transitions over other letters than a that are in range: their targets are below the limit of their letter
unfoldable pub limit_of_lem : ℕ → ℕ → ℕ → ℕ → ℕ
limit_of_lem s n a l = cond (ltb l s && not (eqb l a)) n 0

-- whether the sources are below n
pub record Sourced (n : ℕ) (ts : List ℕ) (r : Bool) : Type 0 where
  pub yes : r ≡ true → (t : ℕ) → Memᴰ t ts → source_of t < n
  pub no : r ≡ false → (s : ℕ) → any_of ts (is_astray_lem n s) ≡ true

-- whether a transition is in range; only then it is swept
pub record Told (s a t : ℕ) (before after : List ℕ) (r : Bool) : Type 0 where
  pub verdict : r ≡ not (is_astray_lem (length before) s t)
  pub yes : r ≡ true → after ≡ moved a t before
  pub no : r ≡ false → after ≡ before

-- whether all are in range: if so all are swept, else what was swept can be taken back
pub record Tried (s a : ℕ) (ts before after : List ℕ) (r : Bool) : Type 0 where
  pub verdict : r ≡ not (any_of ts (is_astray_lem (length before) s))
  pub swept : r ≡ true → Swept a ts before after
  pub long : length after ≡ length before
  pub low : (y : ℕ) → y < length before → get_or after y 0 % 2 ≡ get_or before y 0

-- whether they pass: if so the set is the one after the letter, else as it was
pub record Stepped (s a : ℕ) (ts before after : List ℕ) (r : Bool) : Type 0 where
  pub verdict : r ≡ passes (length before) s ts
  pub yes : r ≡ true → after ≡ stepped (length before) ts a before
  pub no : r ≡ false → after ≡ before
