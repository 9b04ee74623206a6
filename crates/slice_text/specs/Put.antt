-- What the functions that write text leave in a slice.
use Rattle.std.specs.Prelude.{◌≡◌, List, ◌++◌, ℕ, ◌+◌, ◌≤◌, length, take, drop}

-- the slice old is now new: from place at on it holds the text s, which ends before place end, and is otherwise as it was
pub record Put (old : List ℕ) (at : ℕ) (s new : List ℕ) (end : ℕ) : Type 0 where
  pub ends : end ≡ at + length s
  pub fits : end ≤ length old
  pub text : new ≡ (take at old ++ s) ++ drop end old
