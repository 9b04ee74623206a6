-- What the loops over transitions use beside the pass of marks (`pass-over`, Marking).
use mathlib.Core.Path.{◌≡◌, sym}
use mathlib.Core.Bool.{Bool}
use mathlib.Core.List.{List}
use Prim.Native.Nat.{ℕ}
pub use Rattle.graph_walks.proofs.Loops.{or-now, or-before}
use Rattle.table_fixpoints_spec.specs.Marks.{marked_all, is_new_all}

-- targets numbered from a on, or from b on where the two are equal
pub all_same : (letter here a b : ℕ) (ts ms new : List ℕ) (r : Bool) → a ≡ b
    → (new ≡ marked_all letter here a ts ms) × (r ≡ is_new_all letter here a ts ms) → (new ≡ marked_all letter here b ts ms) × (r ≡ is_new_all letter here b ts ms)
all_same letter here a b ts ms new r e q = rw (sym e) q
