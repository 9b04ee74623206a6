-- `cut_row` meets its contract: the mask leaves a 64-bit number as it is.
use mathlib.Core.Path.{◌≡◌, refl}
use native.Mathlib.Omega.{arith}
use Rattle.slice_search.specs.LowParts.{low_parts}
use Rattle.slice_search.proofs.LowParts.{low_same}
use Rattle.stricter_word.proofs.rows.cut_row.Statement.{statement}
use Rattle.stricter_word.proofs.rows.cut_row.Tie as tie

all-bits : (c : tie.After-shared_slice_known-1) → low_parts 18446744073709551616 c.before.args.moves.now ≡ c.before.args.moves.now
all-bits c = low_same 18446744073709551616 (omega arith) c.before.args.moves.now (λ i l. omega (arith, c.shared_slice_known-1.given i))

pub cut_row_spec : {M : Type 1} → statement M
cut_row_spec = tie.close (tie.spec
    (λ c κs. ((64, refl), rw (all-bits c) c.before.requires.0, c.before.requires.1)) (λ c. rw (all-bits c.before) at c.cut_low.ensures))
