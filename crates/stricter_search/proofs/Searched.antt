-- What the search knows of the tables of accepted files.
use mathlib.Core.Path.{refl}
use mathlib.Core.List.{List}
use Prim.Native.Nat.{ℕ, ◌≤◌}
use lib.ListN.{length}
use Rattle.sets.specs.Tests.{Set}
use Rattle.theory.specs.Rule.{Rule}
use Rattle.theory.specs.TableComputed.{macrostates_from}
use Rattle.file_spec.specs.declared.Layout.{Layout}
use Rattle.file_spec.specs.File.{rule_in}
use Rattle.stricter_spec.specs.Search.{Searchable}
use Rattle.stricter_laws.proofs.OneParent.{searchable}
use Rattle.stricter_search.specs.Lists.{FileLists}
use Rattle.stricter_search.proofs.FileTables.{file-table}

-- the table is one that the search takes
pub file-searchable : {f : List ℕ} {l : Layout} {start : Rule → Set} {codes moves : List ℕ} → FileLists f l start codes moves → Searchable codes moves
file-searchable {f} {start = start} L =
    let T = file-table L refl in
    let room : length (macrostates_from (rule_in f) (start (rule_in f))) ≤ 65536 = rw T.codes_are at T.few in
    rw (T.codes_are, T.moves_are) (searchable T.passing (start (rule_in f)) room)
