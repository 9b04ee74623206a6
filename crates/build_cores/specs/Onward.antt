-- How component and classes left go on, on the tables of the step back. A pair of K and k is the number K + 16 k.
use Rattle.std.proofs.Math.Bool.{cond}
use Rattle.std.specs.Prelude.{List, ℕ, suc, ◌+◌, ◌*◌, ◌/◌, ◌%◌, ◌^◌, eqb, get_or}
use Rattle.build_cores.specs.Used.{class_count_lem}

-- 01: "the next component (after the last, component 0)"
unfoldable pub next_in : ℕ → ℕ → ℕ
next_in components c = cond (eqb (suc c) components) 0 (suc c)

-- ranks are those of the later core, levels those of the step back to the earlier one
module _ (ranks : ℕ) (parts : List ℕ) (components : ℕ) (levels : List ℕ) where
  -- the number of classes of component c
  abbrev pub classes_at : ℕ → ℕ
  classes_at c = class_count_lem ranks (get_or parts c 0)

  -- the largest level of the k lowest classes of component c
  abbrev pub level_at : ℕ → ℕ → ℕ
  level_at c k = get_or levels c 0 / 2 ^ (4 * k) % 16

  unfoldable pub onward_in : ℕ → ℕ
  unfolding next_in
  onward_in pair = cond (eqb (pair / 16) 0) (next_in components (pair % 16) + 16 * classes_at (next_in components (pair % 16))) (pair % 16 + 16 * level_at (pair % 16) (pair / 16))
